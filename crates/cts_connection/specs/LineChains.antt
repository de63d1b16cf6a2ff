-- The chains of a site's lines, in order of their places: that of each interface, and then that of each router twice, once for either
-- of its slots.
use Rattle.std.specs.Prelude.{List, [], ◌∷◌, ◌++◌}
use Rattle.std.specs.List.{flat_map}
use Rattle.cts_chain.specs.Builds.{all_uses}
use Rattle.cts_def.specs.Protocols.{UseData}
use Rattle.cts_def.specs.Sites.{SiteData}
use Rattle.cts_framing.specs.Chains.{interface_chains, router_chains}

abbrev pub twice : List UseData → List (List UseData)
twice chain = chain ∷ chain ∷ []

abbrev pub line_chains : SiteData → List (List UseData)
line_chains site = interface_chains site ++ flat_map twice (router_chains site)

-- the uses of all of them
abbrev pub line_uses : SiteData → List UseData
line_uses site = all_uses (line_chains site)
