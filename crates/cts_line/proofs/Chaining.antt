-- The chain of a line stays that of its site.
use Rattle.std.proofs.Common.{ℕ, refl, ◌∙◌}
use Rattle.cts_chain.specs.Shapes.{ChainData, IsSameChain}
use Rattle.cts_chain.proofs.Anew.{same_framings}
use Rattle.cts_def.specs.Sites.{SiteData}
use Rattle.cts_line.specs.Talks.{Suits}

pub suits_same : (site : SiteData) (m : ℕ) (c d : ChainData) → IsSameChain c d → Suits site m c → Suits site m d
suits_same site m c d same s = record { framings = same_framings c d same ∙ s.framings; writing = same.writers ∙ s.writing }

pub same_self : (c : ChainData) → IsSameChain c c
same_self c = record { stages = refl; writers = refl }
