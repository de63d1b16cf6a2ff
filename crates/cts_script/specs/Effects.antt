-- The line of what an event gives besides its entries.
use Rattle.std.specs.Prelude.{ℕ, List, [], ◌∷◌, ◌++◌, length, codes, Option, None, Some}
use Rattle.std.specs.Fmt.{decimal}
use Rattle.cts_def.specs.Sites.{SiteData}
use Rattle.cts_entry.specs.declared.event.Effect.{Effect}
use Rattle.cts_entry.specs.declared.event.Effect.TheVariants.{Posted, Reply, Written, Logged, Routed}
use Rattle.cts_script.specs.Lines.{hex_or_dash, maker_text}
use Rattle.cts_def.specs.Names.{interface_name}
use Rattle.cts_script.specs.Spacing.{spaced}

-- a desk, which an effect names by its d
abbrev pub desk_text : ℕ → List ℕ
desk_text desk = codes "DESK/" ++ decimal desk

-- a response, and a dash for none
abbrev pub text_or_dash : Option (List ℕ) → List ℕ
text_or_dash None = codes "-"
text_or_dash (Some text) = text

-- the line with its line end; where nothing but entries is given there is no line
abbrev pub effect_line : SiteData → Effect → List ℕ
effect_line site Posted = []
effect_line site (Reply desk front text) = spaced (codes "REPLY" ∷ desk_text desk ∷ decimal front ∷ text_or_dash text ∷ []) ++ (10 ∷ [])
effect_line site (Written interface bytes) = spaced (codes "WRITTEN" ∷ interface_name site interface ∷ hex_or_dash bytes ∷ []) ++ (10 ∷ [])
effect_line site (Logged tlm cmd) = spaced (codes "LOGGED" ∷ decimal (length tlm) ∷ decimal (length cmd) ∷ []) ++ (10 ∷ [])
effect_line site (Routed slot bytes) = spaced (codes "ROUTED" ∷ maker_text site slot ∷ hex_or_dash bytes ∷ []) ++ (10 ∷ [])
