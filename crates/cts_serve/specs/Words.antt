-- What the words of the command line ask for, where they ask for a server.
use Rattle.std.specs.Prelude.{ℕ, List, [], ◌∷◌, codes, Option, Some, None, if◌then◌else◌}
use Rattle.cts_run.specs.Words.{is_word}

-- the names of the definitions and of the site, where the words ask for a server
abbrev pub asked_to_serve : List (List ℕ) → Option (List ℕ × List ℕ)
asked_to_serve (command ∷ definitions ∷ site ∷ []) = if is_word command (codes "serve") then Some (definitions, site) else None
asked_to_serve words = None
