-- Laws of the lines of entries.
use Rattle.std.proofs.Common.{◌≡◌, ◌∙◌, ℕ, ◌+◌, ◌<◌, List, [], ◌∷◌, ◌++◌, length, take, get_or, sym, ap, arith, append_assoc, length-take, length-append}
use Rattle.std.proofs.lemmas.List.{take_more, append-nil}
use Rattle.cts_entry.specs.declared.entry.Entry.{Entry}
use Rattle.cts_def.specs.Sites.{SiteData}
use Rattle.cts_script.specs.declared.limits_event.LimitsEvent.{LimitsEvent}
use Rattle.cts_script.specs.Transcripts.{entry_lines, lines_after}
use Rattle.cts_script.specs.Laws.{LinesJoin}

pub lines_after-append : LinesJoin
lines_after-append site events history [] second = ap (λ (h : List Entry). lines_after site events h second) (sym (append-nil history))
lines_after-append site events history (e ∷ first) second =
    let head : List ℕ = entry_lines site (length history) e (events history e) in
    ap (λ (text : List ℕ). head ++ text) (lines_after-append site events (history ++ e ∷ []) first second)
    ∙ (sym (append_assoc head (lines_after site events (history ++ e ∷ []) first) (lines_after site events ((history ++ e ∷ []) ++ first) second))
    ∙ ap (λ (h : List Entry). (head ++ lines_after site events (history ++ e ∷ []) first) ++ lines_after site events h second) (append_assoc history (e ∷ []) first))

-- the lines of one more entry
pub lines_after-take_more : (site : SiteData) (events : List Entry → Entry → List LimitsEvent) (history es : List Entry) (i : ℕ) (e : Entry) → i < length es → e ≡ get_or es i e
    → lines_after site events history (take (i + 1) es) ≡ lines_after site events history (take i es) ++ entry_lines site (length history + i) e (events (history ++ take i es) e)
lines_after-take_more site events history es i e below is =
    let after : List Entry = history ++ take i es in
    let count : length after ≡ length history + i = simp length-append (grind (arith, length-take {A = Entry})) in
    let one : take (i + 1) es ≡ take i es ++ e ∷ [] = take_more es i e below ∙ ap (λ x. take i es ++ x ∷ []) (sym is) in
    ap (lines_after site events history) one
    ∙ (lines_after-append site events history (take i es) (e ∷ [])
    ∙ ap (λ (text : List ℕ). lines_after site events history (take i es) ++ text) (append-nil (entry_lines site (length after) e (events after e))
    ∙ ap (λ (n : ℕ). entry_lines site n e (events after e)) count))
