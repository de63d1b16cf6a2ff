-- A statement that is taken changes what stands as its line says, and one that is refused is so.
use Rattle.std.proofs.Common.{◌≡◌, ℕ, List, ◌∷◌, [], ◌++◌, Some, Ok, Err, sym, ap, ◌∙◌}
use Rattle.cts_reader.specs.declared.fault.Fault.{Fault}
use Rattle.cts_reader.specs.Reading.{Fails, Judged, TakesBehind, Reads}
use Rattle.cts_reader.proofs.FirstRefused.{fails, said-more}
use Rattle.cts_defstatement.specs.declared.cause.DefCause.{DefCause}
use Rattle.cts_defstatement.specs.declared.line.Line.{Line}
use Rattle.cts_defstatement.specs.Lines.{line_in}
use Rattle.cts_words.specs.declared.statement.Statement.{Statement}
use Rattle.cts_defread.specs.declared.draft.Draft.{Draft}
use Rattle.cts_defread.specs.declared.drafted.Drafted.{Drafted}
use Rattle.cts_defread.specs.Definitions.{lines_of, refusal_in, refusal, at_end, definitions_of}
use Rattle.cts_defread.specs.Drafts.{IsKept, Stands}
use Rattle.cts_defread.specs.Standing.{standing, set_names_of, definitions_in, definitions_at}
use Rattle.cts_defread.specs.Steps.{place, place_set}
use Rattle.cts_defread.proofs.InOrder.{takes_the_others}
use Rattle.cts_defread.proofs.More.{standing-more}
use Rattle.cts_defread.proofs.Sets.{set_names-more}

lines-more : (before : List Statement) (s : Statement) (l : Line) → line_in s.words ≡ Some l → lines_of (before ++ s ∷ []) ≡ lines_of before ++ l ∷ []
lines-more before s l e = said-more (λ (t : Statement). line_in t.words) before s l e

-- the refusal of the next statement, by what the draft holds
refusal_here : (draft : Draft) (before : List Statement) (s : Statement) → Stands draft before → refusal before s ≡ refusal_in draft.packets.items draft.set_names.items s
refusal_here draft before s h =
    ap (λ (ps : List Drafted). refusal_in ps (set_names_of (lines_of before)) s) (sym h.packets)
    ∙ ap (λ (ss : List (List ℕ)). refusal_in draft.packets.items ss s) (sym h.sets)

pub is_taken : (old new : Draft) (before : List Statement) (s : Statement) (l : Line) → Stands old before → Judged (refusal_in old.packets.items old.set_names.items s) (line_in s.words) (Ok l)
    → new.packets.items ≡ place l old.packets.items → new.set_names.items ≡ place_set l old.set_names.items → IsKept new → TakesBehind refusal (Stands new) before s (Ok tt)
is_taken old new before s l h judged placed sets kept = (
  refusal_here old before s h ∙ judged.0,
  record {
    packets = placed ∙ ap (place l) h.packets ∙ sym (ap standing (lines-more before s l judged.1) ∙ standing-more (lines_of before) l);
    sets = sets ∙ ap (place_set l) h.sets ∙ sym (ap set_names_of (lines-more before s l judged.1) ∙ set_names-more (lines_of before) l);
    kept = kept;
  },
)

-- a pass that ended at a refusal
pub is_failed : (draft : Draft) (all : List Statement) (e : Fault DefCause) → Reads refusal (Stands draft) all (Err e) → Fails e (definitions_of all)
is_failed draft all e h = fails refusal at_end (λ ss. definitions_at (lines_of ss)) (Stands draft) all e h

pub is_done : (draft : Draft) (all : List Statement) → Reads refusal (Stands draft) all (Ok tt) → definitions_of all ≡ Ok (definitions_in draft.packets.items draft.set_names.items)
is_done draft all h =
    takes_the_others all h.0
    ∙ ap (λ (ps : List Drafted). Ok (definitions_in ps (set_names_of (lines_of all)))) (sym h.1.packets)
    ∙ ap (λ (ss : List (List ℕ)). Ok (definitions_in draft.packets.items ss)) (sym h.1.sets)
