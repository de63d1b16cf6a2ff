-- Statements are refused at the first one that is refused, or at their end.
use Rattle.std.proofs.Common.{◌≡◌, ℕ, cond, List, [], ◌∷◌, ◌++◌, Option, Some, None, refl, sym, subst, append_assoc}
use Rattle.std.specs.Prelude.{find}
use Rattle.std.proofs.lemmas.List.{append-nil}
use Rattle.cts_def.specs.Packets.{DefinitionsData}
use Rattle.cts_words.specs.declared.statement.Statement.{Statement}
use Rattle.cts_words.specs.Refusals.{or_else, first_refusal}
use Rattle.cts_reader.proofs.FirstRefused as frame
use Rattle.cts_reader.proofs.FirstRefused.{no_cause}
use Rattle.cts_plan.specs.declared.draft.Draft.{Draft}
use Rattle.cts_plan.specs.declared.keyword.Keyword.{Keyword}
use Rattle.cts_plan.specs.declared.line.Line.{Line}
use Rattle.cts_plan.specs.Lines.{line_of}
use Rattle.cts_plan.specs.Causes.{holds, order}
use Rattle.cts_reader.specs.Reading.{at_line}
use Rattle.cts_plan.specs.Completing.{Refused, due}
use Rattle.cts_plan.specs.SiteFiles.{parts, opens, ready, line_in, cause_in, after, refusal, at_end, site_in}
use Rattle.cts_plan.proofs.Completed.{none_left}
use Rattle.cts_plan_laws.specs.Laws.{RefusesTheFirst, TakesTheOthers, StatementsSayLines}

pub refuses_the_first : RefusesTheFirst
refuses_the_first d all r = frame.refuses_the_first (refusal d) (at_end d) (λ ss. site_in (after d ss)) all r

pub takes_the_others : TakesTheOthers
takes_the_others d all none ends = frame.takes_the_others (refusal d) (at_end d) (λ ss. site_in (after d ss)) all none ends

said : (s : Draft) (n : ℕ) (o : Option Refused) (p : Option (Keyword × List (List ℕ))) → or_else o (at_line n (cause_in (ready p s) n p)) ≡ None → (l : Line) × (line_in n p ≡ Some l)
said s n o (Some p) e = (line_of n p.0 p.1, refl)
said s n (Some r) None e = absurd cc
said s n None None e = absurd cc

pub statements_say_lines : StatementsSayLines
statements_say_lines d before s e =
    let stands = after d before in
    said stands s.line (cond (opens (parts s.words)) (due stands) None) (parts s.words) e

-- no cause holds of a statement that is not refused
pub none_holds : (s : Draft) (n : ℕ) (p : Keyword × List (List ℕ)) → or_else (cond (opens (Some p)) (due s) None) (at_line n (cause_in (ready (Some p) s) n (Some p))) ≡ None
    → find (λ c. holds c (ready (Some p) s) p.0 p.1 (line_of n p.0 p.1)) order ≡ None
none_holds s n p e = no_cause n (cause_in (ready (Some p) s) n (Some p)) (none_left (cond (opens (Some p)) (due s) None) (at_line n (cause_in (ready (Some p) s) n (Some p))) e).1

-- what each statement that is not refused keeps holds of them all
pub through : (P : List Statement → Type 0) (d : DefinitionsData) → ((before : List Statement) (s : Statement) → P before → refusal d before s ≡ None → P (before ++ s ∷ []))
    → (before rest : List Statement) → P before → first_refusal (refusal d) (at_end d) before rest ≡ None → P (before ++ rest) × (at_end d (before ++ rest) ≡ None)
through P d keeps before [] h e = subst (λ (b : List Statement). P b × (at_end d b ≡ None)) (sym (append-nil before)) (h, e)
through P d keeps before (s ∷ rest) h e =
    let parts = none_left (refusal d before s) (first_refusal (refusal d) (at_end d) (before ++ s ∷ []) rest) e in
    subst (λ (b : List Statement). P b × (at_end d b ≡ None)) (append_assoc before (s ∷ []) rest)
    (through P d keeps (before ++ s ∷ []) rest (keeps before s h parts.0) parts.1)
