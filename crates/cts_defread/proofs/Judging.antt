-- What is known of a line that was judged by what stands.
use Rattle.std.proofs.Common.{◌≡◌, ℕ, List, Option, Some, None, Result, Ok, Err, sym, ap, ◌∙◌, subst}
use Rattle.std.specs.Prelude.{IfOk}
use Rattle.cts_reader.specs.declared.fault.Fault.{Fault}
use Rattle.cts_reader.specs.declared.fault.Fault.TheVariants as fault
use Rattle.cts_reader.specs.Reading.{Judged, Settles, at_line}
use Rattle.cts_reader.proofs.FirstRefused.{no_cause}
use Rattle.cts_words.specs.declared.statement.Statement.{Statement}
use Rattle.cts_words.specs.Refusals.{Refusal, or_else}
use Rattle.cts_defstatement.specs.declared.cause.DefCause.{DefCause}
use Rattle.cts_defstatement.specs.declared.line.Line.{Line}
use Rattle.cts_defstatement.specs.declared.open.PacketKind.{PacketKind}
use Rattle.cts_defstatement.specs.Lines.{line_in}
use Rattle.cts_defstatement.specs.Refusals.{word_cause}
use Rattle.cts_defstatement.specs.Rules.{KeepsRules}
use Rattle.cts_defread.specs.declared.drafted.Drafted.{Drafted}
use Rattle.cts_defread.specs.Causes.{opened, place_cause}
use Rattle.cts_defread.specs.Definitions.{cause_of_line, refusal_in}

judged_as : (refusal given : Option (Refusal DefCause)) (o : Option Line) (said : Line) (r : Result Line (Fault DefCause)) → refusal ≡ given → o ≡ Some said → Settles r given → IfOk r (λ l. l ≡ said)
    → Judged refusal o r
judged_as refusal given o said (Ok l) e is none same = (e ∙ none, is ∙ ap Some (sym same))
judged_as refusal given o said (Err fault.Memory) e is h same = tt
judged_as refusal given o said (Err (fault.Refused n c)) e is h same = e ∙ h

-- a line that is not refused for its words is judged by what stands
pub judged : (packets : List Drafted) (sets : List (List ℕ)) (s : Statement) (said : Line) (cause : Option DefCause) (r : Result Line (Fault DefCause))
    → at_line s.line (word_cause (opened packets) s.words) ≡ None → line_in s.words ≡ Some said → cause ≡ place_cause packets sets said → Settles r (at_line s.line cause) → IfOk r (λ l. l ≡ said)
    → Judged (refusal_in packets sets s) (line_in s.words) r
judged packets sets s said cause r none is placed settled same =
    let here : refusal_in packets sets s ≡ at_line s.line cause =
    ap (λ o. at_line s.line (or_else o (cause_of_line packets sets (line_in s.words)))) (no_cause s.line (word_cause (opened packets) s.words) none)
    ∙ ap (λ (o : Option Line). at_line s.line (cause_of_line packets sets o)) is
    ∙ ap (at_line s.line) (sym placed) in
    judged_as (refusal_in packets sets s) (at_line s.line cause) (line_in s.words) said r here is settled same

pub clean : (packets : List Drafted) (sets : List (List ℕ)) (n : ℕ) (said : Line) (cause : Option DefCause) (r : Result Line (Fault DefCause))
    → cause ≡ place_cause packets sets said → Settles r (at_line n cause) → IfOk r (λ l. l ≡ said) → IfOk r (λ l. place_cause packets sets l ≡ None)
clean packets sets n said cause (Ok l) placed none same = ap (place_cause packets sets) same ∙ sym placed ∙ no_cause n cause none
clean packets sets n said cause (Err e) placed h same = tt

pub kept : (k : Option PacketKind) (said : Line) (r : Result Line (Fault DefCause)) → KeepsRules k said → IfOk r (λ l. l ≡ said) → IfOk r (λ l. KeepsRules k l)
kept k said (Ok l) rules same = subst (KeepsRules k) (sym same) rules
kept k said (Err e) rules same = tt
