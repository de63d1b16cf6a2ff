-- What is dumped of the parts of a log that a stop leaves.
use Rattle.std.proofs.Common.{◌≡◌, ◌<◌, ◌≤◌, ℕ, Bool, true, false, List, [], ◌∷◌, ◌++◌, length, take, drop, map, Option, Some, Result, Ok, Err, ◌⊎◌, inl, inr, refl, sym, ◌∙◌, ap, subst, arith, append-nil}
use Rattle.std.specs.List.{All, flat_map}
use Rattle.std.proofs.lemmas.List.{take-append-drop}
use Rattle.std.proofs.lemmas.List.Elements.{All-head, All-tail}
use Rattle.cts_framing.specs.Patterns.{begins}
use Rattle.cts_framing.proofs.Fronts.{begins_front}
use Rattle.cts_log.specs.Files.{log_head, log_head_len}
use Rattle.cts_log.specs.Logged.{Logged}
use Rattle.cts_log.specs.Reading.{HasNoHead, IsLogRead}
use Rattle.cts_log.specs.declared.kind.LogKind.{LogKind}
use Rattle.cts_log.proofs.ReadOnce.{logs_are_read_once, no_head_no_read}
use Rattle.cts_log_parts.specs.Parts.{groups_of, log_parts}
use Rattle.cts_log_parts.specs.Stops.{AreRead, IsLastRead, IsPartRead, read_of}
use Rattle.cts_log_parts.proofs.Leaving.{stops_leave}
use Rattle.cts_log_parts.proofs.PartsRead.{parts_are_read, synced_are_read}
use Rattle.cts_run.specs.Acts.{Act}
use Rattle.cts_run.specs.Dump.{AreDumped, AreLines, GoesOn, IsDump, IsFileDump, head_after, log_phase, other_head}
use Rattle.cts_run.specs.Laws.{IsWholeLog, StopsAreDumped}
use Rattle.cts_run.specs.Load.{bytes_of}
use Rattle.cts_run.specs.Load.Files.{log_limit}
use Rattle.cts_run.specs.declared.halt.Halt.{Halt}
use Rattle.cts_run.proofs.DumpLemmas.{below, lines_then}
use Rattle.cts_run.proofs.DumpedLemmas.{IsFileDue, another_head, halts_as_read, same_head}
use Rattle.cts_run.proofs.LawLemmas.{DumpEnds, dump_ends}

lines_of_dump : (file : List ℕ) (kind : LogKind) (fl : Bool) (es : List Logged) (place : ℕ) (own : List Act) (ended : Result (Unit {0}) Halt) → IsLogRead file kind fl es place → IsDump file own ended → AreLines es own
lines_of_dump file kind fl es place own ended r (inl a) =
    let same = logs_are_read_once file a.kind kind a.flagged fl a.entries es a.place place a.read r in
    subst (λ (t : List Logged). AreLines t own) same.2 a.lines
lines_of_dump file kind fl es place own ended r (inr a) = absurd (no_head_no_read file kind fl es place a.none r)

nothing_of_dump : (file : List ℕ) (own : List Act) (ended : Result (Unit {0}) Halt) → HasNoHead file → IsDump file own ended → own ≡ []
nothing_of_dump file own ended none (inl a) = absurd (no_head_no_read file a.kind a.flagged a.entries a.place none a.read)
nothing_of_dump file own ended none (inr a) = a.nothing

nothing_due : (head file : List ℕ) (so : Bool) (own : List Act) (ended : Result (Unit {0}) Halt) → begins head file ≡ so → HasNoHead file → IsFileDue file (other_head head file) own ended → own ≡ []
nothing_due head file true own ended e none m = nothing_of_dump file own ended none (subst (λ (o : Option Halt). IsFileDue file o own ended) (same_head head file e) m)
nothing_due head file false own ended e none m = let k = subst (λ (o : Option Halt). IsFileDue file o own ended) (another_head head file e) m in k.0

ends_well : (file : List ℕ) (ended : Result (Unit {0}) Halt) → DumpEnds file ended → IsWholeLog file → ended ≡ Ok tt
ends_well file ended (inl w) whole = w.1
ends_well file ended (inr n) whole = absurd (n.0 whole)

module _ (files : List ℕ → Option (List ℕ)) (kind : LogKind) (fl : Bool) (digest : List ℕ) where
  abbrev first : List ℕ
  first = log_head kind fl digest

  -- nothing is said of the head, or it is that of the log
  abbrev IsHead : List ℕ → Type 0
  IsHead head = (head ≡ []) ⊎ (head ≡ first)

  begins_so : (head file : List ℕ) → IsHead head → take log_head_len file ≡ first → begins head file ≡ true
  begins_so head file (inl e) t = ap (λ (h : List ℕ). begins h file) e
  begins_so head file (inr e) t =
      let split : file ≡ first ++ drop log_head_len file = sym (take-append-drop log_head_len file) ∙ ap (λ (f : List ℕ). f ++ drop log_head_len file) t in
      ap (λ (h : List ℕ). begins h file) e ∙ (ap (begins first) split ∙ begins_front first (drop log_head_len file))

  head_then : (head file : List ℕ) → IsHead head → take log_head_len file ≡ first → head_after head file ≡ first
  head_then [] file h t = t
  head_then (c ∷ head) file (inl e) t = absurd (cc e)
  head_then (c ∷ head) file (inr e) t = e

  due_of_file : (head log file : List ℕ) (own : List Act) (ended : Result (Unit {0}) Halt) → files log ≡ Some file → length file ≤ log_limit → IsFileDump files head log own ended → IsFileDue file (other_head head file) own ended
  due_of_file head log file own ended e small m =
      subst (λ (o : Option Halt). IsFileDue file o own ended) (halts_as_read files head log file e small)
      (subst (λ (f : Option (List ℕ)). IsFileDue (bytes_of f) (log_phase files head log).halts own ended) e m)

  dump_of_file : (head log file : List ℕ) (own : List Act) (ended : Result (Unit {0}) Halt) → IsHead head → take log_head_len file ≡ first → files log ≡ Some file → length file ≤ log_limit → IsFileDump files head log own ended → IsDump file own ended
  dump_of_file head log file own ended h t e small m = subst (λ (o : Option Halt). IsFileDue file o own ended) (same_head head file (begins_so head file h t)) (due_of_file head log file own ended e small m)

  part_dumped : (head log file : List ℕ) (es : List Logged) (own : List Act) (ended : Result (Unit {0}) Halt) → IsHead head → files log ≡ Some file → length file ≤ log_limit → IsPartRead kind fl digest file es → IsFileDump files head log own ended
      → AreLines es own × (ended ≡ Ok tt)
  part_dumped head log file es own ended h e small p m =
      let d = dump_of_file head log file own ended h p.head e small m in
      (lines_of_dump file kind fl es (length file) own ended p.read d, ends_well file ended (dump_ends file own ended d) (kind, fl, es, p.read))

  last_dumped : (head log file : List ℕ) (es : List Logged) (own : List Act) (ended : Result (Unit {0}) Halt) → IsHead head → files log ≡ Some file → length file ≤ log_limit → IsLastRead kind fl digest file es → IsFileDump files head log own ended → AreLines es own
  last_dumped head log file es own ended h e small p m = by_length (below (length file) log_head_len)
    where
      by_length : (length file < log_head_len) ⊎ ((length file < log_head_len) → ⊥) → AreLines es own
      by_length (inl short) =
          let none = p.none short in
          subst (λ (t : List Logged). AreLines t own) (sym none.1) (nothing_due head file (begins head file) own ended refl none.0 (due_of_file head log file own ended e small m))
      by_length (inr long) =
          let r = p.read (omega (arith, long)) in
          lines_of_dump file kind fl es _ own ended r.0 (dump_of_file head log file own ended h r.1 e small m)

  last_going : (ended : Result (Unit {0}) Halt) (next : List ℕ) (es : List Logged) (own acts : List Act) (due : Result (Unit {0}) Halt) → AreLines es own → GoesOn ended (AreDumped files next []) own acts due → AreLines (es ++ []) acts
  last_going (Ok done) next es own acts due lines g =
      let same : acts ≡ own = g.2 ∙ (ap (λ (t : List Act). own ++ t) g.1.0 ∙ append-nil own) in
      subst (λ (t : List Logged). AreLines t acts) (sym (append-nil es)) (subst (AreLines es) (sym same) lines)
  last_going (Err h) next es own acts due lines g = subst (λ (t : List Logged). AreLines t acts) (sym (append-nil es)) (subst (AreLines es) (sym g.0) lines)

  abbrev Have : List (List ℕ) → List (List ℕ) → Type 0
  Have names left = map files names ≡ map (λ f. Some f) left

  abbrev Small : List ℕ → Type 0
  Small f = length f ≤ log_limit

  parts_lines : (head : List ℕ) (names left : List (List ℕ)) (ess : List (List Logged)) (acts : List Act) (due : Result (Unit {0}) Halt) → IsHead head → Have names left → All Small left → AreRead kind fl digest left ess
      → AreDumped files head names acts due → AreLines (flat_map (λ g. g) ess) acts
  parts_lines head [] [] [] acts due h same small r m = m.0
  parts_lines head [] [] (es ∷ ess) acts due h same small r m = absurd r
  parts_lines head [] (f ∷ fs) ess acts due h same small r m = absurd (cc same)
  parts_lines head (n ∷ ns) [] ess acts due h same small r m = absurd (cc same)
  parts_lines head (n ∷ ns) (f ∷ []) [] acts due h same small r m = absurd r
  parts_lines head (n ∷ []) (f ∷ []) (es ∷ []) acts due h same small r m =
      let there : files n ≡ Some f = cc same in
      last_going m.1 (head_after head (bytes_of (files n))) es m.0 acts due (last_dumped head n f es m.0 m.1 h there (All-head Small f [] small) r m.2) m.3
  parts_lines head (n ∷ o ∷ ns) (f ∷ []) (es ∷ []) acts due h same small r m = absurd (cc same)
  parts_lines head (n ∷ ns) (f ∷ []) (es ∷ ds ∷ ess) acts due h same small r m = absurd r
  parts_lines head (n ∷ ns) (f ∷ g ∷ fs) [] acts due h same small r m = absurd r
  parts_lines head (n ∷ ns) (f ∷ g ∷ fs) (es ∷ ess) acts due h same small r m =
      let there : files n ≡ Some f = cc same in
      let left : Have ns (g ∷ fs) = cc same in
      let next = head_after head (bytes_of (files n)) in
      let one = part_dumped head n f es m.0 m.1 h there (All-head Small f (g ∷ fs) small) r.0 m.2 in
      let going = subst (λ (e : Result (Unit {0}) Halt). GoesOn e (AreDumped files next ns) m.0 acts due) one.1 m.3 in
      let now : next ≡ first = ap (λ (x : Option (List ℕ)). head_after head (bytes_of x)) there ∙ head_then head f h r.0.head in
      let more = parts_lines next ns (g ∷ fs) ess going.0 due (inr now) left (All-tail Small f (g ∷ fs) small) r.1 going.1 in
      subst (AreLines (es ++ flat_map (λ x. x) ess)) (sym going.2) (lines_then es (flat_map (λ x. x) ess) m.0 going.0 one.0 more)

pub stops_are_dumped : StopsAreDumped
stops_are_dumped kind fl digest cycle es ps left all names acts due long bytes fit begun closed rest same small m =
    let gs = groups_of fl cycle es in
    let r = parts_are_read kind fl digest cycle es left long bytes fit (stops_leave (log_parts kind fl digest cycle es) ps left begun closed rest) in
    let lines = parts_lines all kind fl digest [] names left r.0 acts due (inl refl) same small r.1 m in
    (read_of fl gs left, subst (λ (t : List Logged). AreLines t acts) r.2 lines, r.3, synced_are_read fl gs ps left closed rest)
