use Rattle.std.proofs.Common.{◌+◌, ◌-◌, ◌≡◌, ◌∙◌, ap, subst, List, ℕ, Bool, true, false, Some, take, drop, length, sym, refl}
use Rattle.cts_def.specs.Protocols.{PreidentifiedData, Preidentified}
use Rattle.cts_def.specs.declared.bad_cause.BadCause.TheVariants.{Flags}
use Rattle.cts_framing.specs.Cuts.{Ends}
use Rattle.cts_framing.specs.Layouts.{flags_at, has_flags, has_laid, has_wrong_flags}
use Rattle.cts_framing.specs.Rows.{framing_of}
use Rattle.cts_preid.proofs.Heading.{all_after, head_after, no_head, over, too_long, part, frame_found, wrong}
use Rattle.cts_preid.proofs.found.found_preidentified.Goals as goal

pub returns-in-Some : goal.returns-in-Some
returns-in-Some c =
    let a = c.args in
    let p : PreidentifiedData = record { sync = a.sync.now; max = a.max; layout = a.layout } in
    let b : Bool = has_flags a.layout in
    let u : List ℕ = a.bytes.now in
    let n : ℕ = length a.sync.now in
    let is : c.in-Some.flags ≡ flags_at b (drop n u) = c.in-Some.ensures.1 ∙ ap (flags_at b) (all_after u n) in
    let on : has_wrong_flags b (drop n u) ≡ true = ap (has_wrong_flags b) (sym (all_after u n)) ∙ c.in-Some.ensures.0 in
    subst (λ (k : ℕ). Ends (framing_of (Preidentified p)) u (Some (Flags k))) (sym is) (wrong p u c.requires on)

pub returns-in_default-read_head : goal.returns-in_default-read_head
returns-in_default-read_head c =
    let a = c.args in
    let p : PreidentifiedData = record { sync = a.sync.now; max = a.max; layout = a.layout } in
    let b : Bool = has_flags a.layout in
    let u : List ℕ = a.bytes.now in
    let n : ℕ = length a.sync.now in
    let right : has_wrong_flags b (drop n u) ≡ false = ap (has_wrong_flags b) (sym (all_after u n)) ∙ c.in_default.ensures in
    no_head p u c.requires right (ap (has_laid b) (sym (all_after u n)) ∙ c.in_default-read_head.ensures)

pub returns-then-is_over : goal.returns-then-is_over
returns-then-is_over c =
    let a = c.args in
    let p : PreidentifiedData = record { sync = a.sync.now; max = a.max; layout = a.layout } in
    let b : Bool = has_flags a.layout in
    let u : List ℕ = a.bytes.now in
    let n : ℕ = length a.sync.now in
    let right : has_wrong_flags b (drop n u) ≡ false = ap (has_wrong_flags b) (sym (all_after u n)) ∙ c.in_default.ensures in
    let h = c.in-Some-read_head.head in
    let is = head_after b u n h c.in-Some-read_head.ensures in
    rw c.from.ensures (over p u c.requires right h is (sym c.is_over.ensures ∙ c.if-is_over.true))

pub returns-then-len-gt-FRAME_LIMIT : goal.returns-then-len-gt-FRAME_LIMIT
returns-then-len-gt-FRAME_LIMIT c =
    let a = c.args in
    let p : PreidentifiedData = record { sync = a.sync.now; max = a.max; layout = a.layout } in
    let b : Bool = has_flags a.layout in
    let u : List ℕ = a.bytes.now in
    let n : ℕ = length a.sync.now in
    let right : has_wrong_flags b (drop n u) ≡ false = ap (has_wrong_flags b) (sym (all_after u n)) ∙ c.in_default.ensures in
    let h = c.in-Some-read_head.head in
    let is = head_after b u n h c.in-Some-read_head.ensures in
    too_long p u c.requires right h is (n + h.begin + h.count) refl (sym c.is_over.ensures ∙ c.if-is_over.false) c.if-len-gt-FRAME_LIMIT.true

pub returns-then-bytes-len : goal.returns-then-bytes-len
returns-then-bytes-len c =
    let a = c.args in
    let p : PreidentifiedData = record { sync = a.sync.now; max = a.max; layout = a.layout } in
    let b : Bool = has_flags a.layout in
    let u : List ℕ = a.bytes.now in
    let n : ℕ = length a.sync.now in
    let right : has_wrong_flags b (drop n u) ≡ false = ap (has_wrong_flags b) (sym (all_after u n)) ∙ c.in_default.ensures in
    let h = c.in-Some-read_head.head in
    let is = head_after b u n h c.in-Some-read_head.ensures in
    part p u c.requires right h is (n + h.begin + h.count) refl (sym c.is_over.ensures ∙ c.if-is_over.false) c.if-len-gt-FRAME_LIMIT.false c.if-bytes-len.true

pub returns : goal.returns
returns c =
    let a = c.args in
    let p : PreidentifiedData = record { sync = a.sync.now; max = a.max; layout = a.layout } in
    let b : Bool = has_flags a.layout in
    let u : List ℕ = a.bytes.now in
    let n : ℕ = length a.sync.now in
    let right : has_wrong_flags b (drop n u) ≡ false = ap (has_wrong_flags b) (sym (all_after u n)) ∙ c.in_default.ensures in
    let h = c.in-Some-read_head.head in
    let is = head_after b u n h c.in-Some-read_head.ensures in
    frame_found p u c.requires right h is (n + h.begin + h.count) refl (sym c.is_over.ensures ∙ c.if-is_over.false) c.if-len-gt-FRAME_LIMIT.false c.if-bytes-len.false
    c.moved.result c.moved-2.result c.moved.ensures c.moved-2.ensures
