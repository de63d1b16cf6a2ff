-- What stands where a frame may begin that states its length in a field.
use Rattle.std.proofs.Common.{◌≡◌, ℕ, ◌≤◌, ◌<◌, ◌⊎◌, List, length, take, drop, refl, sym, ◌∙◌, ap, arith, Option, Some, None, min}
use Rattle.std.specs.Prelude.{ℤ}
use Rattle.std.proofs.lemmas.List.{length-take-le, take-append-drop}
use Rattle.cts_def.specs.Protocols.{LengthData, Length}
use Rattle.cts_def.specs.declared.bad_cause.BadCause.{BadCause}
use Rattle.cts_framing.specs.Cuts.{Ends}
use Rattle.cts_framing.specs.Framing.{Agree, plain}
use Rattle.cts_framing.specs.Rows.{framing_of, reach, field, length_by, field_states, length_states}
use Rattle.cts_framing.specs.Stating.{Stated, Long, Wrong}
use Rattle.cts_framing.proofs.Fronts.{lt_test, not_lt_test, field_front}
use Rattle.cts_framing.proofs.LengthSteady.{field_tells, length_steady}
use Rattle.cts_proto.specs.Founds.{FindsFrame, output_at}
use Rattle.cts_proto.specs.StatedLaws.{StandsBy}
use Rattle.cts_proto.proofs.Finding.{all_stand_by, span_front}
use Rattle.cts_stream.specs.Judged.{stated_as}

states_there : (l : LengthData) (u : List ℕ) → reach l.place ≤ length u → length_states l u ≡ field_states l (field l.place u)
states_there l u h = rw (not_lt_test (length u) (reach l.place) h) refl

-- what the parts of the code say is what the bytes state
pub states_as : (l : LengthData) (u : List ℕ) (r n : ℕ) (z : ℤ) → r ≡ reach l.place → n ≡ field l.place u → z ≡ length_by l n → r ≤ length u → length_states l u ≡ stated_as l.max r (length l.sync) n z
states_as l u r n z re ne ze there =
    states_there l u (omega (arith, re, there)) ∙ (ap (field_states l) (sym ne) ∙ (λ i. stated_as l.max (sym re i) (length l.sync) n (sym ze i)))

pub judged_as : (max : Option ℕ) (r room n : ℕ) (z : ℤ) (s : Stated) (w : ℤ) → w ≡ z → stated_as max r room n w ≡ s → stated_as max r room n z ≡ s
judged_as max r room n z s w e h = ap (stated_as max r room n) (sym e) ∙ h

module _ (l : LengthData) (u : List ℕ) (a : Agree l.sync u) where
  by : StandsBy l.sync (length_states l) (λ w. plain (drop l.discard w)) u
  by = all_stand_by l.sync (length_states l) (λ w. plain (drop l.discard w)) u (length_steady l) a

  pub length_few : length u < length l.sync ⊎ (length u ≡ 0) → Ends (framing_of (Length l)) u None
  length_few few = by.few few

  pub length_open : length u < reach l.place → Ends (framing_of (Length l)) u None
  length_open few = by.open_yet (rw (lt_test (length u) (reach l.place) few) refl)

  pub length_part : (n : ℕ) → length_states l u ≡ Long n → length u < n → Ends (framing_of (Length l)) u None
  length_part n s few = by.part n s few

  pub length_wrong : (c : BadCause) → length l.sync ≤ length u → 1 ≤ length u → length_states l u ≡ Wrong c → Ends (framing_of (Length l)) u (Some c)
  length_wrong c room some s = by.wrong c room some s

  pub length_found : (n start : ℕ) → reach l.place ≤ length u → 1 ≤ reach l.place → length_states l u ≡ Long n → n ≤ length u → start ≡ min l.discard n
      → FindsFrame (framing_of (Length l)) u n (output_at u start n None)
  length_found n start there some s within e =
      let tells = field_tells l (field l.place u) n (sym (states_there l u there) ∙ s) in
      let len : length (take n u) ≡ n = length-take-le n u within in
      let same : field l.place (take n u) ≡ field l.place u =
      sym (field_front l.place.order l.place.offset l.place.bits (take n u) (drop n u) (omega (arith, len, tells.reaches))) ∙ ap (field l.place) (take-append-drop n u) in
      let states : length_states l (take n u) ≡ Long n = states_there l (take n u) (omega (arith, len, tells.reaches)) ∙ (ap (field_states l) same ∙ (sym (states_there l u there) ∙ s)) in
      by.frame n (output_at u start n None) (omega (arith, some, tells.reaches)) tells.room within states (ap plain (sym (span_front u l.discard n start e)))
