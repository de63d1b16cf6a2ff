-- What stands where a frame may begin that ends with a termination.
use Rattle.std.proofs.Common.{◌≡◌, ℕ, ◌+◌, ◌-◌, ◌≤◌, ◌<◌, ◌⊎◌, inr, Bool, true, false, cond, List, ◌++◌, length, take, drop, refl, sym, ◌∙◌, ap, arith, Option, Some, None, min}
use Rattle.std.specs.Prelude.{◌==◌, max, nat_le}
use Rattle.std.proofs.lemmas.Bool.Decides.{nat_tests}
use Rattle.std.proofs.lemmas.List.{length-drop, length-take, length-take-le, drop-take, take-append-drop}
use Rattle.cts_def.specs.Protocols.{TerminatedData, Terminated}
use Rattle.cts_def.specs.declared.bad_cause.BadCause.TheVariants.{TooLong}
use Rattle.cts_framing.specs.Cuts.{Ends}
use Rattle.cts_framing.specs.Framing.{Agree, plain}
use Rattle.cts_framing.specs.Patterns.{first_place}
use Rattle.cts_def.specs.Most.{frame_limit}
use Rattle.cts_framing.specs.Rows.{framing_of, end_states, terminated_states, stripped}
use Rattle.cts_framing.specs.Stating.{Long}
use Rattle.cts_framing.proofs.Fronts.{le_test, first_fits, take_turns}
use Rattle.cts_framing.proofs.Leftmost.{first_cut}
use Rattle.cts_framing.proofs.TerminatedSteady.{terminated_steady}
use Rattle.cts_proto.specs.Founds.{FindsFrame, NothingStands, output_at}
use Rattle.cts_proto.specs.StatedLaws.{StandsBy}
use Rattle.cts_proto.proofs.Finding.{all_stand_by, span_front}
use Rattle.cts_stream.specs.Seen.{first_unseen}
use Rattle.cts_stream.proofs.Cutting.{take_min, take_fewer}

not_full : (m n : ℕ) → n < m → nat_le m n ≡ false
not_full m n h = grind (arith, nat_tests)

-- the bytes in which a termination is looked for
abbrev pub looked_in : TerminatedData → List ℕ → List ℕ
looked_in t u = drop (length t.sync) (take frame_limit u)

-- what the search answers
pub same_first : (t : TerminatedData) (u v : List ℕ) (m : ℕ) (o : Option ℕ) → m ≡ min (length u) frame_limit → v ≡ drop (length t.sync) (take m u) → o ≡ first_place t.read v → first_place t.read (looked_in t u) ≡ o
same_first t u v m o e d f = ap (λ x. first_place t.read (drop (length t.sync) x)) (sym (take_min m frame_limit u e)) ∙ (ap (first_place t.read) (sym d) ∙ sym f)

strip_is : (b : Bool) (r n m : ℕ) (u : List ℕ) → n ≤ length u → m + r ≡ n → cond b (take (length (take n u) - r) (take n u)) (take n u) ≡ take (cond b m n) u
strip_is true r n m u within e =
    let len : length (take n u) - r ≡ m = omega (arith, length-take-le n u within, e) in
    ap (λ k. take k (take n u)) len ∙ take_fewer m n u (omega (arith, e))
strip_is false r n m u within e = refl

-- an end that was found is within the bytes
pub end_fits : (t : TerminatedData) (u : List ℕ) (k : ℕ) → first_place t.read (looked_in t u) ≡ Some k → length t.sync ≤ length u → length t.sync + k + length t.read ≤ length u
end_fits t u k f room = omega (arith, room, first_fits t.read (looked_in t u) k f, length-drop (length t.sync) (take frame_limit u), length-take frame_limit u)

module _ (t : TerminatedData) (u : List ℕ) (a : Agree t.sync u) where
  by : StandsBy t.sync (terminated_states t) (λ w. plain (drop t.discard (stripped t w))) u
  by = all_stand_by t.sync (terminated_states t) (λ w. plain (drop t.discard (stripped t w))) u (terminated_steady t) a

  pub terminated_few : length u < length t.sync ⊎ (length u ≡ 0) → Ends (framing_of (Terminated t)) u None
  terminated_few few = by.few few

  none_states : (b : Bool) → first_place t.read (looked_in t u) ≡ None → nat_le frame_limit (length u) ≡ b → terminated_states t u ≡ end_states None b
  none_states b f e = rw (f, e) refl

  pub terminated_open : first_place t.read (looked_in t u) ≡ None → length u < frame_limit → Ends (framing_of (Terminated t)) u None
  terminated_open f few = by.open_yet (none_states false f (not_full frame_limit (length u) few))

  pub terminated_wrong : first_place t.read (looked_in t u) ≡ None → length t.sync ≤ length u → frame_limit ≤ length u → Ends (framing_of (Terminated t)) u (Some TooLong)
  terminated_wrong f room full = by.wrong TooLong room (omega (arith, full)) (none_states true f (le_test frame_limit (length u) full))

  module _ (k : ℕ) (f : first_place t.read (looked_in t u) ≡ Some k) where
    some_states : terminated_states t u ≡ Long (length t.sync + k + length t.read)
    some_states = rw f refl

    pub terminated_short : length t.sync + k + length t.read ≡ 0 → Ends (framing_of (Terminated t)) u None
    terminated_short z = by.short (length t.sync + k + length t.read) some_states (inr z)

    front_states : (n : ℕ) → n ≡ length t.sync + k + length t.read → terminated_states t (take n u) ≡ Long n
    front_states n e =
        let s = length t.sync in
        let v : List ℕ = take frame_limit u in
        let far : n ≡ s + (k + length t.read) = omega (arith, e) in
        let here : looked_in t (take n u) ≡ take (k + length t.read) (drop s v) =
        ap (drop s) (take_turns frame_limit n u ∙ ap (λ m. take m v) far) ∙ drop-take s (k + length t.read) v in
        let found : first_place t.read (looked_in t (take n u)) ≡ Some k = ap (first_place t.read) here ∙ first_cut t.read (drop s v) k f in
        rw found (ap Long (sym e))

    pub terminated_found : (n end start : ℕ) → n ≡ length t.sync + k + length t.read → 1 ≤ n → length t.sync ≤ length u → end ≡ cond t.strip (length t.sync + k) n → start ≡ min t.discard end
        → FindsFrame (framing_of (Terminated t)) u n (output_at u start end None)
    terminated_found n end start e some room kept from =
        let within : n ≤ length u = omega (arith, e, end_fits t u k f room) in
        let body : stripped t (take n u) ≡ take end u = strip_is t.strip (length t.read) n (length t.sync + k) u within (sym e) ∙ ap (λ m. take m u) (sym kept) in
        by.frame n (output_at u start end None) some (omega (arith, e)) within (front_states n e) (ap plain (ap (drop t.discard) body ∙ sym (span_front u t.discard end start from)))

pub end_within : (b : Bool) (m n end : ℕ) → m ≤ n → end ≡ cond b m n → end ≤ n
end_within true m n end h e = omega (arith, h, e)
end_within false m n end h e = omega (arith, e)

-- ---- no termination ends within bytes in which nothing stands

from_by : (b : Bool) (seen s r from : ℕ) → from ≡ cond b s (max s (seen - r)) → (b ≡ false → 1 ≤ r) → (s ≤ from) × ((k : ℕ) → k < from - s → (s + k + r < seen) × (1 ≤ r))
from_by true seen s r from e some = (omega (arith, e), λ k h. absurd (omega (arith, e, h)))
from_by false seen s r from e some = (omega (arith, e), λ k h. (omega (arith, e, h), some refl))

not_none : (n : ℕ) → (n == 0) ≡ false → 1 ≤ n
not_none n h = grind (arith, nat_tests)

from_sync : (seen s r from : ℕ) → from ≡ first_unseen seen s r → (s ≤ from) × ((k : ℕ) → k < from - s → (s + k + r < seen) × (1 ≤ r))
from_sync seen s r from e = from_by (r == 0) seen s r from e (not_none r)

pub order_seen : (seen s r from : ℕ) → from ≡ first_unseen seen s r → s ≤ from
order_seen seen s r from e = (from_sync seen s r from e).0

pub none_seen : (t : TerminatedData) (u : List ℕ) (m seen from : ℕ) → Agree t.sync u → length t.sync ≤ length u → NothingStands (framing_of (Terminated t)) (take seen u) → m ≡ min (length u) frame_limit
    → from ≡ first_unseen seen (length t.sync) (length t.read) → (k : ℕ) → k < from - length t.sync → first_place t.read (drop (length t.sync) (take m u)) ≡ Some k → ⊥
none_seen t u m seen from a room nothing e at k h f =
    let near = (from_sync seen (length t.sync) (length t.read) from at).1 k h in
    let found : first_place t.read (looked_in t u) ≡ Some k = same_first t u (drop (length t.sync) (take m u)) m (Some k) e refl (sym f) in
    let n : ℕ = length t.sync + k + length t.read in
    let end : ℕ = cond t.strip (length t.sync + k) n in
    let whole = (terminated_found t u a k found n end (min t.discard end) refl (omega (arith, near.1)) room refl refl).whole in
    let seen_u : List ℕ = take seen u in
    let front : take n seen_u ≡ take n u = take_fewer n seen u (omega (arith, near.0)) in
    let parts : seen_u ≡ take n u ++ drop n seen_u = sym (take-append-drop n seen_u) ∙ ap (λ (x : List ℕ). x ++ drop n seen_u) front in
    nothing.no_frame (take n u) (drop n seen_u) parts whole
