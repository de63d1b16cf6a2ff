-- The tests of framings pass exactly the whole frames.
use Rattle.std.proofs.Common.{◌≡◌, ℕ, ◌+◌, ◌-◌, ◌≤◌, Bool, true, false, ◌&&◌, List, [], ◌∷◌, ◌++◌, length, take, drop, refl, sym, ◌∙◌, ap, subst, arith, Option, Some, None, length-append}
use Rattle.std.specs.Prelude.{nat_le, nat_lt, int_lt, pos, ◌==◌, ◌↔◌, option_map}
use Rattle.std.proofs.lemmas.List.{append-nil, take_all, length-take, length-drop, drop_at}
use Rattle.cts_def.specs.Protocols.{BurstData, FixedData, LengthData, TerminatedData, PreidentifiedData, Burst, Fixed, Length, Terminated, Preidentified, is_sound_spec, is_pattern, is_within_frame}
use Rattle.cts_def.specs.Starts.{StartData}
use Rattle.cts_def.specs.declared.bad_cause.BadCause.TheVariants.{UnknownStart}
use Rattle.cts_framing.specs.Frames.{IsAtMost, IsBurstFrame, IsLengthFrame, IsTerminatedFrame, HasStart, IsFixedFrame, IsPreidentifiedFrame}
use Rattle.cts_framing.specs.Heads.{AreBytes, HeadData}
use Rattle.cts_framing.specs.Layouts.{has_flags, has_wrong_flags, flags_at, stored_at, has_laid, laid_of, laid_end, laid_head}
use Rattle.cts_framing.specs.Patterns.{begins, first_place}
use Rattle.cts_framing.specs.RowLaws.{FramesAreExact, HeadsAreExact}
use Rattle.cts_def.specs.Most.{frame_limit}
use Rattle.cts_framing.specs.Rows.{long_within, is_over, reach, field, length_by, field_states, length_states, end_of_frame, end_states, terminated_states, first_start, decided_at, start_states, fixed_states, burst_whole, count_states, head_states, preidentified_states}
use Rattle.cts_framing.specs.Stating.{Long}
use Rattle.cts_framing.specs.SyncPatterns.{IsLeftmost}
use Rattle.cts_framing.proofs.BurstSound.{burst_tells}
use Rattle.cts_framing.proofs.Fronts.{and_tells, le_tells, le_test, not_lt_tells, not_lt_test, begins_tells, begins_length}
use Rattle.cts_framing.proofs.HeadWhole.{are_drop}
use Rattle.cts_framing.proofs.Laid.{laid_length, laid_end_again, laid_again, has_laid_again, flags_again, laid_fits, laid_whole, laid_room}
use Rattle.cts_framing.proofs.Leftmost.{begins_test, first_tells, first_test}
use Rattle.cts_framing.proofs.LengthSteady.{field_tells, guard_long, within_tells, wrong_or_long}
use Rattle.cts_framing.proofs.PreidentifiedSteady.{by_flags, count_tells}
use Rattle.cts_framing.proofs.Reaches.{length_reaches}
use Rattle.cts_framing.proofs.Starts.{FixedRules, fixed_rules, start_decided, start_room}
use Rattle.cts_framing.proofs.Steady.{FrameTells, frame_tells, frame_test}
use Rattle.cts_framing.proofs.TerminatedSteady.{end_long, end_tells}

pub over_tells : (o : Option ℕ) (n : ℕ) → is_over o n ≡ false → IsAtMost o n
over_tells None n h = tt
over_tells (Some max) n h = not_lt_tells max n h

pub over_test : (o : Option ℕ) (n : ℕ) → IsAtMost o n → is_over o n ≡ false
over_test None n h = refl
over_test (Some max) n h = not_lt_test max n h

within_limit : (n : ℕ) → n ≤ frame_limit → long_within n ≡ Long n
within_limit n h = rw (le_test n frame_limit h) refl

pub begins_split : (s u : List ℕ) → begins s u ≡ true → u ≡ s ++ drop (length s) u
begins_split s u h =
    let r = begins_tells s u h in
    r.1 ∙ ap (λ v. s ++ v) (sym (ap (drop (length s)) r.1 ∙ drop_at s r.0 (length s) refl))

-- ---- BURST

nothing : (x : List ℕ) → x ≡ [] → (length x == 0) ≡ true
nothing x e = ap (λ v. length v == 0) e

pub burst_exact : (b : BurstData) (w x : List ℕ) → (burst_whole b w x ≡ true) ↔ IsBurstFrame b w x
burst_exact b w x = (
  λ h. let t = burst_tells b w x h in record { last = t.nothing; some = t.some; begin = begins_tells b.sync w t.begin; within = t.within },
  λ f. rw (nothing x f.last, le_test 1 (length w) f.some, begins_test b.sync w f.begin, le_test (length w) frame_limit f.within) refl,
)

-- ---- LENGTH

length_to : (l : LengthData) (w : List ℕ) → FrameTells l.sync (length_states l) w → IsLengthFrame l w
length_to l w t =
    let g = guard_long (nat_lt (length w) (reach l.place)) (field_states l (field l.place w)) (length w) t.states_are in
    let k = field_tells l (field l.place w) (length w) g.1 in
    record {
      begin = begins_tells l.sync w t.begin;
      max = over_tells l.max (field l.place w) k.max;
      length_is = sym k.length_is;
      reaches = k.reaches;
      room = k.room;
      within = k.within;
    }

not_short : (z r : ℕ) → r ≤ z → int_lt (pos z) (pos r) ≡ false
not_short z r h = not_lt_test z r h

length_back : (l : LengthData) → 1 ≤ reach l.place → (w : List ℕ) → IsLengthFrame l w → FrameTells l.sync (length_states l) w
length_back l some w f =
    let there : nat_lt (length w) (reach l.place) ≡ false = not_lt_test (length w) (reach l.place) f.reaches in
    let a = not_short (length w) (reach l.place) f.reaches in
    let b = not_short (length w) (length l.sync) f.room in
    let length_is : length_by l (field l.place w) ≡ pos (length w) = sym f.length_is in
    record {
      some = omega (arith, some, f.reaches);
      begin = begins_test l.sync w f.begin;
      states_are = rw (there, over_test l.max (field l.place w) f.max, length_is, a, b, within_limit (length w) f.within) refl;
    }

-- ---- TERMINATED

no_bytes : (t : List ℕ) → length t ≡ 0 → t ≡ []
no_bytes [] h = refl
no_bytes (x ∷ t) h = absurd (omega (arith, h))

-- the leftmost termination ends where the bytes do
body_tells : (sync w read : List ℕ) (place : ℕ) → begins sync w ≡ true → length w ≡ length sync + place + length read → first_place read (drop (length sync) w) ≡ Some place
    → (body : List ℕ) × (w ≡ sync ++ (body ++ read)) × IsLeftmost read (body ++ read) body
body_tells sync w read place begin end first =
    let v : List ℕ = drop (length sync) w in
    let f = first_tells read v place first in
    let o = f.leftmost.occurs in
    let len : length v ≡ place + length read = omega (arith, length-drop (length sync) w, end) in
    let none : o.0 ≡ [] = no_bytes o.0 (omega (arith, len, ap length o.1, f.length_is, length-append f.before (read ++ o.0), length-append read o.0)) in
    let is : v ≡ f.before ++ read = o.1 ∙ ap (λ t. f.before ++ t) (ap (λ t. read ++ t) none ∙ append-nil read) in
    (f.before, begins_split sync w begin ∙ ap (λ t. sync ++ t) is, subst (λ t. IsLeftmost read t f.before) is f.leftmost)

terminated_to : (t : TerminatedData) → 1 ≤ length t.read → (w : List ℕ) → FrameTells t.sync (terminated_states t) w → IsTerminatedFrame t w
terminated_to t some w p =
    let e = end_long (end_of_frame t (take frame_limit w)) (nat_le frame_limit (length w)) (length w) p.states_are in
    let k = end_tells (length t.sync) t.read (take frame_limit w) (length w) e in
    let short : length w ≤ frame_limit = omega (arith, k.end, k.fits, some, length-drop (length t.sync) (take frame_limit w), length-take frame_limit w) in
    let first = ap (λ (v : List ℕ). first_place t.read (drop (length t.sync) v)) (sym (take_all frame_limit w short)) ∙ k.first in
    let b = body_tells t.sync w t.read k.place p.begin k.end first in
    record { body = b.0; frame_is = b.1; leftmost = b.2; within = short }

terminated_back : (t : TerminatedData) → 1 ≤ length t.read → (w : List ℕ) → IsTerminatedFrame t w → FrameTells t.sync (terminated_states t) w
terminated_back t some w f =
    let later : drop (length t.sync) w ≡ f.body ++ t.read = ap (drop (length t.sync)) f.frame_is ∙ drop_at t.sync (f.body ++ t.read) (length t.sync) refl in
    let len : length w ≡ length t.sync + length f.body + length t.read = ap length f.frame_is ∙ omega (arith, length-append t.sync (f.body ++ t.read), length-append f.body t.read) in
    let end : end_of_frame t w ≡ Some (length w) =
    ap (λ (v : List ℕ). option_map (λ k. length t.sync + k + length t.read) (first_place t.read v)) later
    ∙ (ap (option_map (λ k. length t.sync + k + length t.read)) (first_test t.read (f.body ++ t.read) f.body f.leftmost) ∙ ap Some (sym len)) in
    record {
      some = omega (arith, len, some);
      begin = begins_test t.sync w (f.body ++ t.read, f.frame_is);
      states_are = ap (λ (o : Option ℕ). end_states o (nat_le frame_limit (length w))) (ap (end_of_frame t) (take_all frame_limit w f.within) ∙ end);
    }

-- ---- FIXED

start_to : (f : FixedData) (w : List ℕ) (o : Option StartData) → start_states f o ≡ Long (length w) → HasStart f w o × (length w ≤ frame_limit)
start_to f w (Some s) h = let t = within_tells (f.discard + s.length) (length w) h in (sym t.0, t.1)
start_to f w None h =
    let a = wrong_or_long f.raise UnknownStart (long_within (decided_at f)) (length w) h in
    let t = within_tells (decided_at f) (length w) a.1 in
    ((a.0, sym t.0), t.1)

start_back : (f : FixedData) (w : List ℕ) (o : Option StartData) → HasStart f w o → length w ≤ frame_limit → start_states f o ≡ Long (length w)
start_back f w (Some s) h l = ap long_within (sym h) ∙ within_limit (length w) l
start_back f w None h l = rw h.0 (ap long_within (sym h.1) ∙ within_limit (length w) l)

start_enough : (f : FixedData) → FixedRules f → (w : List ℕ) (o : Option StartData) → first_start f w ≡ o → HasStart f w o → decided_at f ≤ length w
start_enough f r w None e h = omega (arith, h.1)
start_enough f r w (Some s) e h = omega (arith, h, start_room f r w s e)

fixed_to : (f : FixedData) → FixedRules f → (w : List ℕ) → FrameTells f.sync (fixed_states f) w → IsFixedFrame f w
fixed_to f r w t =
    let g = guard_long (nat_lt (length w) (decided_at f)) (start_states f (first_start f (take (decided_at f) w))) (length w) t.states_are in
    let same = start_decided f r w (not_lt_tells (length w) (decided_at f) g.0) in
    let k = start_to f w (first_start f (take (decided_at f) w)) g.1 in
    record { begin = begins_tells f.sync w t.begin; start = subst (HasStart f w) same k.0; within = k.1 }

fixed_back : (f : FixedData) → FixedRules f → (w : List ℕ) → IsFixedFrame f w → FrameTells f.sync (fixed_states f) w
fixed_back f r w k =
    let enough = start_enough f r w (first_start f w) refl k.start in
    let there : nat_lt (length w) (decided_at f) ≡ false = not_lt_test (length w) (decided_at f) enough in
    let same = start_decided f r w enough in
    record {
      some = omega (arith, enough, r.some);
      begin = begins_test f.sync w k.begin;
      states_are = rw (there, same) (start_back f w (first_start f w) k.start k.within);
    }

-- ---- PREIDENTIFIED

preidentified_to : (p : PreidentifiedData) (w : List ℕ) → AreBytes w → FrameTells p.sync (preidentified_states p) w → IsPreidentifiedFrame p w
preidentified_to p w wb t =
    let v : List ℕ = drop (length p.sync) w in
    let b : Bool = has_flags p.layout in
    let g = by_flags (has_wrong_flags b v) (has_laid b v) (flags_at b v) (count_states p (laid_end b v) (laid_of b v).count) (length w) t.states_are in
    let k = count_tells p (laid_end b v) (laid_of b v).count (length w) g.2 in
    let ends : laid_end b v ≤ length v = laid_room b v g.1 in
    let vb : AreBytes v = are_drop (length p.sync) w wb in
    let vl : length v ≡ length w - length p.sync = length-drop (length p.sync) w in
    record {
      stored = stored_at b v;
      head = laid_of b v;
      bytes = drop (laid_end b v) v;
      fits = laid_fits b v vb g.1;
      frame_is = begins_split p.sync w t.begin ∙ ap (λ y. p.sync ++ y) (laid_whole b v vb g.0 g.1);
      count = omega (arith, length-drop (laid_end b v) v, vl, k.length_is, begins_length p.sync w t.begin);
      max = over_tells p.max (laid_of b v).count k.max;
      within = k.within;
    }

preidentified_back : (p : PreidentifiedData) (w : List ℕ) → IsPreidentifiedFrame p w → FrameTells p.sync (preidentified_states p) w
preidentified_back p w f =
    let b : Bool = has_flags p.layout in
    let h : List ℕ = laid_head b f.stored f.head in
    let v : List ℕ = h ++ f.bytes in
    let later : drop (length p.sync) w ≡ v = ap (drop (length p.sync)) f.frame_is ∙ drop_at p.sync v (length p.sync) refl in
    let count : (laid_of b v).count ≡ f.head.count = ap (λ (d : HeadData). d.count) (laid_again b f.stored f.head f.bytes f.fits) in
    let total : length p.sync + length h + f.head.count ≡ length w =
    omega (arith, ap length f.frame_is, length-append p.sync v, length-append h f.bytes, f.count) in
    let long : long_within (length p.sync + length h + f.head.count) ≡ Long (length w) = ap long_within total ∙ within_limit (length w) f.within in
    record {
      some = omega (arith, total, laid_length b f.stored f.head);
      begin = begins_test p.sync w (v, f.frame_is);
      states_are =
          ap (head_states p b) later
          ∙ rw (flags_again b f.stored f.head f.bytes, has_laid_again b f.stored f.head f.bytes, laid_end_again b f.stored f.head f.bytes, count, over_test p.max f.head.count f.max, long) refl;
    }

-- ---- all protocols

pub read_some : (t : TerminatedData) → is_sound_spec (Terminated t) ≡ true → 1 ≤ length t.read
read_some t h =
    let a = and_tells (is_pattern t.write && is_pattern t.read && nat_le 1 (length t.read) && is_within_frame t.discard) (is_pattern t.sync) h in
    let b = and_tells (is_pattern t.write && is_pattern t.read && nat_le 1 (length t.read)) (is_within_frame t.discard) a.0 in
    le_tells 1 (length t.read) (and_tells (is_pattern t.write && is_pattern t.read) (nat_le 1 (length t.read)) b.0).1

pub frames_are_exact : FramesAreExact
frames_are_exact (Burst b) w x s y = burst_exact b w x
frames_are_exact (Fixed f) w x s y = (
  λ h. fixed_to f (fixed_rules f s) w (frame_tells f.sync (fixed_states f) w h),
  λ k. frame_test f.sync (fixed_states f) w (fixed_back f (fixed_rules f s) w k),
)
frames_are_exact (Length l) w x s y = (λ h. length_to l w (frame_tells l.sync (length_states l) w h), λ k. frame_test l.sync (length_states l) w (length_back l (length_reaches l s) w k))
frames_are_exact (Terminated t) w x s y = (
  λ h. terminated_to t (read_some t s) w (frame_tells t.sync (terminated_states t) w h),
  λ k. frame_test t.sync (terminated_states t) w (terminated_back t (read_some t s) w k),
)
frames_are_exact (Preidentified p) w x s y = (
  λ h. preidentified_to p w y (frame_tells p.sync (preidentified_states p) w h),
  λ k. frame_test p.sync (preidentified_states p) w (preidentified_back p w k),
)

pub heads_are_exact : HeadsAreExact
heads_are_exact b u y = (
  λ h. (stored_at b u, laid_of b u, drop (laid_end b u) u, laid_fits b u y h.1, laid_whole b u y h.0 h.1),
  λ t. (ap (has_wrong_flags b) t.4 ∙ flags_again b t.0 t.1 t.2, ap (has_laid b) t.4 ∙ has_laid_again b t.0 t.1 t.2),
)
