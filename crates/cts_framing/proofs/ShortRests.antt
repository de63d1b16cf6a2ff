-- What is left where neither a whole frame nor an error stands is shorter than a frame may be.
use Rattle.std.proofs.Common.{◌≡◌, ℕ, ◌+◌, ◌/◌, ◌≤◌, ◌<◌, inl, inr, Bool, true, false, not, ◌&&◌, ◌||◌, cond, List, [], ◌++◌, length, take, drop, refl, sym, ◌∙◌, ap, arith, Option, Some, None}
use Rattle.std.specs.Prelude.{max, nat_le, nat_lt, ◌==◌}
use Rattle.std.proofs.lemmas.Bool.{cases_lt}
use Rattle.std.proofs.lemmas.Bool.Decides.{nat_tests}
use Rattle.std.proofs.lemmas.List.{take-append-drop, append-nil, length-take, length-take-le, length-drop, drop-append-le, drop-take}
use Rattle.std.specs.List.{list_all}
use Rattle.cts_bits.specs.declared.order.Order.{Order}
use Rattle.cts_bits.specs.declared.order.Order.TheVariants.{Big, Little}
use Rattle.cts_bits.specs.Places.{reach_of, is_whole, is_bad_size, is_before_start, last_place}
use Rattle.cts_def.specs.Protocols.{BurstData, FixedData, LengthData, TerminatedData, PreidentifiedData, Burst, Fixed, Length, Terminated, Preidentified, is_sound_spec, is_layout, is_pattern, is_within_frame, is_start_within}
use Rattle.cts_def.specs.Starts.{PlaceData, StartData, is_place, has_places}
use Rattle.cts_def.specs.declared.bad_cause.BadCause.{BadCause}
use Rattle.cts_def.specs.declared.bad_cause.BadCause.TheVariants.{TooLong, OverMax, Short, UnknownStart, Flags}
use Rattle.cts_framing.specs.Cuts.{Ends}
use Rattle.cts_framing.specs.Framing.{Output}
use Rattle.cts_framing.specs.Heads.{AreBytes, head_end, target_end}
use Rattle.cts_framing.specs.Layouts.{has_flags, flag_len, after_flags, flags_at, has_wrong_flags, has_laid, laid_end, laid_of}
use Rattle.cts_framing.specs.Patterns.{begins, first_place}
use Rattle.cts_framing.specs.Rests.{RestsAreShort}
use Rattle.cts_def.specs.Most.{frame_limit}
use Rattle.cts_framing.specs.Rows.{long_within, is_over, reach, field, length_by, is_short, field_states, length_states, end_of_frame, end_states, terminated_states, first_start, decided_at, start_states, fixed_states, count_states, head_states, preidentified_states, burst_whole, burst_error, framing_of}
use Rattle.cts_framing.specs.Stating.{Stated, Open, Long, Wrong, is_open, stating, IsSteady}
use Rattle.cts_framing.proofs.FixedSteady.{fixed_steady}
use Rattle.cts_framing.proofs.Fronts.{agree_begins, and_tells, begins_less, le_tells, le_test, lt_tells, lt_test, not_lt_tells, not_lt_test, take_turns}
use Rattle.cts_framing.proofs.HeadWhole.{are_drop}
use Rattle.cts_framing.proofs.Laid.{has_laid_back, laid_end_is}
use Rattle.cts_framing.proofs.Leftmost.{first_cut}
use Rattle.cts_framing.proofs.LengthSteady.{guard_long, field_tells, length_steady, or_tells, within_tells, wrong_or_long}
use Rattle.cts_framing.proofs.PreidentifiedSteady.{by_flags, count_tells, preidentified_steady}
use Rattle.cts_framing.proofs.Reaches.{length_reaches}
use Rattle.cts_framing.proofs.RowsExact.{read_some}
use Rattle.cts_framing.proofs.Starts.{FixedRules, fixed_rules, start_room}
use Rattle.cts_framing.proofs.Steady.{FrameTells, fault_test, frame_test}
use Rattle.cts_framing.proofs.TerminatedSteady.{end_long, end_tells, terminated_steady}

-- ---- framings whose frames state their length

-- the bytes that are stated are a frame, where they state something for themselves
own_frame : (sync : List ℕ) (states : List ℕ → Stated) → IsSteady states → (u : List ℕ) (n : ℕ) → begins sync u ≡ true → states u ≡ Long n → n ≤ length u
    → 1 ≤ n → length sync ≤ n → is_open (states (take n u)) ≡ false → FrameTells sync states (take n u)
own_frame sync states k u n begin long all some room own =
    let len : length (take n u) ≡ n = length-take-le n u all in
    let parts : take n u ++ drop n u ≡ u = take-append-drop n u in
    record {
      some = omega (arith, some, len);
      begin = sym (begins_less sync (take n u) (drop n u) (omega (arith, room, len))) ∙ (ap (begins sync) parts ∙ begin);
      states_are = sym (k (take n u) (drop n u) own) ∙ (ap states parts ∙ (long ∙ ap Long (sym len)));
    }

-- what a stated length needs: it is within the greatest frame, has room for the pattern, and its bytes state something
record Owns (sync : List ℕ) (states : List ℕ → Stated) (u : List ℕ) (n : ℕ) : Type 0 where
  pub within : n ≤ frame_limit
  pub some : 1 ≤ n
  pub room : length sync ≤ n
  pub own : n ≤ length u → is_open (states (take n u)) ≡ false

module _ (sync : List ℕ) (states : List ℕ → Stated) (out : List ℕ → Output) (k : IsSteady states) (u : List ℕ) (limit : ℕ) (fits : length sync ≤ 64) (least : frame_limit ≤ limit)
    (open_few : states u ≡ Open → length u < limit) (owns : (n : ℕ) → states u ≡ Long n → Owns sync states u n) (h : Ends (stating sync states out) u None) where
  by_stated : (s : Stated) → states u ≡ s → begins sync u ≡ true → 1 ≤ length u → length u < limit
  by_stated Open e b l = open_few e
  by_stated (Long n) e b l =
      let o = owns n e in
      elim (cases_lt (length u) n) [
        | inl few ↦ omega (arith, few, o.within, least)
        | inr all ↦ absurd (h.no_frame (take n u) (drop n u) (sym (take-append-drop n u)) (frame_test sync states (take n u) (own_frame sync states k u n b e all o.some o.room (o.own all))))
      ]
  by_stated (Wrong c) e b l =
      let wrong_is : (stating sync states out).error u ≡ Some c = fault_test sync states u c (record { some = l; begin = b; states_are = e }) in
      let never : Some c ≡ None = sym wrong_is ∙ h.error in
      absurd (cc)

  short_rest : length u < limit
  short_rest = elim (cases_lt (length u) (length sync)) [
    | inl few ↦ omega (arith, few, fits, least)
    | inr enough ↦ elim (cases_lt 0 (length u)) [
      | inl some ↦ by_stated (states u) refl (agree_begins sync u enough h.synced) some
      | inr none ↦ omega (arith, none, least)
    ]
  ]

pub within_decided : (b : Bool) (n : ℕ) → is_open (cond b (Long n) (Wrong TooLong)) ≡ false
within_decided true n = refl
within_decided false n = refl

pattern_fits : (s : List ℕ) → is_pattern s ≡ true → length s ≤ 64
pattern_fits s h = le_tells (length s) 64 h

-- ---- LENGTH

not_tells : (b : Bool) → not b ≡ true → b ≡ false
not_tells true h = cc
not_tells false h = refl

not_zero : (n : ℕ) → (n == 0) ≡ false → 1 ≤ n
not_zero n h = grind (arith, nat_tests)

whole_offset : (offset bits : ℕ) → is_whole offset bits ≡ true → (8 ≤ bits) × (bits ≤ 64)
whole_offset offset bits h = (grind (arith, nat_tests), grind (arith, nat_tests))

little_few : (offset bits : ℕ) (b : Bool) → 1 ≤ bits → offset + bits ≤ last_place → cond b (offset / 8 + bits / 8) (offset / 8 + 1) ≤ frame_limit
little_few offset bits true some h = omega (arith, h)
little_few offset bits false some h = omega (arith, some, h)

reach_few : (o : Order) (offset bits : ℕ) → 1 ≤ bits → offset + bits ≤ last_place → reach_of o offset bits ≤ frame_limit
reach_few Big offset bits some h = omega (arith, h)
reach_few Little offset bits some h = little_few offset bits (is_whole offset bits) some h

place_few : (p : PlaceData) → is_place p ≡ true → reach p ≤ frame_limit
place_few p h =
    let a = or_tells (is_bad_size p.offset p.bits) (is_before_start p.order p.offset p.bits) (not_tells _ h) in
    let b = or_tells (p.bits == 0 || nat_lt 64 p.bits) (nat_lt last_place (p.offset + p.bits)) a.0 in
    let c = or_tells (p.bits == 0) (nat_lt 64 p.bits) b.0 in
    reach_few p.order p.offset p.bits (not_zero p.bits c.0) (not_lt_tells last_place (p.offset + p.bits) b.1)

pub over_decided : (b : Bool) (c n : ℕ) → is_open (cond b (Wrong (OverMax c)) (long_within n)) ≡ false
over_decided true c n = refl
over_decided false c n = within_decided (nat_le n frame_limit) n

field_decided : (l : LengthData) (f : ℕ) → is_open (field_states l f) ≡ false
field_decided l f = by_tests (is_over l.max f) (is_short l (length_by l f)) _
  where
    by_tests : (a b : Bool) (n : ℕ) → is_open (cond a (Wrong (OverMax f)) (cond b (Wrong (Short (length_by l f))) (long_within n))) ≡ false
    by_tests true b n = refl
    by_tests false true n = refl
    by_tests false false n = within_decided (nat_le n frame_limit) n

length_open : (b : Bool) (s : Stated) → is_open s ≡ false → cond b Open s ≡ Open → b ≡ true
length_open true s d h = refl
length_open false s d h = let never : true ≡ false = sym (ap is_open h) ∙ d in absurd (cc)

length_owns : (l : LengthData) → 1 ≤ reach l.place → (u : List ℕ) (n : ℕ) → length_states l u ≡ Long n → Owns l.sync (length_states l) u n
length_owns l some u n h =
    let g = guard_long (nat_lt (length u) (reach l.place)) (field_states l (field l.place u)) n h in
    let t = field_tells l (field l.place u) n g.1 in
    record {
      within = t.within;
      some = omega (arith, some, t.reaches);
      room = t.room;
      own = λ all. rw (not_lt_test (length (take n u)) (reach l.place) (omega (arith, t.reaches, length-take-le n u all))) (field_decided l (field l.place (take n u)));
    }

-- ---- TERMINATED

end_open : (o : Option ℕ) (b : Bool) → end_states o b ≡ Open → b ≡ false
end_open None true h = cc
end_open None false h = refl
end_open (Some n) b h = cc

not_full : (m n : ℕ) → nat_le m n ≡ false → n < m
not_full m n h = grind (arith, nat_tests)

terminated_owns : (t : TerminatedData) → 1 ≤ length t.read → (u : List ℕ) (n : ℕ) → terminated_states t u ≡ Long n → Owns t.sync (terminated_states t) u n
terminated_owns t some u n h =
    let v : List ℕ = take frame_limit u in
    let e = end_tells (length t.sync) t.read v n (end_long (end_of_frame t v) (nat_le frame_limit (length u)) n h) in
    let within : n ≤ frame_limit = omega (arith, e.end, e.fits, some, length-drop (length t.sync) v, length-take frame_limit u) in
    let far : n ≡ length t.sync + (e.place + length t.read) = omega (arith, e.end) in
    record {
      within = within;
      some = omega (arith, e.end, some);
      room = omega (arith, e.end);
      own = λ all.
          let own : take frame_limit (take n u) ≡ take n v = take_turns frame_limit n u in
          let here : drop (length t.sync) (take frame_limit (take n u)) ≡ take (e.place + length t.read) (drop (length t.sync) v) =
          ap (drop (length t.sync)) (own ∙ ap (λ m. take m v) far) ∙ drop-take (length t.sync) (e.place + length t.read) v in
          let found : first_place t.read (drop (length t.sync) (take frame_limit (take n u))) ≡ Some e.place = ap (first_place t.read) here ∙ first_cut t.read (drop (length t.sync) v) e.place e.first in
          rw found refl;
    }

-- ---- FIXED

pub start_decided_by : (f : FixedData) (o : Option StartData) → is_open (start_states f o) ≡ false
start_decided_by f (Some s) = within_decided (nat_le (f.discard + s.length) frame_limit) (f.discard + s.length)
start_decided_by f None = by_raise f.raise
  where
    by_raise : (b : Bool) → is_open (cond b (Wrong UnknownStart) (long_within (decided_at f))) ≡ false
    by_raise true = refl
    by_raise false = within_decided (nat_le (decided_at f) frame_limit) (decided_at f)

start_long : (f : FixedData) → FixedRules f → (w : List ℕ) (o : Option StartData) (n : ℕ) → first_start f w ≡ o → start_states f o ≡ Long n → (decided_at f ≤ n) × (n ≤ frame_limit)
start_long f r w (Some s) n e h = let t = within_tells (f.discard + s.length) n h in (omega (arith, t.0, start_room f r w s e), t.1)
start_long f r w None n e h =
    let a = wrong_or_long f.raise UnknownStart (long_within (decided_at f)) n h in
    let t = within_tells (decided_at f) n a.1 in
    (omega (arith, t.0), t.1)

fixed_room : (f : FixedData) → is_sound_spec (Fixed f) ≡ true → (length f.sync ≤ decided_at f) × (length f.sync ≤ 64)
fixed_room f h =
    let small : Bool = nat_le 1 f.min_id && is_within_frame f.min_id && is_within_frame f.discard && is_pattern f.sync in
    let room : Bool = nat_le (length f.sync) (f.discard + f.min_id) in
    let start : Bool = list_all (is_start_within f.min_id) f.starts in
    let a = and_tells (small && room) start (and_tells (small && room && start) (list_all has_places f.starts) h).0 in
    let b = and_tells small room a.0 in
    let c = and_tells (nat_le 1 f.min_id && is_within_frame f.min_id && is_within_frame f.discard) (is_pattern f.sync) b.0 in
    (le_tells (length f.sync) (decided_at f) b.1, pattern_fits f.sync c.1)

fixed_owns : (f : FixedData) → FixedRules f → length f.sync ≤ decided_at f → (u : List ℕ) (n : ℕ) → fixed_states f u ≡ Long n → Owns f.sync (fixed_states f) u n
fixed_owns f r fits u n h =
    let g = guard_long (nat_lt (length u) (decided_at f)) (start_states f (first_start f (take (decided_at f) u))) n h in
    let t = start_long f r (take (decided_at f) u) (first_start f (take (decided_at f) u)) n refl g.1 in
    record {
      within = t.1;
      some = omega (arith, r.some, t.0);
      room = omega (arith, fits, t.0);
      own = λ all. rw (not_lt_test (length (take n u)) (decided_at f) (omega (arith, t.0, length-take-le n u all))) (start_decided_by f (first_start f (take (decided_at f) (take n u))));
    }

-- ---- PREIDENTIFIED

head_few : (v : List ℕ) → AreBytes v → head_end v ≤ 524
head_few v h = omega (arith, h 8, h (target_end v))

head_open : (w b : Bool) (c : BadCause) (s : Stated) → is_open s ≡ false → cond w (Wrong c) (cond b s Open) ≡ Open → b ≡ false
head_open true b c s d h = cc h
head_open false true c s d h = let never : true ≡ false = sym (ap is_open h) ∙ d in absurd (cc)
head_open false false c s d h = refl

count_decided : (p : PreidentifiedData) (end count : ℕ) → is_open (count_states p end count) ≡ false
count_decided p end count = over_decided (is_over p.max count) count (length p.sync + end + count)

-- a head that is there decides
laid_decided : (p : PreidentifiedData) (b : Bool) (v : List ℕ) (w : Bool) → has_wrong_flags b v ≡ w → has_laid b v ≡ true → is_open (head_states p b v) ≡ false
laid_decided p b v true e h = rw e refl
laid_decided p b v false e h = rw (e, h) (count_decided p (laid_end b v) (laid_of b v).count)

flags_few : (b : Bool) → flag_len b ≤ 1
flags_few true = omega arith
flags_few false = omega arith

preidentified_owns : (p : PreidentifiedData) (u : List ℕ) (n : ℕ) → preidentified_states p u ≡ Long n → Owns p.sync (preidentified_states p) u n
preidentified_owns p u n h =
    let v : List ℕ = drop (length p.sync) u in
    let b : Bool = has_flags p.layout in
    let g = by_flags (has_wrong_flags b v) (has_laid b v) (flags_at b v) (count_states p (laid_end b v) (laid_of b v).count) n h in
    let t = count_tells p (laid_end b v) (laid_of b v).count n g.2 in
    record {
      within = t.within;
      some = omega (arith, t.length_is, laid_end_is b v);
      room = omega (arith, t.length_is);
      own = λ all.
          let w : List ℕ = drop (length p.sync) (take n u) in
          let len : length (take n u) ≡ n = length-take-le n u all in
          let parts : v ≡ w ++ drop n u = ap (drop (length p.sync)) (sym (take-append-drop n u)) ∙ drop-append-le (length p.sync) (take n u) (drop n u) (omega (arith, t.length_is, len)) in
          let ends : laid_end b (w ++ drop n u) ≤ length w = omega (arith, ap (laid_end b) parts, t.length_is, len, length-drop (length p.sync) (take n u)) in
          laid_decided p b w (has_wrong_flags b w) refl (has_laid_back b w (drop n u) ends);
    }

-- ---- BURST

burst_short : (b : BurstData) (u : List ℕ) → length b.sync ≤ 64 → Ends (framing_of (Burst b)) u None → length u < frame_limit
burst_short b u fits h = elim (cases_lt (length u) (length b.sync)) [
  | inl few ↦ omega (arith, few, fits)
  | inr enough ↦ elim (cases_lt 0 (length u)) [
    | inl some ↦
        let begin = agree_begins b.sync u enough h.synced in
        elim (cases_lt frame_limit (length u)) [
          | inl far ↦
              let wrong_is : burst_error b u ≡ Some TooLong = rw (begin, lt_test frame_limit (length u) far) refl in
              let never : Some TooLong ≡ None = sym wrong_is ∙ h.error in
              absurd (cc)
          | inr within ↦
              let whole : burst_whole b u [] ≡ true = rw (le_test 1 (length u) some, begin, le_test (length u) frame_limit within) refl in
              absurd (h.no_frame u [] (sym (append-nil u)) whole)
        ]
    | inr none ↦ omega (arith, none)
  ]
]

-- ---- all protocols

length_fits : (l : LengthData) → is_sound_spec (Length l) ≡ true → (1 ≤ reach l.place) × (reach l.place ≤ frame_limit) × (length l.sync ≤ 64)
length_fits l h =
    let a = and_tells (is_place l.place && nat_le 1 l.per_count && nat_le l.per_count 65535 && is_within_frame l.discard) (is_pattern l.sync) h in
    let b = and_tells (is_place l.place && nat_le 1 l.per_count && nat_le l.per_count 65535) (is_within_frame l.discard) a.0 in
    let c = and_tells (is_place l.place && nat_le 1 l.per_count) (nat_le l.per_count 65535) b.0 in
    (length_reaches l h, place_few l.place (and_tells (is_place l.place) (nat_le 1 l.per_count) c.0).0, pattern_fits l.sync a.1)

pub rests_are_short : RestsAreShort
rests_are_short (Burst b) u s y h = burst_short b u (pattern_fits b.sync (and_tells (is_within_frame b.discard) (is_pattern b.sync) s).1) h
rests_are_short (Fixed f) u s y h =
    let r = fixed_rules f s in
    let room = fixed_room f s in
    short_rest f.sync (fixed_states f) _ (fixed_steady f) u (max frame_limit (decided_at f)) room.1 (omega arith)
    (λ e. let few = length_open (nat_lt (length u) (decided_at f)) (start_states f (first_start f (take (decided_at f) u))) (start_decided_by f _) e in omega (arith, lt_tells (length u) (decided_at f) few))
    (fixed_owns f r room.0 u) h
rests_are_short (Length l) u s y h =
    let t = length_fits l s in
    short_rest l.sync (length_states l) _ (length_steady l) u frame_limit t.2 (omega arith)
    (λ e. let few = length_open (nat_lt (length u) (reach l.place)) (field_states l (field l.place u)) (field_decided l (field l.place u)) e in omega (arith, lt_tells (length u) (reach l.place) few, t.1))
    (length_owns l t.0 u) h
rests_are_short (Terminated t) u s y h =
    let fits = pattern_fits t.sync (and_tells (is_pattern t.write && is_pattern t.read && nat_le 1 (length t.read) && is_within_frame t.discard) (is_pattern t.sync) s).1 in
    short_rest t.sync (terminated_states t) _ (terminated_steady t) u frame_limit fits (omega arith)
    (λ e. not_full frame_limit (length u) (end_open (end_of_frame t (take frame_limit u)) (nat_le frame_limit (length u)) e))
    (terminated_owns t (read_some t s) u) h
rests_are_short (Preidentified p) u s y h =
    let v : List ℕ = drop (length p.sync) u in
    let b : Bool = has_flags p.layout in
    let fits = pattern_fits p.sync (and_tells (is_layout p.layout) (is_pattern p.sync) s).1 in
    let vb : AreBytes v = are_drop (length p.sync) u y in
    short_rest p.sync (preidentified_states p) _ (preidentified_steady p) u frame_limit fits (omega arith)
    (λ e. let none = head_open (has_wrong_flags b v) (has_laid b v) (Flags (flags_at b v)) (count_states p (laid_end b v) (laid_of b v).count) (count_decided p (laid_end b v) (laid_of b v).count) e in
    omega (arith, not_full (head_end (after_flags b v)) (length (after_flags b v)) none, head_few (after_flags b v) (are_drop (flag_len b) v vb), flags_few b, fits, length-drop (length p.sync) u, length-drop (flag_len b) v))
    (preidentified_owns p u) h
