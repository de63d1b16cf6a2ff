-- The first start is told by the bytes that decide.
use Rattle.std.proofs.Common.{◌≡◌, ℕ, ◌+◌, ◌≤◌, true, false, ◌&&◌, Bool, cond, List, [], ◌∷◌, ◌++◌, length, take, drop, refl, sym, ◌∙◌, ap, arith, Option, Some, length-append}
use Rattle.std.specs.Prelude.{nat_le}
use Rattle.std.specs.List.{find, list_all}
use Rattle.std.proofs.lemmas.List.{take-append-drop, drop-append-le, length-drop, length-take-le}
use Rattle.cts_bits.specs.Places.{reach_of}
use Rattle.cts_def.specs.Beginnings.{has_id, begins_with}
use Rattle.cts_def.specs.Protocols.{FixedData, Fixed, is_sound_spec, is_id_within, is_start_within, is_within_frame, is_pattern}
use Rattle.cts_def.specs.Starts.{IdField, StartData, has_places}
use Rattle.cts_framing.specs.Rows.{decided_at, first_start}
use Rattle.cts_framing.proofs.Fronts.{and_tells, le_tells, le_test, field_front}

id_front : (u y : List ℕ) (m : ℕ) (i : IdField) → m ≤ length u → is_id_within m i ≡ true → has_id (u ++ y) i ≡ has_id u i
id_front u y m i h w =
    let fits : reach_of i.place.order i.place.offset i.place.bits ≤ m = le_tells _ _ w in
    let e = field_front i.place.order i.place.offset i.place.bits u y (omega (arith, fits, h)) in
    let long : nat_le (reach_of i.place.order i.place.offset i.place.bits) (length (u ++ y)) ≡ true = le_test _ _ (omega (arith, fits, h, length-append u y)) in
    let here : nat_le (reach_of i.place.order i.place.offset i.place.bits) (length u) ≡ true = le_test _ _ (omega (arith, fits, h)) in
    rw (long, here, e) refl

ids_front : (u y : List ℕ) (m : ℕ) (ids : List IdField) → m ≤ length u → list_all (is_id_within m) ids ≡ true → list_all (has_id (u ++ y)) ids ≡ list_all (has_id u) ids
ids_front u y m [] h w = refl
ids_front u y m (i ∷ ids) h w =
    let t = and_tells (is_id_within m i) (list_all (is_id_within m) ids) w in
    rw (id_front u y m i h t.0, ids_front u y m ids h t.1) refl

-- whether bytes begin as a packet does is told by the bytes in which its ids lie
start_front : (u y : List ℕ) (m : ℕ) (s : StartData) → m ≤ length u → is_start_within m s ≡ true → begins_with s (u ++ y) ≡ begins_with s u
start_front u y m s h w = ids_front u y m s.ids h (and_tells (nat_le m s.length) (list_all (is_id_within m) s.ids) w).1

find_front : (v y : List ℕ) (m : ℕ) (starts : List StartData) → m ≤ length v → list_all (is_start_within m) starts ≡ true
    → find (λ s. begins_with s (v ++ y)) starts ≡ find (λ s. begins_with s v) starts
find_front v y m [] h w = refl
find_front v y m (s ∷ starts) h w =
    let t = and_tells (is_start_within m s) (list_all (is_start_within m) starts) w in
    rw (start_front v y m s h t.0, find_front v y m starts h t.1) refl

found_length : (b : Bool) (s t : StartData) (o : Option StartData) (m : ℕ) → cond b (Some s) o ≡ Some t → m ≤ s.length → (o ≡ Some t → m ≤ t.length) → m ≤ t.length
found_length true s t o m h here later = let e : s ≡ t = cc in omega (arith, here, ap (λ (r : StartData). r.length) e)
found_length false s t o m h here later = later h

-- a start is as long as all ids need
find_length : (v : List ℕ) (m : ℕ) (starts : List StartData) (t : StartData) → list_all (is_start_within m) starts ≡ true → find (λ s. begins_with s v) starts ≡ Some t → m ≤ t.length
find_length v m [] t w h = cc
find_length v m (s ∷ starts) t w h =
    let a = and_tells (is_start_within m s) (list_all (is_start_within m) starts) w in
    let long = le_tells m s.length (and_tells (nat_le m s.length) (list_all (is_id_within m) s.ids) a.0).0 in
    found_length (begins_with s v) s t (find (λ s. begins_with s v) starts) m h long (find_length v m starts t a.1)

-- what the rules of FIXED say here
pub record FixedRules (f : FixedData) : Type 0 where
  pub some : 1 ≤ f.min_id
  pub starts : list_all (is_start_within f.min_id) f.starts ≡ true

pub fixed_rules : (f : FixedData) → is_sound_spec (Fixed f) ≡ true → FixedRules f
fixed_rules f h =
    let small : Bool = nat_le 1 f.min_id && is_within_frame f.min_id && is_within_frame f.discard && is_pattern f.sync in
    let room : Bool = nat_le (length f.sync) (f.discard + f.min_id) in
    let start : Bool = list_all (is_start_within f.min_id) f.starts in
    let a = and_tells (small && room) start (and_tells (small && room && start) (list_all has_places f.starts) h).0 in
    let b = and_tells small room a.0 in
    let c = and_tells (nat_le 1 f.min_id && is_within_frame f.min_id && is_within_frame f.discard) (is_pattern f.sync) b.0 in
    let d = and_tells (nat_le 1 f.min_id && is_within_frame f.min_id) (is_within_frame f.discard) c.0 in
    record { some = le_tells 1 f.min_id (and_tells (nat_le 1 f.min_id) (is_within_frame f.min_id) d.0).0; starts = a.1 }

-- the first start in the bytes that decide is that in all bytes
pub start_decided : (f : FixedData) → FixedRules f → (w : List ℕ) → decided_at f ≤ length w → first_start f (take (decided_at f) w) ≡ first_start f w
start_decided f r w h =
    let u : List ℕ = take (decided_at f) w in
    let y : List ℕ = drop (decided_at f) w in
    let len : length u ≡ decided_at f = length-take-le (decided_at f) w h in
    let front : drop f.discard (u ++ y) ≡ drop f.discard u ++ y = drop-append-le f.discard u y (omega (arith, len)) in
    let same : first_start f (u ++ y) ≡ first_start f u = ap (λ (v : List ℕ). find (λ s. begins_with s v) f.starts) front
    ∙ find_front (drop f.discard u) y f.min_id f.starts (omega (arith, len, length-drop f.discard u)) r.starts in
    sym same ∙ ap (first_start f) (take-append-drop (decided_at f) w)

-- a start leaves room for the bytes that decide
pub start_room : (f : FixedData) → FixedRules f → (w : List ℕ) (s : StartData) → first_start f w ≡ Some s → f.min_id ≤ s.length
start_room f r w s e = find_length (drop f.discard w) f.min_id f.starts s r.starts e
