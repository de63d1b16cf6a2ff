-- One device after another comes back to its place.
use Rattle.std.proofs.Common.{◌≡◌, ℕ, ◌+◌, ◌<◌, ◌≤◌, List, [], ◌∷◌, ◌++◌, length, map, set, drop, Option, Some, None, refl, sym, ◌∙◌, ap, subst}
use Rattle.std.proofs.Common.{arith, append_assoc, length-append}
use Rattle.std.specs.List.{cons_option, filter_map}
use Rattle.std.proofs.lemmas.List.{append-nil, drop_more, length-drop, length-map, map-append, nil_from_length, set_at}
use Rattle.std.proofs.lemmas.List.Elements.{filter_map-append}
use Rattle.cts_server.specs.Homes.{CameHome, last_of}
use Rattle.cts_server.specs.Places.{filled}

module _ {T N : Type 0} (kind : T → Option N) where
  -- one item more, of this kind
  pub more_of : (ts : List T) (t : T) (n : N) → kind t ≡ Some n → filter_map kind (ts ++ t ∷ []) ≡ filter_map kind ts ++ n ∷ []
  more_of ts t n is = filter_map-append kind ts (t ∷ []) ∙ ap (λ (o : Option N). filter_map kind ts ++ cons_option o []) is

  -- and of another kind
  pub none_of : (ts : List T) (t : T) → kind t ≡ None → filter_map kind (ts ++ t ∷ []) ≡ filter_map kind ts
  none_of ts t not = filter_map-append kind ts (t ∷ []) ∙ ap (λ (o : Option N). filter_map kind ts ++ cons_option o []) not ∙ append-nil (filter_map kind ts)

  -- there is a place for it
  pub has_place : (ts : List T) (t : T) (rest all : List T) (n : N) (m : ℕ) → ts ++ t ∷ rest ≡ all → kind t ≡ Some n
      → length (filter_map kind all) ≤ m → length (filter_map kind ts) < m
  has_place ts t rest all n m split is few =
      let e : filter_map kind all ≡ filter_map kind ts ++ n ∷ filter_map kind rest = ap (filter_map kind) (sym split) ∙ filter_map-append kind ts
      (t ∷ rest) ∙ ap (λ (o : Option N). filter_map kind ts ++ cons_option o (filter_map kind rest)) is in
      let many = ap length e ∙ length-append (filter_map kind ts) (n ∷ filter_map kind rest) in
      omega (arith, many, few)

  -- what is kept of it stands after what was kept before
  pub added_one : (ts : List T) (t : T) (n : N) (old now new : List N) → now ≡ old ++ filter_map kind ts → kind t ≡ Some n → new ≡ now ++ n ∷ []
      → new ≡ old ++ filter_map kind (ts ++ t ∷ [])
  added_one ts t n old now new before is put = put ∙ ap (λ (l : List N). l ++ n ∷ []) before ∙ append_assoc old (filter_map kind ts) (n ∷ [])
      ∙ ap (λ (l : List N). old ++ l) (sym (more_of ts t n is))

  pub added_other : (ts : List T) (t : T) (old now : List N) → now ≡ old ++ filter_map kind ts → kind t ≡ None → now ≡ old ++ filter_map kind (ts ++ t ∷ [])
  added_other ts t old now before not = before ∙ ap (λ (l : List N). old ++ l) (sym (none_of ts t not))

module _ {X : Type 0} where
  filled_more : (xs : List X) (old : List (Option X)) (x : X) → length xs < length old → set (filled xs old) (length xs) (Some x) ≡ filled (xs ++ x ∷ []) old
  filled_more xs old x lt =
      let front = map Some xs in
      let many : length front ≡ length xs = length-map xs Some in
      let cut = drop_more old (length xs) (Some x) lt in
      ap (λ (l : List (Option X)). set (front ++ l) (length xs) (Some x)) cut
      ∙ set_at front _ (drop (length xs + 1) old) (Some x) (length xs) many
      ∙ sym (append_assoc front (Some x ∷ []) (drop (length xs + 1) old))
      ∙ ap (λ (l : List (Option X)). l ++ drop (length xs + 1) old) (sym (map-append Some xs (x ∷ [])))
      ∙ ap (λ (n : ℕ). map Some (xs ++ x ∷ []) ++ drop n old) (sym (length-append xs (x ∷ [])))

  -- what is filled is as long as before
  pub length-filled : (xs : List X) (old : List (Option X)) → length xs ≤ length old → length (filled xs old) ≡ length old
  length-filled xs old few = simp (length-append, length-map, length-drop) (omega (arith, few))

  -- the last that came into a place
  pub last_more : (place : Option X) (xs : List X) (x : X) → last_of place (xs ++ x ∷ []) ≡ Some x
  last_more place [] x = refl
  last_more place (y ∷ xs) x = last_more (Some y) xs x

module _ {T N X : Type 0} (kind : T → Option N) (device : N → X) where
  home_more : (ts : List T) (t : T) (n : N) (old now new : List (Option X)) → CameHome kind device ts old now → kind t ≡ Some n
      → length (filter_map kind ts) < length old
      → new ≡ set now (length (filter_map kind ts)) (Some (device n)) → CameHome kind device (ts ++ t ∷ []) old new
  home_more ts t n old now new home is lt put =
      let devices = map device (filter_map kind ts) in
      let many : length devices ≡ length (filter_map kind ts) = length-map (filter_map kind ts) device in
      put ∙ ap (λ (l : List (Option X)). set l (length (filter_map kind ts)) (Some (device n))) home
      ∙ ap (λ (i : ℕ). set (filled devices old) i (Some (device n))) (sym many)
      ∙ filled_more devices old (device n) (subst (λ (i : ℕ). i < length old) (sym many) lt)
      ∙ ap (λ (l : List X). filled l old) (sym (ap (map device) (more_of kind ts t n is) ∙ map-append device (filter_map kind ts) (n ∷ [])))

  -- The devices of the items so far have come home, and this is the number of the next place.
  pub record Home (ts : List T) (old now : List (Option X)) (next : ℕ) : Type 0 where
    pub places : CameHome kind device ts old now
    pub next_is : next ≡ length (filter_map kind ts)

  pub home_none : (old : List (Option X)) → Home [] old old 0
  home_none old = record { places = refl; next_is = refl }

  -- as many places as before, and one for an item more
  pub home_place : (ts : List T) (t : T) (rest all : List T) (n : N) (old now : List (Option X)) (next : ℕ) → Home ts old now next
      → ts ++ t ∷ rest ≡ all → kind t ≡ Some n → length (filter_map kind all) ≤ length old → next < length now
  home_place ts t rest all n old now next h split is few =
      let lt = has_place kind ts t rest all n (length old) split is few in
      let many : length (map device (filter_map kind ts)) ≡ length (filter_map kind ts) = length-map (filter_map kind ts) device in
      let long = ap length h.places ∙ length-filled (map device (filter_map kind ts)) old (omega (arith, many, lt)) in
      omega (arith, h.next_is, lt, long)

  -- an item more, of this kind
  pub home_one : (ts : List T) (t : T) (rest all : List T) (n : N) (old now new : List (Option X)) (next later : ℕ) → Home ts old now next
      → ts ++ t ∷ rest ≡ all → kind t ≡ Some n → length (filter_map kind all) ≤ length old
      → new ≡ set now next (Some (device n)) → later ≡ next + 1 → Home (ts ++ t ∷ []) old new later
  home_one ts t rest all n old now new next later h split is few put one = record {
    places = home_more ts t n old now new h.places is (has_place kind ts t rest all n (length old) split is few)
        (put ∙ ap (λ (i : ℕ). set now i (Some (device n))) h.next_is);
    next_is = let many = ap length (more_of kind ts t n is) ∙ length-append (filter_map kind ts) (n ∷ []) in omega (arith, many, h.next_is, one);
  }

  -- and of another kind
  pub home_other : (ts : List T) (t : T) (old now : List (Option X)) (next : ℕ) → Home ts old now next → kind t ≡ None → Home (ts ++ t ∷ []) old now next
  home_other ts t old now next h not = record {
    places = h.places ∙ ap (λ (l : List N). filled (map device l) old) (sym (none_of kind ts t not));
    next_is = h.next_is ∙ ap (length {A = N}) (sym (none_of kind ts t not));
  }

  -- the last that came into a place
  pub last_one : (ts : List T) (t : T) (n : N) (place : Option X) → kind t ≡ Some n → last_of place (map device (filter_map kind (ts ++ t ∷ [])))
      ≡ Some (device n)
  last_one ts t n place is = ap (λ (l : List N). last_of place (map device l)) (more_of kind ts t n is) ∙ ap (last_of place)
      (map-append device (filter_map kind ts) (n ∷ [])) ∙ last_more place (map device (filter_map kind ts)) (device n)

  pub last_other : (ts : List T) (t : T) (place : Option X) → kind t ≡ None → last_of place (map device (filter_map kind ts)) ≡ last_of place
      (map device (filter_map kind (ts ++ t ∷ [])))
  last_other ts t place not = ap (λ (l : List N). last_of place (map device l)) (sym (none_of kind ts t not))

-- one item more of a walk
pub walked : {T : Type 0} (ts left rest all : List T) (t : T) → ts ++ left ≡ all → left ≡ t ∷ rest → (ts ++ t ∷ rest ≡ all) × ((ts ++ t ∷ []) ++ rest ≡ all)
walked {T} ts left rest all t all_are split =
    let a : ts ++ t ∷ rest ≡ all = ap (λ (l : List T). ts ++ l) (sym split) ∙ all_are in
    (a, append_assoc ts (t ∷ []) rest ∙ a)

pub walked_len : {T : Type 0} (left rest : List T) (t : T) (n m : ℕ) → left ≡ t ∷ rest → n ≡ length left → m + 1 ≡ n → m ≡ length rest
walked_len left rest t n m split e one = let l = ap length split in omega (arith, l, e, one)

pub walked_all : {T : Type 0} (ts left all : List T) (n : ℕ) → ts ++ left ≡ all → n ≡ length left → n ≡ 0 → ts ≡ all
walked_all {T} ts left all n all_are e none = sym (append-nil ts) ∙ ap (λ (l : List T). ts ++ l) (sym (nil_from_length left (omega (arith, e, none)))) ∙ all_are
