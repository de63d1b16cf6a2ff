-- Cuts follow the sync pattern.
use Rattle.std.proofs.Common.{◌≡◌, ◌≤◌, ◌<◌, ℕ, ◌+◌, List, [], ◌∷◌, ◌++◌, length, refl, sym, ◌∙◌, ap, subst, arith, ◌⊎◌, inl, inr, append_assoc, length-append}
use native.Mathlib.Decide.{dec_le}
use Rattle.cts_framing.specs.Framing.{Framing, Agree, BeginsWith, IsSound}
use Rattle.cts_framing.specs.Cuts.{NoneBegins, Part, Parts, gaps, Pieces, IsCut}
use Rattle.cts_framing.specs.SyncPatterns.{OccursBehind, IsLeftmost, IsLongestKept, EndsByPattern, FollowPattern, IsCutByPattern, CutsFollowThePattern, NothingIsSkipped}
use Rattle.std.proofs.lemmas.List.{append_cancel_left}
use Rattle.cts_framing.proofs.Fronts.{same_front}
use Rattle.cts_framing.proofs.SomeCut.{place}
use Rattle.cts_framing.proofs.Framings.{pattern_agrees}

-- bytes that agree with a pattern and are no shorter begin with it
agree_long : (s u : List ℕ) → Agree s u → length s ≤ length u → BeginsWith s u
agree_long [] u a l = (u, refl)
agree_long (c ∷ s) [] a l = absurd (omega (arith, l))
agree_long (c ∷ s) (x ∷ u) a l =
    let r = agree_long s u a.1 (omega (arith, l)) in
    let e : x ≡ c = sym a.0 in
    (r.0, λ i. e i ∷ r.1 i)

-- and those that are no longer are a prefix of it
agree_short : (s u : List ℕ) → Agree s u → length u ≤ length s → BeginsWith u s
agree_short s [] a l = (s, refl)
agree_short [] (x ∷ u) a l = absurd (omega (arith, l))
agree_short (c ∷ s) (x ∷ u) a l =
    let r = agree_short s u a.1 (omega (arith, l)) in
    (r.0, λ i. a.0 i ∷ r.1 i)

prefix_agrees : (u t : List ℕ) → Agree (u ++ t) u
prefix_agrees [] [] = tt
prefix_agrees [] (c ∷ t) = tt
prefix_agrees (x ∷ u) t = (refl, prefix_agrees u t)

-- where a frame may begin is not in a gap
not_in_gap : (s gap u front back : List ℕ) → gap ++ u ≡ front ++ back → NoneBegins s gap u → Agree s back → length gap ≤ length front
not_in_gap s [] u front back e n a = omega arith
not_in_gap s (x ∷ gap) u [] back e n a = absurd (n.0 (subst (Agree s) (sym e) a))
not_in_gap s (x ∷ gap) u (y ∷ front) back e n a =
    let tail : gap ++ u ≡ front ++ back = cc in
    omega (arith, not_in_gap s gap u front back tail n.1 a)

module _ (s b gap u : List ℕ) (e : b ≡ gap ++ u) (n : NoneBegins s gap u) where
  after_gap : (other : List ℕ) → OccursBehind s b other → length gap ≤ length other
  after_gap other o = not_in_gap s gap u other (s ++ o.0) (sym e ∙ o.1) n (pattern_agrees s o.0)

  leftmost : BeginsWith s u → IsLeftmost s b gap
  leftmost h = record { occurs = (h.0, e ∙ ap (λ v. gap ++ v) h.1); first = after_gap }

  found : Agree s u → (before : List ℕ) → OccursBehind s b before → IsLeftmost s b gap
  found a before o =
      let far = after_gap before o in
      let long : length b ≡ length before + (length s + length o.0) = ap length o.1 ∙ omega (arith, length-append before (s ++ o.0), length-append s o.0) in
      leftmost (agree_long s u a (omega (arith, far, long, ap length e, length-append gap u)))

  kept_by : Agree s u → ((before : List ℕ) → OccursBehind s b before → ⊥) → (length s ≤ length u) ⊎ (length s ≤ length u → ⊥) → IsLongestKept s b gap u
  kept_by a never (inl long) = absurd (never gap (leftmost (agree_long s u a long)).occurs)
  kept_by a never (inr short) =
      let few : length u < length s = omega (arith, short) in
      record {
        suffix = e;
        may = (few, agree_short s u a (omega (arith, few)));
        longest = λ front back k m.
            let far = not_in_gap s gap u front back (sym e ∙ k) n (subst (λ t. Agree t back) (sym m.1.1) (prefix_agrees back m.1.0)) in
            omega (arith, far, ap length e, ap length k, length-append gap u, length-append front back);
      }

  ends_by_pattern : Agree s u → EndsByPattern s b gap u
  ends_by_pattern a = record {
    all = e;
    found = found a;
    kept = λ never. kept_by a never (elim (dec_le (length s) (length u)) [ yes y ↦ inl y | no z ↦ inr z ]);
  }

-- ---- back

same_place : (gap gap' u u' : List ℕ) → gap ++ u ≡ gap' ++ u' → length gap ≡ length gap' → (gap ≡ gap') × (u ≡ u')
same_place gap gap' u u' e l =
    let front = same_front gap gap' u u' l e in
    (front, append_cancel_left gap' u u' (ap (λ t. t ++ u) (sym front) ∙ e))

-- the first place where a frame may begin
pub record FirstPlace (s b : List ℕ) : Type 0 where
  pub gap : List ℕ
  pub rest : List ℕ
  pub all : b ≡ gap ++ rest
  pub clear : NoneBegins s gap rest
  pub agrees : Agree s rest

first_place : (s b : List ℕ) → FirstPlace s b
first_place s b = let r = place s b in record { gap = r.0; rest = r.1; all = r.2; clear = r.3; agrees = r.4 }

module _ (s b gap u : List ℕ) (e : b ≡ gap ++ u) (r : FirstPlace s b) where
  clear_by : length r.gap ≡ length gap → NoneBegins s gap u
  clear_by l =
      let same = same_place r.gap gap r.rest u (sym r.all ∙ e) l in
      subst (λ g. NoneBegins s g u) same.0 (subst (NoneBegins s r.gap) same.1 r.clear)

  -- an occurrence is no nearer than the first place, and has room after it
  far : (before : List ℕ) → OccursBehind s b before → (length r.gap ≤ length before) × (length s ≤ length r.rest)
  far before o =
      let away = after_gap s b r.gap r.rest r.all r.clear before o in
      let long : length b ≡ length before + (length s + length o.0) = ap length o.1 ∙ omega (arith, length-append before (s ++ o.0), length-append s o.0) in
      (away, omega (arith, away, long, ap length r.all, length-append r.gap r.rest))

  here : length s ≤ length r.rest → OccursBehind s b r.gap
  here l = (leftmost s b r.gap r.rest r.all r.clear (agree_long s r.rest r.agrees l)).occurs

  leftmost_clear : IsLeftmost s b gap → NoneBegins s gap u
  leftmost_clear m =
      let away = far gap m.occurs in
      clear_by (omega (arith, away.0, m.first r.gap (here away.1)))

  occurs_agree : OccursBehind s b gap → Agree s u
  occurs_agree o = subst (Agree s) (sym (append_cancel_left gap u (s ++ o.0) (sym e ∙ o.1))) (pattern_agrees s o.0)

  end_clear : EndsByPattern s b gap u → (length s ≤ length r.rest) ⊎ (length s ≤ length r.rest → ⊥) → NoneBegins s gap u × Agree s u
  end_clear h (inl long) =
      let m = h.found r.gap (here long) in
      (leftmost_clear m, occurs_agree m.occurs)
  end_clear h (inr short) =
      let k = h.kept (λ before o. short (far before o).1) in
      let agrees : Agree s u = subst (λ t. Agree t u) (sym k.may.1.1) (prefix_agrees u k.may.1.0) in
      let away : length r.gap ≤ length gap = not_in_gap s r.gap r.rest gap u (sym r.all ∙ e) r.clear agrees in
      let few : length r.rest < length s = omega (arith, short) in
      let near : length r.rest ≤ length u = k.longest r.gap r.rest r.all (few, agree_short s r.rest r.agrees (omega (arith, few))) in
      (clear_by (omega (arith, away, near, ap length e, ap length r.all, length-append gap u, length-append r.gap r.rest)), agrees)

-- no frame begins before a leftmost occurrence, nor before an end
pub clear_of_leftmost : (s b gap u : List ℕ) → b ≡ gap ++ u → IsLeftmost s b gap → NoneBegins s gap u
clear_of_leftmost s b gap u e m = leftmost_clear s b gap u e (first_place s b) m

pub clear_of_end : (s b gap u : List ℕ) → EndsByPattern s b gap u → NoneBegins s gap u × Agree s u
clear_of_end s b gap u h =
    let r = first_place s b in
    end_clear s b gap u h.all r h (elim (dec_le (length s) (length r.rest)) [ yes y ↦ inl y | no z ↦ inr z ])

-- ---- whole cuts

follows : (f : Framing) → IsSound f → (ps : List Part) (b gap rest : List ℕ) → Parts f ps b (gap ++ rest) → NoneBegins f.sync gap rest → Agree f.sync rest → FollowPattern f ps b gap rest
follows f s [] b gap rest h n a = ends_by_pattern f.sync b gap rest h n a
follows f s (p ∷ ps) b gap rest h n a =
    let begins = s.synced p.frame h.0 h.2 in
    let begins_there : BeginsWith f.sync (p.frame ++ h.0) = (begins.0 ++ h.0, ap (λ v. v ++ h.0) begins.1 ∙ append_assoc f.sync begins.0 h.0) in
    (h.0, h.1, h.2, begins, leftmost f.sync b p.gap (p.frame ++ h.0) h.1 h.3 begins_there, follows f s ps h.0 gap rest h.4 n a)

-- the parts of a cut, and its last gap
pub record Back (f : Framing) (ps : List Part) (b gap rest : List ℕ) : Type 0 where
  pub parts : Parts f ps b (gap ++ rest)
  pub clear : NoneBegins f.sync gap rest
  pub agrees : Agree f.sync rest

back : (f : Framing) (ps : List Part) (b gap rest : List ℕ) → FollowPattern f ps b gap rest → Back f ps b gap rest
back f [] b gap rest h =
    let end = clear_of_end f.sync b gap rest h in
    record { parts = h.all; clear = end.0; agrees = end.1 }
back f (p ∷ ps) b gap rest h =
    let more = back f ps h.0 gap rest h.5 in
    record { parts = (h.0, h.1, h.2, clear_of_leftmost f.sync b p.gap (p.frame ++ h.0) h.1 h.4, more.parts); clear = more.clear; agrees = more.agrees }

by_pattern : (f : Framing) (b : List ℕ) (c : Pieces) → IsSound f → IsCut f b c → IsCutByPattern f b c
by_pattern f b c s h =
    let t = h.taken in
    record {
      parts = t.parts;
      gap = t.gap;
      frames = follows f s t.parts b t.gap c.rest t.cut t.clear h.ends.synced;
      no_frame = h.ends.no_frame;
      error = h.ends.error;
      outs = t.outs_are;
      skipped = t.skipped_is;
      empty = t.empty_is;
    }

cut_by_pattern : (f : Framing) (b : List ℕ) (c : Pieces) → IsCutByPattern f b c → IsCut f b c
cut_by_pattern f b c h =
    let k = back f h.parts b h.gap c.rest h.frames in
    record {
      taken = record { parts = h.parts; gap = h.gap; cut = k.parts; clear = k.clear; outs_are = h.outs; skipped_is = h.skipped; empty_is = h.empty };
      ends = record { synced = k.agrees; no_frame = h.no_frame; error = h.error };
    }

pub cuts_follow : CutsFollowThePattern
cuts_follow f b c s = (by_pattern f b c s, cut_by_pattern f b c)

-- with the empty pattern a frame may begin anywhere
gap_is_none : (s gap u : List ℕ) → s ≡ [] → NoneBegins s gap u → length gap ≡ 0
gap_is_none s [] u e n = refl
gap_is_none s (x ∷ gap) u e n = absurd (n.0 (subst (λ t. Agree t (x ∷ (gap ++ u))) (sym e) tt))

gaps_are_none : (f : Framing) → f.sync ≡ [] → (ps : List Part) (b rest : List ℕ) → Parts f ps b rest → gaps ps ≡ 0
gaps_are_none f e [] b rest h = refl
gaps_are_none f e (p ∷ ps) b rest h = omega (arith, gap_is_none f.sync p.gap (p.frame ++ h.0) e h.3, gaps_are_none f e ps h.0 rest h.4)

pub nothing_is_skipped : NothingIsSkipped
nothing_is_skipped f b c e h =
    let t = h.taken in
    omega (arith, t.skipped_is, gaps_are_none f e t.parts b (t.gap ++ c.rest) t.cut, gap_is_none f.sync t.gap c.rest e t.clear)
