-- What tests tell, and where the connections of lines stand.
use Rattle.std.proofs.Common.{◌≡◌, ℕ, ◌<◌, Bool, true, false, ◌&&◌, length, refl, sym, subst, arith}
use Rattle.std.specs.Prelude.{◌≢◌, nat_lt}
use Rattle.std.proofs.lemmas.Bool.Decides.{nat_tests}
use Rattle.cts_connection.specs.LinePlaces.{is_line, line_place}
use Rattle.cts_connection.proofs.Placing.{lines_have_places, places_are_apart}
use Rattle.cts_def.specs.Sites.{IsSoundSite, SiteData}
use Rattle.cts_core.specs.States.{State}
use Rattle.cts_core.specs.Worlds.{Held, IsSoundHeld, RepresentsWithin}
use Rattle.cts_table.specs.declared.basis.Basis.{Basis}

pub and_tells : (a b : Bool) → (a && b) ≡ true → (a ≡ true) × (b ≡ true)
and_tells true b h = (refl, h)
and_tells false b h = cc

pub and_false : (a b : Bool) → b ≡ false → (a && b) ≡ false
and_false true b h = h
and_false false b h = refl

pub below : (n m : ℕ) → n < m → nat_lt n m ≡ true
below n m h = grind (arith, nat_tests)

-- ---- the places of lines

pub place_held : (w : Held) (by : ℕ) → IsSoundHeld w → is_line w.basis.site by ≡ true → line_place w.basis.site by < length w.connections
place_held w by h line = let there = lines_have_places w.basis.site by h.site line in omega (arith, there, h.count)

pub place_other : (site : SiteData) (k by : ℕ) → IsSoundSite site → is_line site k ≡ true → is_line site by ≡ true → k ≢ by → line_place site k ≢ line_place site by
place_other site k by sound one line other same = other (places_are_apart site k by sound one line same)

-- the same of what represents a state
module _ (base : Basis) (w : Held) (s : State) (sound : IsSoundSite base.site) (h : RepresentsWithin base w s) where
  pub place_shown : (by : ℕ) → is_line base.site by ≡ true → line_place w.basis.site by < length w.connections
  place_shown by line =
      let there : line_place base.site by < length w.connections = omega (arith, lines_have_places base.site by sound line, h.count) in
      subst (λ (b : Basis). line_place b.site by < length w.connections) (sym h.basis) there

  pub shown_other : (k by : ℕ) → is_line base.site k ≡ true → is_line base.site by ≡ true → k ≢ by → line_place w.basis.site k ≢ line_place w.basis.site by
  shown_other k by one line other = subst (λ (b : Basis). line_place b.site k ≢ line_place b.site by) (sym h.basis) (place_other base.site k by sound one line other)
