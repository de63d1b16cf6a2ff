use Rattle.std.proofs.Common.{◌≡◌, ◌||◌, ◌∙◌, length, take, get_or, arith, ap, sym, subst, rules, refl, Some, None, false, true}
use Rattle.std.specs.Prelude.{is_some}
use Rattle.std.specs.List.{list_any}
use Rattle.std.proofs.lemmas.Option.{get_or_from_slice_get}
use Rattle.cts_monitor.specs.Places.{PlacesData, PlacesTell, names_at, room_at, room_for}
use Rattle.cts_monitor.specs.Sets.{is_among, set_named}
use Rattle.cts_monitor.specs.Settings.{set_chosen}
use Rattle.cts_monitor.proofs.Keyed.{get_is}
use Rattle.cts_monitor.proofs.PlaceSteps.{gives_takes, is_not, is_there, known_before, places_chosen, places_given, places_new, places_same, room_for_set}
use Rattle.cts_monitor.proofs.places.Places.note.Goals as goal

pub returns-then-is_some-clause-tells : goal.returns-then-is_some-clause-tells
returns-then-is_some-clause-tells g c =
    let e = c.lend-entry.result.now in
    let is : e ≡ get_or (g.H.Stands.list c.args.history.now) c.args.at e = sym (get_or_from_slice_get (g.H.Stands.list c.args.history.now) c.args.at _ _ c.lend-entry.ensures) in
    let none : set_named e.what ≡ None = search rules in
    let on : is_some (set_chosen e.what) ≡ true = search rules in
    let set = is_there (set_chosen e.what) on in
    places_chosen c.args.site.now (g.H.Stands.list c.args.history.now) c.args.at e c.requires.place is c.args.self.now _ set.0 none set.1
    (ap (λ (p : PlacesData). p.given) c.self.view_is) (ap (λ (p : PlacesData). p.sets) c.self.view_is) refl c.requires.tells

pub returns-else-is_some-clause-tells : goal.returns-else-is_some-clause-tells
returns-else-is_some-clause-tells g c =
    let e = c.lend-entry.result.now in
    let is : e ≡ get_or (g.H.Stands.list c.args.history.now) c.args.at e = sym (get_or_from_slice_get (g.H.Stands.list c.args.history.now) c.args.at _ _ c.lend-entry.ensures) in
    let none : set_named e.what ≡ None = search rules in
    let off : is_some (set_chosen e.what) ≡ false = search rules in
    places_same c.args.site.now (g.H.Stands.list c.args.history.now) c.args.at e c.requires.place is c.args.self.now c.args.self.now none (is_not (set_chosen e.what) off) refl refl refl c.requires.tells

pub push_reserved-requires : goal.push_reserved-requires
push_reserved-requires g c =
    let e = c.lend-entry.result.now in
    let is : e ≡ get_or (g.H.Stands.list c.args.history.now) c.args.at e = sym (get_or_from_slice_get (g.H.Stands.list c.args.history.now) c.args.at _ _ c.lend-entry.ensures) in
    let named : set_named e.what ≡ Some c.in-Some.set.now = search rules in
    let one : room_at (g.H.Stands.list c.args.history.now) c.args.at ≡ 1 = ap room_for (get_is (g.H.Stands.list c.args.history.now) c.args.at e (omega (arith, c.requires.place)) is) ∙ gives_takes e.what c.in-Some.set.now named in
    let free = ap (λ (p : PlacesData). p.free) c.self.view_is in
    omega (arith, c.self.invariant.0, c.requires.free, one, free)

pub overflow_sub-self : goal.overflow_sub-self
overflow_sub-self g c =
    let e = c.lend-entry.result.now in
    let is : e ≡ get_or (g.H.Stands.list c.args.history.now) c.args.at e = sym (get_or_from_slice_get (g.H.Stands.list c.args.history.now) c.args.at _ _ c.lend-entry.ensures) in
    let named : set_named e.what ≡ Some c.in-Some.set.now = search rules in
    let one : room_at (g.H.Stands.list c.args.history.now) c.args.at ≡ 1 = ap room_for (get_is (g.H.Stands.list c.args.history.now) c.args.at e (omega (arith, c.requires.place)) is) ∙ gives_takes e.what c.in-Some.set.now named in
    let free = ap (λ (p : PlacesData). p.free) c.self.view_is in
    omega (arith, c.requires.free, one, free)

pub push_reserved-requires-then-not-known : goal.push_reserved-requires-then-not-known
push_reserved-requires-then-not-known g c =
    let e = c.lend-entry.result.now in
    let set = c.in-Some.set.now in
    let is : e ≡ get_or (g.H.Stands.list c.args.history.now) c.args.at e = sym (get_or_from_slice_get (g.H.Stands.list c.args.history.now) c.args.at _ _ c.lend-entry.ensures) in
    let named : set_named e.what ≡ Some set = search rules in
    let new : (is_among c.args.site.now.definitions.set_names set || list_any (names_at (g.H.Stands.list c.args.history.now) set) c.args.self.now.sets) ≡ false = search rules in
    let unknown = known_before c.args.site.now (g.H.Stands.list c.args.history.now) c.args.at e c.requires.place is c.args.self.now.sets set c.requires.tells.sets ∙ new in
    let few = room_for_set c.args.site.now (g.H.Stands.list c.args.history.now) c.args.at e c.requires.place is c.args.self.now.sets set named unknown c.requires.tells.sets c.requires.few in
    let long = ap (λ (p : PlacesData). length p.sets) c.self.view_is in
    omega (arith, c.self.invariant.1, few, long)

pub returns-then-not-known-clause-tells : goal.returns-then-not-known-clause-tells
returns-then-not-known-clause-tells g c =
    let e = c.lend-entry.result.now in
    let set = c.in-Some.set.now in
    let is : e ≡ get_or (g.H.Stands.list c.args.history.now) c.args.at e = sym (get_or_from_slice_get (g.H.Stands.list c.args.history.now) c.args.at _ _ c.lend-entry.ensures) in
    let named : set_named e.what ≡ Some set = search rules in
    let new : (is_among c.args.site.now.definitions.set_names set || list_any (names_at (g.H.Stands.list c.args.history.now) set) c.args.self.now.sets) ≡ false = search rules in
    let unknown = known_before c.args.site.now (g.H.Stands.list c.args.history.now) c.args.at e c.requires.place is c.args.self.now.sets set c.requires.tells.sets ∙ new in
    let t = subst (λ (p : PlacesData). PlacesTell c.args.site.now (take c.args.at (g.H.Stands.list c.args.history.now)) p) (sym c.self.view_is) c.requires.tells in
    places_new c.args.site.now (g.H.Stands.list c.args.history.now) c.args.at e c.requires.place is _ _ set named unknown c.push_reserved.ensures.items c.push_reserved-then-not-known.ensures.items refl t

pub returns-then-not-known-clause-free : goal.returns-then-not-known-clause-free
returns-then-not-known-clause-free g c =
    let e = c.lend-entry.result.now in
    let is : e ≡ get_or (g.H.Stands.list c.args.history.now) c.args.at e = sym (get_or_from_slice_get (g.H.Stands.list c.args.history.now) c.args.at _ _ c.lend-entry.ensures) in
    let named : set_named e.what ≡ Some c.in-Some.set.now = search rules in
    let one : room_at (g.H.Stands.list c.args.history.now) c.args.at ≡ 1 = ap room_for (get_is (g.H.Stands.list c.args.history.now) c.args.at e (omega (arith, c.requires.place)) is) ∙ gives_takes e.what c.in-Some.set.now named in
    let free = ap (λ (p : PlacesData). p.free) c.self.view_is in
    omega (arith, c.requires.free, one, free)

pub returns-else-not-known-clause-tells : goal.returns-else-not-known-clause-tells
returns-else-not-known-clause-tells g c =
    let e = c.lend-entry.result.now in
    let set = c.in-Some.set.now in
    let is : e ≡ get_or (g.H.Stands.list c.args.history.now) c.args.at e = sym (get_or_from_slice_get (g.H.Stands.list c.args.history.now) c.args.at _ _ c.lend-entry.ensures) in
    let named : set_named e.what ≡ Some set = search rules in
    let old : (is_among c.args.site.now.definitions.set_names set || list_any (names_at (g.H.Stands.list c.args.history.now) set) c.args.self.now.sets) ≡ true = search rules in
    let known = known_before c.args.site.now (g.H.Stands.list c.args.history.now) c.args.at e c.requires.place is c.args.self.now.sets set c.requires.tells.sets ∙ old in
    let t = subst (λ (p : PlacesData). PlacesTell c.args.site.now (take c.args.at (g.H.Stands.list c.args.history.now)) p) (sym c.self.view_is) c.requires.tells in
    places_given c.args.site.now (g.H.Stands.list c.args.history.now) c.args.at e c.requires.place is _ _ set named known c.push_reserved.ensures.items refl refl t

pub returns-else-not-known-clause-free : goal.returns-else-not-known-clause-free
returns-else-not-known-clause-free g c =
    let e = c.lend-entry.result.now in
    let is : e ≡ get_or (g.H.Stands.list c.args.history.now) c.args.at e = sym (get_or_from_slice_get (g.H.Stands.list c.args.history.now) c.args.at _ _ c.lend-entry.ensures) in
    let named : set_named e.what ≡ Some c.in-Some.set.now = search rules in
    let one : room_at (g.H.Stands.list c.args.history.now) c.args.at ≡ 1 = ap room_for (get_is (g.H.Stands.list c.args.history.now) c.args.at e (omega (arith, c.requires.place)) is) ∙ gives_takes e.what c.in-Some.set.now named in
    let free = ap (λ (p : PlacesData). p.free) c.self.view_is in
    omega (arith, c.requires.free, one, free)
