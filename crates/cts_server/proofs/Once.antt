-- Each worker has exactly one Ended.
use Rattle.std.proofs.Common.{◌≡◌, ◌≢◌, ℕ, ◌+◌, ◌*◌, ◌≤◌, ◌<◌, ◌==◌, ◌&&◌, ◌||◌, Bool, true, false, cond, List, [], ◌∷◌, ◌++◌, length, Option, Some}
use Rattle.std.proofs.Common.{None, refl, sym, ◌∙◌, ap, subst, arith, inl, inr}
use Rattle.std.specs.Prelude.{◌⊎◌}
use Rattle.std.specs.List.{filter, list_any}
use Rattle.std.proofs.lemmas.Bool.Decides.{eqb_tells}
use Rattle.std.proofs.lemmas.Grind.{common_steps}
use Rattle.std.proofs.lemmas.List.Folds.{list_any-append}
use Rattle.cts_def.specs.Makers.{first_desk, first_slot, scribe}
use Rattle.cts_def.specs.Sites.{SiteData}
use Rattle.cts_server.specs.Workers.{IsUnstarted}
use Rattle.cts_entry.specs.declared.entry.Entry.{Entry}
use Rattle.cts_entry.specs.Legal.{AllAllowed, Rules, has_ended, is_ended}
use Rattle.cts_entry.specs.Workers.{is_worker}
use Rattle.cts_line.specs.declared.ending.LineWhy.{LineWhy}
use Rattle.cts_outside.specs.Seen.{LineSeen, VaultSeen}
use Rattle.cts_outside.specs.declared.link.Aim.{Aim}
use Rattle.cts_scribe.specs.declared.ending.ScribeWhy.{ScribeWhy}
use Rattle.cts_table.specs.Keeping.{IsKept, rules_of}
use Rattle.cts_trace.specs.Makers.{LastEnded}
use Rattle.cts_trace.proofs.Others.{last_ended_has_ended}
use Rattle.cts_worker.specs.Lasts.{entry_of, first_moment, stop_if}
use Rattle.cts_server.specs.Aims.{desk_aims, line_aims, slot_aims}
use Rattle.cts_server.specs.Once.{EndsOnce, LastEndedIsOnly, endings_of}
use Rattle.cts_server.specs.Owed.{DeskOwes, LineOwes, ScribeOwes, server_basis}
use Rattle.cts_server.specs.Places.{CameBack}
use Rattle.cts_server.specs.declared.worked.DeskNote.{DeskNote}
use Rattle.cts_server.proofs.Fits.{desk_aims_count, line_aims_count, slot_aims_count}

-- ---- one Ended of a maker

module _ (m : ℕ) where
  abbrev ends : Entry → Bool
  ends e = (e.by == m) && is_ended e.what

  ended_more : (before : List Entry) (e : Entry) → has_ended m before ≡ true → has_ended m (before ++ e ∷ []) ≡ true
  ended_more before e h = list_any-append ends before (e ∷ []) ∙ ap (λ (b : Bool). b || list_any ends (e ∷ [])) h

  ended_now : (before : List Entry) (e : Entry) → ends e ≡ true → has_ended m (before ++ e ∷ []) ≡ true
  ended_now before e h = list_any-append ends before (e ∷ []) ∙ (ap (λ (b : Bool). list_any ends before || (b || false)) h ∙ or_true (list_any ends before))
    where
      or_true : (a : Bool) → (a || true) ≡ true
      or_true true = refl
      or_true false = refl

  is_of : (by : ℕ) → (by == m) ≡ true → by ≡ m
  is_of by h = by_test (eqb_tells by m)
    where
      by_test : (((by == m) ≡ true) × (by ≡ m)) ⊎ (((by == m) ≡ false) × (by ≢ m)) → by ≡ m
      by_test (inl t) = t.1
      by_test (inr t) = absurd (let f : true ≡ false = sym h ∙ t.0 in cc)

  module _ (r : Rules) where
    none_after : (before es : List Entry) → has_ended m before ≡ true → AllAllowed r before es → endings_of m es ≡ 0
    none_after before [] ended all = refl
    none_after before (e ∷ es) ended all = by_case (e.by == m) refl (none_after (before ++ e ∷ []) es (ended_more before e ended) all.1)
      where
        by_case : (b : Bool) → (e.by == m) ≡ b → endings_of m es ≡ 0 → endings_of m (e ∷ es) ≡ 0
        by_case true h rest = absurd (let a : has_ended m before ≡ false = subst (λ (n : ℕ). has_ended n before ≡ false) (is_of e.by h) all.0.active
            in let f : true ≡ false = sym ended ∙ a in cc)
        by_case false h rest = ap (λ (b : Bool). length (cond (b && is_ended e.what) (e ∷ filter ends es) (filter ends es))) h ∙ rest

    at_most : (before es : List Entry) → AllAllowed r before es → endings_of m es ≤ 1
    at_most before [] all = omega arith
    at_most before (e ∷ es) all = by_case (ends e) refl (at_most (before ++ e ∷ []) es all.1)
      where
        by_case : (b : Bool) → ends e ≡ b → endings_of m es ≤ 1 → endings_of m (e ∷ es) ≤ 1
        by_case true h more =
            let none = none_after (before ++ e ∷ []) es (ended_now before e h) all.1 in
            subst (λ (b : Bool). length (cond b (e ∷ filter ends es) (filter ends es)) ≤ 1) (sym h) (omega (arith, none))
        by_case false h more = subst (λ (b : Bool). length (cond b (e ∷ filter ends es) (filter ends es)) ≤ 1) (sym h) more

  at_least : (es : List Entry) → has_ended m es ≡ true → 1 ≤ endings_of m es
  at_least [] h = absurd (cc h)
  at_least (e ∷ es) h = by_case (ends e) refl (at_least es)
    where
      by_case : (b : Bool) → ends e ≡ b → (has_ended m es ≡ true → 1 ≤ endings_of m es) → 1 ≤ endings_of m (e ∷ es)
      by_case true k more = subst (λ (b : Bool). 1 ≤ length (cond b (e ∷ filter ends es) (filter ends es))) (sym k) (omega arith)
      by_case false k more = subst (λ (b : Bool). 1 ≤ length (cond b (e ∷ filter ends es) (filter ends es))) (sym k)
          (more (sym (ap (λ (b : Bool). b || has_ended m es) k) ∙ h))

pub last_ended_is_only : LastEndedIsOnly
last_ended_is_only r m history legal last =
    let low = at_least m history (last_ended_has_ended m history last) in
    let high = at_most m r [] history legal.each in
    omega (arith, low, high)

-- ---- the last entry of each worker

-- who was not started has its Ended as its last entry too
unstarted_last : (by : ℕ) (history : List Entry) → IsUnstarted by history → LastEnded by history
unstarted_last by history u = (stop_if _ by first_moment, entry_of by first_moment _, u.own, refl)

module _ {X N : Type 0} (Owes : ℕ → Aim → X → X → N → Type 0) (P : ℕ → Type 0) (tells : (n : ℕ) (a : Aim) (x y : X) (w : N) → Owes n a x y w → P n) where
  -- this holds of each number of a worker whose device came back
  came_each : (by : ℕ) (aims : List Aim) (old new : List (Option X)) (notes : List N) → CameBack Owes by aims old new notes → (m : ℕ) → by ≤ m
      → m < by + length aims → P m
  came_each by [] old new notes b m low high = absurd (omega (arith, low, high))
  came_each by (a ∷ aims) [] new notes b m low high = absurd b
  came_each by (a ∷ aims) (None ∷ old) new notes b m low high = absurd b
  came_each by (a ∷ aims) (Some x ∷ old) [] notes b m low high = absurd b
  came_each by (a ∷ aims) (Some x ∷ old) (None ∷ new) notes b m low high = absurd b
  came_each by (a ∷ aims) (Some x ∷ old) (Some y ∷ new) [] b m low high = absurd b
  came_each by (a ∷ aims) (Some x ∷ old) (Some y ∷ new) (w ∷ notes) b m low high = by_test (eqb_tells m by)
      (λ later. came_each (by + 1) aims old new notes b.1 m later (omega (arith, high)))
    where
      by_test : (((m == by) ≡ true) × (m ≡ by)) ⊎ (((m == by) ≡ false) × (m ≢ by)) → (by + 1 ≤ m → P m) → P m
      by_test (inl t) later = subst P (sym t.1) (tells by a x y w b.0)
      by_test (inr t) later = let apart : m ≢ by = t.1 in later (omega (arith, low, apart))

module _ {D Q V : Type 0} (line_seen : D → LineSeen) (door_seen : Q → LineSeen) (vault_seen : V → VaultSeen) (site : SiteData) (digest : List ℕ)
    (history : List Entry) where
  line_last : {X : Type 0} (seen : X → LineSeen) (n : ℕ) (a : Aim) (x y : X) (w : LineWhy) → LineOwes seen site history n a x y w → LastEnded n history
  line_last seen n a x y w owes = elim owes.2 [
    | inl r ↦ r.ended
    | inr u ↦ unstarted_last n history u.unstarted
  ]

  desk_last : (n : ℕ) (a : Aim) (x y : Q) (w : DeskNote) → DeskOwes door_seen site history n a x y w → LastEnded n history
  desk_last n a x y w owes = elim owes.1 [
    | inl r ↦ r.ended
    | inr u ↦ unstarted_last n history u.unstarted
  ]

  scribe_last : (old new : Option V) (why : ScribeWhy) → ScribeOwes vault_seen site digest history old new why → LastEnded scribe history
  scribe_last (Some x) (Some y) why owes = elim owes.1 [
    | inl r ↦ r.ended
    | inr u ↦ unstarted_last scribe history u.unstarted
  ]
  scribe_last (Some x) None why owes = absurd owes
  scribe_last None new why owes = absurd owes

  -- which worker a number is
  a_worker : (m : ℕ) → is_worker site m ≡ true → (m < length site.interfaces)
      ⊎ (((first_slot ≤ m) × (m < first_slot + 2 * length site.routers)) ⊎ (((first_desk ≤ m) × (m < first_desk + site.desks)) ⊎ (m ≡ scribe)))
  a_worker m is = grind (arith, common_steps)

  pub ends_once : (lines lines' : List (Option D)) (slots slots' desks desks' : List (Option Q)) (vault vault' : Option V)
      (whys why_slots : List LineWhy) (notes : List DeskNote) (why : ScribeWhy)
      → IsKept (server_basis site) history → CameBack (LineOwes line_seen site history) 0 (line_aims site) lines lines' whys
      → CameBack (LineOwes door_seen site history) first_slot (slot_aims site) slots slots' why_slots
      → CameBack (DeskOwes door_seen site history) first_desk (desk_aims site) desks desks' notes
      → ScribeOwes vault_seen site digest history vault vault' why → EndsOnce site history
  ends_once lines lines' slots slots' desks desks' vault vault' whys why_slots notes why kept ls ss ds owes m is = last_ended_is_only
      (rules_of (server_basis site)) m history kept.legal (which (a_worker m is))
    where
      which : (m < length site.interfaces) ⊎ (((first_slot ≤ m) × (m < first_slot + 2 * length site.routers))
          ⊎ (((first_desk ≤ m) × (m < first_desk + site.desks)) ⊎ (m ≡ scribe))) → LastEnded m history
      which (inl i) = came_each (LineOwes line_seen site history) (λ (n : ℕ). LastEnded n history) (line_last line_seen) 0
          (line_aims site) lines lines' whys ls m (omega arith) (let n = line_aims_count site in omega (arith, i, n))
      which (inr (inl s)) = came_each (LineOwes door_seen site history) (λ (n : ℕ). LastEnded n history) (line_last door_seen) first_slot
          (slot_aims site) slots slots' why_slots ss m s.0 (let h = s.1 in let n = slot_aims_count site in omega (arith, h, n))
      which (inr (inr (inl d))) = came_each (DeskOwes door_seen site history) (λ (n : ℕ). LastEnded n history) desk_last first_desk
          (desk_aims site) desks desks' notes ds m d.0 (let h = d.1 in let n = desk_aims_count site in omega (arith, h, n))
      which (inr (inr (inr e))) = subst (λ (n : ℕ). LastEnded n history) (sym e) (scribe_last vault vault' why owes)
