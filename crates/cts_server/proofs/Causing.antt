-- Who stopped a server.
use Rattle.std.proofs.Common.{◌≡◌, ◌≢◌, ◌⊎◌, inl, inr, ℕ, ◌+◌, ◌*◌, ◌<◌, ◌≤◌, ◌==◌, ◌&&◌, ◌||◌, Bool, true, false, cond, List, [], ◌∷◌, ◌++◌, length}
use Rattle.std.proofs.Common.{take, drop, refl, sym, ◌∙◌, ap, subst, arith, append_assoc, eq-eqb, Option, Some, None}
use Rattle.std.specs.List.{list_any}
use Rattle.std.proofs.lemmas.Bool.Decides.{eqb_tells}
use Rattle.std.proofs.lemmas.Grind.{common_steps}
use Rattle.std.proofs.lemmas.List.{take-append-drop}
use Rattle.std.proofs.lemmas.List.Folds.{list_any-append}
use Rattle.cts_def.specs.Makers.{first_desk, first_slot, scribe, server}
use Rattle.cts_def.specs.Sites.{SiteData}
use Rattle.cts_desk.specs.Ending.{stops_all as desk_stops}
use Rattle.cts_desk.specs.Exchanges.{Exchange, Exchanges}
use Rattle.cts_entry.specs.Histories.{is_stop, is_stopped}
use Rattle.cts_entry.specs.Workers.{is_desk, is_maker, is_worker}
use Rattle.cts_entry.specs.declared.entry.Entry.{Entry}
use Rattle.cts_line.specs.Ending.{has_stop, stops_all as line_stops}
use Rattle.cts_line.specs.declared.ending.LineWhy.{LineWhy}
use Rattle.cts_outside.specs.Seen.{LineSeen, VaultSeen}
use Rattle.cts_outside.specs.declared.link.Aim.{Aim}
use Rattle.cts_scribe.specs.Ending.{stops_all as scribe_stops}
use Rattle.cts_scribe.specs.declared.ending.ScribeWhy.{ScribeWhy}
use Rattle.cts_server.specs.Aims.{aimed_at, desk_aims, line_aims, slot_aims}
use Rattle.cts_server.proofs.Returned.{all_left}
use Rattle.cts_server.specs.Owed.{DeskOwes, LineOwes, ScribeOwes, server_basis}
use Rattle.cts_server.specs.Places.{CameBack}
use Rattle.cts_server.specs.declared.worked.DeskNote.{DeskNote}
use Rattle.cts_server.specs.declared.worked.Worked.{Worked}
use Rattle.cts_table.specs.Keeping.{AllOfSite}
use Rattle.cts_table.specs.declared.basis.Basis.{Basis}
use Rattle.cts_trace.specs.Makers.{of_maker}
use Rattle.cts_worker.specs.Lasts.{first_moment, last_entries}
use Rattle.cts_def.specs.declared.time.Time.{Time}
use Rattle.cts_server.specs.Stops.{HaveGone, IsAsked, IsAskedToStop, IsCaused, PlainEndsAreCaused, StopsAreCaused, is_gone_desk, is_gone_line}
use Rattle.cts_server.specs.TroubleLaws.{IsPlain, is_plain_desk, is_plain_line}
use Rattle.cts_server.specs.Troubles.{Left}
use Rattle.cts_server.specs.Workers.{LastLook}
use Rattle.cts_server.proofs.Fits.{desk_aims_count, line_aims_count, slot_aims_count}
use Rattle.cts_server.proofs.Telling.{plain_where_none}
use Rattle.cts_trace.proofs.Looking.{stop_kept}
use Rattle.cts_desk.specs.Ending.{CausesEnd as CausesDesk}
use Rattle.cts_desk.specs.declared.ending.DeskWhy.{DeskWhy}
use Rattle.cts_desk.specs.declared.ending.DeskWhy.TheVariants as desk
use Rattle.cts_line.specs.Ending.{CausesEnd as CausesLine}
use Rattle.cts_line.specs.declared.ending.LineWhy.TheVariants as line
use Rattle.cts_outside.specs.Lines.{Line}
use Rattle.std.specs.List.{AllByRecursion}

-- ---- who has the Stop

record HasStopper (site : SiteData) (history : List Entry) : Type 0 where
  by : ℕ
  maker : is_maker site by ≡ true
  stop : has_stop by history ≡ true

or_right : (a b : Bool) → b ≡ true → (a || b) ≡ true
or_right true b h = refl
or_right false b h = h

stopper : (site : SiteData) (before history : List Entry) → AllOfSite site before history → is_stopped history ≡ true → HasStopper site history
stopper site before [] all h = absurd (cc h)
stopper site before (e ∷ es) all h = by_case (is_stop e.what) refl (stopper site (before ++ e ∷ []) es all.1)
  where
    by_case : (b : Bool) → is_stop e.what ≡ b → (is_stopped es ≡ true → HasStopper site es) → HasStopper site (e ∷ es)
    by_case true t more = record {
      by = e.by;
      maker = all.0.maker;
      stop = ap (λ b. (b && is_stop e.what) || has_stop e.by es) (eq-eqb e.by e.by refl) ∙ ap (λ b. b || has_stop e.by es) t;
    }
    by_case false t more =
        let s = more (sym (ap (λ b. b || is_stopped es) t) ∙ h) in
        record { by = s.by; maker = s.maker; stop = or_right ((e.by == s.by) && is_stop e.what) (has_stop s.by es) s.stop }

-- ---- the last entries of a worker

own_last : (stops : Bool) (by : ℕ) (time : Time) (before : List Entry)
    → list_any (λ e. e.by == by && is_stop e.what) (last_entries stops by time before) ≡ true → stops ≡ true
own_last true by time before h = refl
own_last false by time before h = absurd (let f : ((by == by) && false) || false ≡ true = h in no (by == by) f)
  where
    no : (b : Bool) → ((b && false) || false) ≡ true → ⊥
    no true f = absurd (cc f)
    no false f = absurd (cc f)

-- what a maker's own entries tell of its Stop
own_stops : (m : ℕ) (es : List Entry) → has_stop m es ≡ has_stop m (of_maker m es)
own_stops m [] = refl
own_stops m (e ∷ es) = by_case (e.by == m) refl (own_stops m es)
  where
    mine : List Entry
    mine = of_maker m es

    by_case : (b : Bool) → (e.by == m) ≡ b → has_stop m es ≡ has_stop m mine
        → (((e.by == m) && is_stop e.what) || has_stop m es) ≡ has_stop m (cond b (e ∷ mine) mine)
    by_case true h more = ap (λ b. ((e.by == m) && is_stop e.what) || b) more
    by_case false h more = ap (λ b. (b && is_stop e.what) || has_stop m es) h ∙ more

stop_of : (m : ℕ) (es own : List Entry) → of_maker m es ≡ own → has_stop m es ≡ true → has_stop m own ≡ true
stop_of m es own is h = ap (has_stop m) (sym is) ∙ sym (own_stops m es) ∙ h

-- ---- a desk's exchanges

says_stop : (m : ℕ) (es : List Entry) → has_stop m es ≡ true → is_stopped es ≡ true
says_stop m [] h = absurd (cc h)
says_stop m (e ∷ es) h = by_case (is_stop e.what) refl (says_stop m es)
  where
    none : (b : Bool) → (b && false) ≡ false
    none true = refl
    none false = refl

    by_case : (b : Bool) → is_stop e.what ≡ b → (has_stop m es ≡ true → is_stopped es ≡ true) → (is_stop e.what || is_stopped es) ≡ true
    by_case true t more = ap (λ b. b || is_stopped es) t
    by_case false t more = ap (λ b. b || is_stopped es) t ∙ more (sym (ap (λ b. ((e.by == m) && b) || has_stop m es) t
        ∙ ap (λ b. b || has_stop m es) (none (e.by == m))) ∙ h)

module _ (b : Basis) (by : ℕ) (last history : List Entry) where
  asked : (before : List Entry) (xs : List Exchange) (rest : List Entry) → history ≡ before ++ rest → Exchanges b by before xs last rest
      → has_stop by rest ≡ true → IsAskedToStop b by history ⊎ (has_stop by last ≡ true)
  asked before [] rest is e h = inr (stop_of by rest last e h)
  asked before (x ∷ xs) rest is (gap, added, later, rest_is, strange, front, answered, others) h =
      by_case (has_stop by added) refl
      (asked (before ++ (gap ++ added)) xs later (is ∙ ap (λ l. before ++ l) (rest_is ∙ sym (append_assoc gap added later))
      ∙ sym (append_assoc before (gap ++ added) later)) others)
    where
      stop : Entry → Bool
      stop e = (e.by == by) && is_stop e.what

      split : has_stop by rest ≡ (has_stop by gap || (has_stop by added || has_stop by later))
      split = ap (has_stop by) rest_is ∙ list_any-append (λ e. e.by == by && is_stop e.what) gap (added ++ later)
          ∙ ap (λ t. has_stop by gap || t) (list_any-append (λ e. e.by == by && is_stop e.what) added later)

      quiet : has_stop by gap ≡ false
      quiet = own_stops by gap ∙ ap (has_stop by) strange

      by_case : (t : Bool) → has_stop by added ≡ t → (has_stop by later ≡ true → IsAskedToStop b by history ⊎ (has_stop by last ≡ true))
          → IsAskedToStop b by history ⊎ (has_stop by last ≡ true)
      by_case true t more = inl (record {
        exchange = x;
        before = before ++ gap;
        added = added;
        later = later;
        there = is ∙ ap (λ l. before ++ l) rest_is ∙ sym (append_assoc before gap (added ++ later));
        answered = answered;
        stops = says_stop by added t;
      })
      by_case false t more =
          more (sym (split ∙ ap (λ q. q || (has_stop by added || has_stop by later)) quiet ∙ ap (λ q. q || has_stop by later) t) ∙ h)

-- ---- the workers whose devices came back

module _ {X N : Type 0} (Owes : ℕ → Aim → X → X → N → Type 0) (test : N → Bool) (P Q : ℕ → Type 0) (tells : (n : ℕ) (a : Aim) (x y : X) (w : N)
    → Owes n a x y w → P n → (test w ≡ true) ⊎ Q n) where
  came : (by : ℕ) (aims : List Aim) (old new : List (Option X)) (notes : List N) → CameBack Owes by aims old new notes → (m : ℕ) → by ≤ m
      → m < by + length aims → P m → (list_any test notes ≡ true) ⊎ Q m
  came by [] old new notes b m low high p = absurd (omega (arith, low, high))
  came by (a ∷ aims) [] new notes b m low high p = absurd b
  came by (a ∷ aims) (None ∷ old) new notes b m low high p = absurd b
  came by (a ∷ aims) (Some x ∷ old) [] notes b m low high p = absurd b
  came by (a ∷ aims) (Some x ∷ old) (None ∷ new) notes b m low high p = absurd b
  came by (a ∷ aims) (Some x ∷ old) (Some y ∷ new) [] b m low high p = absurd b
  came by (a ∷ aims) (Some x ∷ old) (Some y ∷ new) (w ∷ notes) b m low high p =
      by_test (eqb_tells m by) (λ later. came (by + 1) aims old new notes b.1 m later (omega (arith, high)) p)
    where
      here : m ≡ by → (list_any test (w ∷ notes) ≡ true) ⊎ Q m
      here is = elim (tells by a x y w b.0 (subst P is p)) [
        | inl t ↦ inl (ap (λ q. q || list_any test notes) t)
        | inr q ↦ inr (subst Q (sym is) q)
      ]

      there : (list_any test notes ≡ true) ⊎ Q m → (list_any test (w ∷ notes) ≡ true) ⊎ Q m
      there (inl t) = inl (or_right (test w) (list_any test notes) t)
      there (inr q) = inr q

      by_test : (((m == by) ≡ true) × (m ≡ by)) ⊎ (((m == by) ≡ false) × (m ≢ by)) → (by + 1 ≤ m → (list_any test notes ≡ true) ⊎ Q m)
          → (list_any test (w ∷ notes) ≡ true) ⊎ Q m
      by_test (inl t) later = here t.1
      by_test (inr t) later = let apart : m ≢ by = t.1 in there (later (omega (arith, low, apart)))

module _ {D Q V : Type 0} (line_seen : D → LineSeen) (door_seen : Q → LineSeen) (vault_seen : V
    → VaultSeen) (site : SiteData) (digest : List ℕ) (history : List Entry) where
  line_tells : {X : Type 0} (seen : X → LineSeen) (n : ℕ) (a : Aim) (x y : X) (w : LineWhy) → LineOwes seen site history n a x y w
      → has_stop n history ≡ true → (line_stops w ≡ true) ⊎ ⊥
  line_tells seen n a x y w owes h = elim owes.2 [
    | inl r ↦ inl (r.own_stop h)
    | inr u ↦ inl (ap line_stops u.cancelled)
  ]

  desk_tells : (n : ℕ) (a : Aim) (x y : Q) (w : DeskNote) → DeskOwes door_seen site history n a x y w → has_stop n history ≡ true
      → (desk_stops w.why ≡ true) ⊎ IsAskedToStop (server_basis site) n history
  desk_tells n a x y w owes h = elim owes.1 [
    | inl r ↦ elim (asked (server_basis site) n (last_entries
        (desk_stops w.why) n r.ends.time r.ends.before) history [] r.stands.exchanges history refl r.stands.stand h) [
          | inl q ↦ inr q
          | inr l ↦ inl (own_last (desk_stops w.why) n r.ends.time r.ends.before l)
        ]
    | inr u ↦ inl (ap desk_stops u.cancelled)
  ]

  scribe_tells : (old new : Option V) (why : ScribeWhy) → ScribeOwes vault_seen site digest history old new why → has_stop scribe history ≡ true
      → scribe_stops why ≡ true
  scribe_tells (Some x) (Some y) why owes h = elim owes.1 [
    | inl r ↦ own_last (scribe_stops why) scribe first_moment r.ends.stood (stop_of scribe history (last_entries
        (scribe_stops why) scribe first_moment r.ends.stood) r.ends.own h)
    | inr u ↦ ap scribe_stops u.cancelled
  ]
  scribe_tells (Some x) None why owes h = absurd owes
  scribe_tells None new why owes h = absurd owes

  -- which worker a number is
  a_worker : (m : ℕ) → is_worker site m ≡ true → (m < length site.interfaces) ⊎ (((first_slot ≤ m) × (m < first_slot + 2 * length site.routers)) ⊎
      (((first_desk ≤ m) × (m < first_desk + site.desks)) ⊎ (m ≡ scribe)))
  a_worker m is = grind (arith, common_steps)

  a_desk : (m : ℕ) → first_desk ≤ m → m < first_desk + site.desks → is_desk site m ≡ true
  a_desk m low high = grind (arith, common_steps)

  a_maker : (m : ℕ) → is_maker site m ≡ true → (m ≢ server) → is_worker site m ≡ true
  a_maker m is apart = by_test (is_worker site m) refl
    where
      by_test : (b : Bool) → is_worker site m ≡ b → is_worker site m ≡ true
      by_test true t = t
      by_test false t = absurd (let only : (m == server) ≡ true = sym (ap (λ b. b || (m == server)) t) ∙ is in same (eqb_tells m server) only)
        where
          same : (((m == server) ≡ true) × (m ≡ server)) ⊎ (((m == server) ≡ false) × (m ≢ server)) → (m == server) ≡ true → ⊥
          same (inl t) h = apart t.1
          same (inr t) h = absurd (let f : true ≡ false = sym h ∙ t.0 in cc)

any_first : {N : Type 0} (test : N → Bool) (n : ℕ) (notes : List N) → list_any test (take n notes) ≡ true → list_any test notes ≡ true
any_first test n notes h = sym (ap (list_any test) (take-append-drop n notes)) ∙ list_any-append test (take n notes) (drop n notes)
    ∙ ap (λ b. b || list_any test (drop n notes)) h

any_rest : {N : Type 0} (test : N → Bool) (n : ℕ) (notes : List N) → list_any test (drop n notes) ≡ true → list_any test notes ≡ true
any_rest test n notes h = sym (ap (list_any test) (take-append-drop n notes)) ∙ list_any-append test (take n notes) (drop n notes)
    ∙ or_right (list_any test (take n notes)) (list_any test (drop n notes)) h

pub stops_are_caused : {D Q V : Type 0} (line_seen : D → LineSeen) (door_seen : Q → LineSeen) (vault_seen : V → VaultSeen)
    → StopsAreCaused line_seen door_seen vault_seen
stops_are_caused {D} {Q} {V} line_seen door_seen vault_seen site digest w dialers dialers' doors doors' vault vault' crew crew' served stopped =
    let s = stopper site [] w.history served.legal.of_site stopped in
    which s (a_worker line_seen door_seen vault_seen site digest w.history s.by
    (a_maker line_seen door_seen vault_seen site digest w.history s.by s.maker (apart s)))
  where
    apart : (s : HasStopper site w.history) → s.by ≢ server
    apart s is = absurd (let f : false ≡ true = sym (own_stops server w.history ∙ ap (has_stop server) served.silent)
        ∙ subst (λ (n : ℕ). has_stop n w.history ≡ true) is s.stop in cc)

    which : (s : HasStopper site w.history) → (s.by < length site.interfaces) ⊎ (((first_slot ≤ s.by) ×
        (s.by < first_slot + 2 * length site.routers)) ⊎ (((first_desk ≤ s.by) × (s.by < first_desk + site.desks)) ⊎ (s.by ≡ scribe))) → IsCaused site w
    which s (inl i) = elim (came (LineOwes line_seen site w.history) line_stops (λ n. has_stop n w.history ≡ true) (λ n. ⊥)
        (line_tells line_seen door_seen vault_seen site digest w.history line_seen) 0 (line_aims site) dialers dialers' (take
        (length site.interfaces) w.lines) served.interfaces s.by (omega arith)
        (let n = line_aims_count site in omega (arith, i, n)) s.stop) [
          | inl t ↦ inl (any_first line_stops (length site.interfaces) w.lines t)
          | inr q ↦ absurd q
        ]
    which s (inr (inl k)) = elim (came (LineOwes door_seen site w.history) line_stops (λ n. has_stop n w.history ≡ true) (λ n. ⊥)
        (line_tells line_seen door_seen vault_seen site digest w.history door_seen) first_slot (slot_aims site) (take 8 doors) (take 8 doors') (drop
        (length site.interfaces) w.lines) served.slots s.by k.0
        (let h = k.1 in let n = slot_aims_count site in omega (arith, h, n)) s.stop) [
          | inl t ↦ inl (any_rest line_stops (length site.interfaces) w.lines t)
          | inr q ↦ absurd q
        ]
    which s (inr (inr (inl d))) = elim (came (DeskOwes door_seen site w.history) (λ n. desk_stops n.why) (λ n. has_stop n w.history ≡ true)
        (λ n. IsAskedToStop (server_basis site) n w.history) (desk_tells line_seen door_seen vault_seen site digest w.history) first_desk
        (desk_aims site) (drop 8 doors) (drop 8 doors') w.desks served.desks s.by d.0
        (let h = d.1 in let n = desk_aims_count site in omega (arith, h, n)) s.stop) [
          | inl t ↦ inr (inl t)
          | inr q ↦ inr (inr (inr (s.by, a_desk line_seen door_seen vault_seen site digest w.history s.by d.0 d.1, q)))
        ]
    which s (inr (inr (inr is))) = inr (inr (inl (scribe_tells line_seen door_seen vault_seen site digest w.history vault vault' w.scribe
        served.scribe (subst (λ (n : ℕ). has_stop n w.history ≡ true) is s.stop))))

-- ---- where no trouble shows

none_stop : (test : LineWhy → Bool) (xs : List LineWhy) → ((x : LineWhy) → is_plain_line x ≡ true → test x ≡ false)
    → AllByRecursion (λ x. is_plain_line x ≡ true) xs → list_any test xs ≡ false
none_stop test [] f all = refl
none_stop test (x ∷ xs) f all = ap (λ b. b || list_any test xs) (f x all.0) ∙ none_stop test xs f all.1

none_stops : (test : DeskNote → Bool) (xs : List DeskNote) → ((x : DeskNote) → is_plain_desk x.why ≡ true → test x ≡ false)
    → AllByRecursion (λ x. is_plain_desk x.why ≡ true) xs → list_any test xs ≡ false
none_stops test [] f all = refl
none_stops test (x ∷ xs) f all = ap (λ b. b || list_any test xs) (f x all.0) ∙ none_stops test xs f all.1

plain_line : (why : LineWhy) → is_plain_line why ≡ true → line_stops why ≡ false
plain_line line.Stopped h = refl
plain_line line.Finished h = refl
plain_line line.NoReconnect h = refl
plain_line line.DoorFailed h = absurd (cc h)
plain_line line.Full h = absurd (cc h)
plain_line line.NoMemory h = absurd (cc h)
plain_line line.Cancelled h = absurd (cc h)

plain_desk : (why : DeskWhy) → is_plain_desk why ≡ true → desk_stops why ≡ false
plain_desk desk.Stopped h = refl
plain_desk desk.Finished h = refl
plain_desk desk.DoorFailed h = absurd (cc h)
plain_desk desk.Cancelled h = absurd (cc h)

-- which cause is left
asked_for : (site : SiteData) (w : Worked) (l : Left) → l.lines ≡ w.lines → l.desks ≡ w.desks → l.scribe ≡ w.scribe → IsPlain l → IsCaused site w
    → IsAsked site w.history
asked_for site w l ls ds s plain (inl c) =
    absurd (let f = sym c ∙ none_stop line_stops w.lines plain_line (subst (λ xs. AllByRecursion (λ x. is_plain_line x ≡ true) xs) ls plain.lines) in cc f)
asked_for site w l ls ds s plain (inr (inl c)) =
    absurd (let f = sym c ∙ none_stops (λ n. desk_stops n.why) w.desks (λ n. plain_desk n.why)
    (subst (λ xs. AllByRecursion (λ x. is_plain_desk x.why ≡ true) xs) ds plain.desks) in cc f)
asked_for site w l ls ds s plain (inr (inr (inl c))) = absurd (let f = sym c ∙ ap scribe_stops (sym s ∙ plain.scribe) in cc f)
asked_for site w l ls ds s plain (inr (inr (inr a))) = a

-- ---- where nobody stopped the server

all_parts : {N : Type 0} (P : N → Type 0) (xs ys : List N) → AllByRecursion P xs → AllByRecursion P ys → AllByRecursion P (xs ++ ys)
all_parts P [] ys p q = q
all_parts P (x ∷ xs) ys p q = (p.0, all_parts P xs ys p.1 q)

all_both : {N : Type 0} (P Q R : N → Type 0) → ((x : N) → P x → Q x → R x) → (xs : List N) → AllByRecursion P xs → AllByRecursion Q xs → AllByRecursion R xs
all_both P Q R f [] p q = tt
all_both P Q R f (x ∷ xs) p q = (f x p.0 q.0, all_both P Q R f xs p.1 q.1)

-- a Stop that a worker saw stands
saw_none : (by : ℕ) (seen history : List Entry) → LastLook by seen history → is_stopped history ≡ false → is_stopped seen ≡ true → ⊥
saw_none by seen history look none saw =
    let f : true ≡ false = sym (stop_kept seen look.begins.0 saw) ∙ ap is_stopped (sym look.begins.1) ∙ none in cc f

abbrev is_left_line : LineWhy → Bool
is_left_line line.Stopped = false
is_left_line why = true

left_line : (site : SiteData) (most m : ℕ) (seen : List Entry) (told : Option Line) (before now : ℕ) (why : LineWhy)
    → CausesLine site most m seen told before now why → (is_stopped seen ≡ true → ⊥) → is_left_line why ≡ true
left_line site most m seen told before now line.Stopped c none = absurd (none c)
left_line site most m seen told before now line.Finished c none = refl
left_line site most m seen told before now line.NoReconnect c none = refl
left_line site most m seen told before now line.DoorFailed c none = refl
left_line site most m seen told before now line.Full c none = refl
left_line site most m seen told before now line.NoMemory c none = refl
left_line site most m seen told before now line.Cancelled c none = refl

gone_line : (why : LineWhy) → is_plain_line why ≡ true → is_left_line why ≡ true → is_gone_line why ≡ true
gone_line line.Stopped p l = absurd (cc l)
gone_line line.Finished p l = refl
gone_line line.NoReconnect p l = refl
gone_line line.DoorFailed p l = absurd (cc p)
gone_line line.Full p l = absurd (cc p)
gone_line line.NoMemory p l = absurd (cc p)
gone_line line.Cancelled p l = absurd (cc p)

abbrev is_left_desk : DeskWhy → Bool
is_left_desk desk.Stopped = false
is_left_desk why = true

left_desk : (seen : List Entry) (told : Option Line) (before now : ℕ) (why : DeskWhy) → CausesDesk seen told before now why
    → (is_stopped seen ≡ true → ⊥) → is_left_desk why ≡ true
left_desk seen told before now desk.Stopped c none = absurd (none c)
left_desk seen told before now desk.Finished c none = refl
left_desk seen told before now desk.DoorFailed c none = refl
left_desk seen told before now desk.Cancelled c none = refl

gone_desk : (why : DeskWhy) → is_plain_desk why ≡ true → is_left_desk why ≡ true → is_gone_desk why ≡ true
gone_desk desk.Stopped p l = absurd (cc l)
gone_desk desk.Finished p l = refl
gone_desk desk.DoorFailed p l = absurd (cc p)
gone_desk desk.Cancelled p l = absurd (cc p)

module _ (site : SiteData) (history : List Entry) (none : is_stopped history ≡ false) where
  line_left : {X : Type 0} (seen : X → LineSeen) (n : ℕ) (a : Aim) (x y : X) (why : LineWhy) → LineOwes seen site history n a x y why
      → is_left_line why ≡ true
  line_left seen n a x y why owes = elim owes.2 [
    | inl r ↦ left_line site (server_basis site).entries n r.seen (seen y).told (aimed_at a (seen x)).failed_dials (seen y).failed_dials why r.cause
        (saw_none n r.seen history r.look none)
    | inr u ↦ ap is_left_line u.cancelled
  ]

  desk_left : {X : Type 0} (seen : X → LineSeen) (n : ℕ) (a : Aim) (x y : X) (note : DeskNote) → DeskOwes seen site history n a x y note
      → is_left_desk note.why ≡ true
  desk_left seen n a x y note owes = elim owes.1 [
    | inl r ↦ left_desk r.seen (seen y).told (aimed_at a (seen x)).failed_dials (seen y).failed_dials note.why r.cause
        (saw_none n r.seen history r.look none)
    | inr u ↦ ap is_left_desk u.cancelled
  ]

pub plain_ends_are_caused : {D Q V : Type 0} (line_seen : D → LineSeen) (door_seen : Q → LineSeen) (vault_seen : V → VaultSeen)
    → PlainEndsAreCaused line_seen door_seen vault_seen
plain_ends_are_caused line_seen door_seen vault_seen site digest w dialers dialers' doors doors' vault vault' crew crew' written served untold =
    by_stop (is_stopped w.history) refl
  where
    this : Left
    this = record { written = written; lines = w.lines; desks = w.desks; scribe = w.scribe; history = w.history }

    plain : IsPlain this
    plain = plain_where_none this untold

    gone : is_stopped w.history ≡ false → HaveGone w
    gone none = record {
      lines = all_both (λ why. is_plain_line why ≡ true) (λ why. is_left_line why ≡ true) (λ why. is_gone_line why ≡ true) gone_line w.lines plain.lines
          (subst (λ l. AllByRecursion (λ why. is_left_line why ≡ true) l) (take-append-drop (length site.interfaces) w.lines)
          (all_parts (λ why. is_left_line why ≡ true) (take (length site.interfaces) w.lines) (drop (length site.interfaces) w.lines)
          (all_left (LineOwes line_seen site w.history) (λ why. is_left_line why ≡ true) (line_left site w.history none line_seen) _ _ _ _ _ served.interfaces)
          (all_left (LineOwes door_seen site w.history) (λ why. is_left_line why ≡ true) (line_left site w.history none door_seen) _ _ _ _ _ served.slots)));
      desks = all_both (λ n. is_plain_desk n.why ≡ true) (λ n. is_left_desk n.why ≡ true) (λ n. is_gone_desk n.why ≡ true) (λ n. gone_desk n.why)
          w.desks plain.desks
          (all_left (DeskOwes door_seen site w.history) (λ n. is_left_desk n.why ≡ true) (desk_left site w.history none door_seen) _ _ _ _ _ served.desks);
    }

    by_stop : (b : Bool) → is_stopped w.history ≡ b → ((is_stopped w.history ≡ true) × IsAsked site w.history) ⊎ ((is_stopped w.history ≡ false) × HaveGone w)
    by_stop true stopped = inl (
      stopped,
      asked_for site w this refl refl refl plain
          (stops_are_caused line_seen door_seen vault_seen site digest w dialers dialers' doors doors' vault vault' crew crew' served stopped),
    )
    by_stop false none = inr (none, gone none)
