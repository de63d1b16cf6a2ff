-- What a trouble that is told says of the workers of a site, of their devices and of their history.
use Rattle.std.proofs.Common.{◌≡◌, ℕ, zero, suc, cond, ◌+◌, ◌≤◌, Bool, true, false, ◌&&◌, ◌||◌, ◌==◌, List, [], ◌∷◌, ◌++◌, length, take, drop, map}
use Rattle.std.proofs.Common.{Option, Some, None, refl, sym, ◌∙◌, ap, subst, arith, ◌⊎◌, inl, inr}
use Rattle.std.specs.Prelude.{count_by}
use Rattle.std.specs.List.{AllByRecursion, list_any}
use Rattle.std.proofs.lemmas.Bool.Decides.{nat_tests}
use Rattle.std.proofs.lemmas.List.Folds.{list_any-append}
use Rattle.std.proofs.lemmas.List.Sums.{sum_by-append, sum_by-cons}
use Rattle.std.proofs.lemmas.List.{length-map}
use Rattle.cts_def.specs.Sites.{SiteData}
use Rattle.cts_desk.specs.declared.ending.DeskWhy.{DeskWhy}
use Rattle.cts_desk.specs.declared.ending.DeskWhy.TheVariants as desk
use Rattle.cts_desk.specs.Ending.{CausesEnd as CausesDeskEnd}
use Rattle.cts_server.specs.Desks.{is_cancelled as is_cancelled_desk}
use Rattle.cts_server.specs.Lines.{is_cancelled}
use Rattle.cts_server.specs.Scribes.{is_cancelled as is_cancelled_scribe}
use Rattle.cts_server.specs.TroubleLaws.{is_plain_desk, is_plain_line}
use Rattle.cts_server.specs.Troubles.{Left, closed_shows, desk_shows, has_closed, line_shows, has_desk, scribe_shows, shows}
use Rattle.cts_server.specs.declared.outcome.trouble.Trouble.{Trouble}
use Rattle.cts_server.specs.declared.outcome.trouble.Trouble.TheVariants as trouble
use Rattle.cts_entry.specs.Histories.{entries_for, entries_in}
use Rattle.cts_entry.specs.Legal.{most_entries}
use Rattle.cts_entry.specs.Workers.{is_interface}
use Rattle.cts_entry.specs.declared.entry.Entry.{Entry}
use Rattle.cts_entry.specs.declared.what.What.{What}
use Rattle.cts_entry.specs.declared.what.What.TheVariants as what
use Rattle.cts_entry.specs.declared.why.Why.{Why}
use Rattle.cts_entry.specs.declared.why.Why.TheVariants as closed
use Rattle.cts_line.specs.Ending.{has_closed as has_closed_by, is_full}
use Rattle.cts_line.specs.declared.ending.LineWhy.{LineWhy}
use Rattle.cts_line.specs.declared.ending.LineWhy.TheVariants as line
use Rattle.cts_outside.specs.Causes.{Rose, raised}
use Rattle.cts_outside.specs.Crews.{raised_by}
use Rattle.cts_outside.specs.Seen.{LineSeen, VaultSeen}
use Rattle.cts_outside.specs.declared.link.Aim.{Aim}
use Rattle.cts_scribe.specs.declared.ending.ScribeWhy.{ScribeWhy}
use Rattle.cts_scribe.specs.declared.ending.ScribeWhy.TheVariants as scribe
use Rattle.cts_scribe.specs.Ending.{CausesEnd as CausesScribeEnd}
use Rattle.cts_server.specs.Aims.{interface_aim, line_aims}
use Rattle.cts_server.specs.Cancelled.{cancellations, is_set}
use Rattle.cts_server.specs.Owed.{DeskOwes, LineOwes, ScribeOwes}
use Rattle.cts_server.specs.Places.{CameBack}
use Rattle.cts_server.specs.declared.worked.DeskNote.{DeskNote}
use Rattle.cts_server.specs.declared.worked.Worked.{Worked}
use Rattle.cts_trace.specs.Makers.{closes_for}
use Rattle.cts_serve.specs.Served.{DialFailedIn, VaultRose, VaultStays}

-- ---- tests of lists

module _ {X : Type 0} where
  pub any_never : (p : X → Bool) (never : (x : X) → p x ≡ false) (xs : List X) → list_any p xs ≡ false
  any_never p never [] = refl
  any_never p never (x ∷ xs) = ap (λ (b : Bool). b || list_any p xs) (never x) ∙ any_never p never xs

  any_implies : (p q : X → Bool) (implies : (x : X) → p x ≡ true → q x ≡ true) (xs : List X) → list_any p xs ≡ true → list_any q xs ≡ true
  any_implies p q implies [] e = absurd (cc e)
  any_implies p q implies (x ∷ xs) e = by_head (p x) (q x) refl refl (any_implies p q implies xs) e
    where
      by_head : (a b : Bool) → p x ≡ a → q x ≡ b → (list_any p xs ≡ true → list_any q xs ≡ true) → (a || list_any p xs) ≡ true → (b || list_any q xs) ≡ true
      by_head true b h k more e = ap (λ (c : Bool). c || list_any q xs) (sym k ∙ implies x h)
      by_head false true h k more e = refl
      by_head false false h k more e = more e

or_cases : (a b : Bool) → (a || b) ≡ true → (a ≡ true) ⊎ (b ≡ true)
or_cases true b e = inl refl
or_cases false b e = inr e

or_later : (a b : Bool) → b ≡ true → (a || b) ≡ true
or_later true b e = refl
or_later false b e = e

false_not : {A : Type 0} (b : Bool) → b ≡ true → b ≡ false → A
false_not b e f = absurd (cc (sym e ∙ f))

-- ---- entries of closed connections

closes_never : (test : Why → Bool) (never : (why : Why) → test why ≡ false) (w : What) → closes_for test w ≡ false
closes_never test never what.Opened = refl
closes_never test never (what.Packet ident stored bytes) = refl
closes_never test never (what.Closed why loss unposted unsent) = never why
closes_never test never (what.Command interface command bytes) = refl
closes_never test never (what.SetLimits enabled packet item persistence set limits) = refl
closes_never test never (what.Enable packet item enabled) = refl
closes_never test never (what.LimitsSetIs set) = refl
closes_never test never (what.Injected packet bytes) = refl
closes_never test never (what.Unrouted why bytes) = refl
closes_never test never what.Stop = refl
closes_never test never what.Ended = refl

closes_implies : (test more : Why → Bool) (implies : (why : Why) → test why ≡ true → more why ≡ true) (w : What) → closes_for test w ≡ true
    → closes_for more w ≡ true
closes_implies test more implies what.Opened e = absurd (cc e)
closes_implies test more implies (what.Packet ident stored bytes) e = absurd (cc e)
closes_implies test more implies (what.Closed why loss unposted unsent) e = implies why e
closes_implies test more implies (what.Command interface command bytes) e = absurd (cc e)
closes_implies test more implies (what.SetLimits enabled packet item persistence set limits) e = absurd (cc e)
closes_implies test more implies (what.Enable packet item enabled) e = absurd (cc e)
closes_implies test more implies (what.LimitsSetIs set) e = absurd (cc e)
closes_implies test more implies (what.Injected packet bytes) e = absurd (cc e)
closes_implies test more implies (what.Unrouted why bytes) e = absurd (cc e)
closes_implies test more implies what.Stop e = absurd (cc e)
closes_implies test more implies what.Ended e = absurd (cc e)

-- no reason of a closed connection shows these
never_log : (why : Why) → closed_shows trouble.LogFault why ≡ false
never_log why = refl

never_worker : (why : Why) → closed_shows trouble.NoWorker why ≡ false
never_worker why = refl

never_door : (why : Why) → closed_shows trouble.DoorFault why ≡ false
never_door why = refl

none_closed : (t : Trouble) → ((why : Why) → closed_shows t why ≡ false) → (history : List Entry) → has_closed t history ≡ false
none_closed t never history = any_never (λ (e : Entry). closes_for (closed_shows t) e.what) (λ e. closes_never (closed_shows t) never e.what) history

full_shows : (why : Why) → is_full why ≡ true → closed_shows trouble.HistoryFull why ≡ true
full_shows closed.PeerEnded e = absurd (cc e)
full_shows closed.ReadFault e = absurd (cc e)
full_shows closed.WriteFault e = absurd (cc e)
full_shows (closed.BadFrame stage cause) e = absurd (cc e)
full_shows closed.Stopped e = absurd (cc e)
full_shows closed.NoMemory e = absurd (cc e)
full_shows closed.Full e = refl

and_second : (a b : Bool) → (a && b) ≡ true → b ≡ true
and_second true b e = e
and_second false b e = absurd (cc e)

-- a connection of one maker was closed since the history was full
closed_of_any : (m : ℕ) (history : List Entry) → has_closed_by m is_full history ≡ true → has_closed trouble.HistoryFull history ≡ true
closed_of_any m history e =
    any_implies (λ (e : Entry). (e.by == m) && closes_for is_full e.what) (λ (e : Entry). closes_for (closed_shows trouble.HistoryFull) e.what)
    (λ x h. closes_implies is_full (closed_shows trouble.HistoryFull) full_shows x.what (and_second (x.by == m) (closes_for is_full x.what) h)) history e

closed_later : (t : Trouble) (seen rest : List Entry) → has_closed t seen ≡ true → has_closed t (seen ++ rest) ≡ true
closed_later t seen rest e =
    let p : Entry → Bool = λ (x : Entry). closes_for (closed_shows t) x.what in
    list_any-append p seen rest ∙ ap (λ (b : Bool). b || list_any p rest) e

entries_later : (seen rest : List Entry) → entries_in seen ≤ entries_in (seen ++ rest)
entries_later seen rest = let both = sum_by-append (λ (e : Entry). entries_for e.what) seen rest in omega (arith, both)

-- ---- what a line, a desk and the scribe owe by why they ended

module _ {X : Type 0} (seen : X → LineSeen) (site : SiteData) (history : List Entry) where
  -- a line that ended since the history was full
  pub line_full : (by : ℕ) (aim : Aim) (x y : X) → LineOwes seen site history by aim x y line.Full → (has_closed trouble.HistoryFull history ≡ true)
      ⊎ (most_entries ≤ entries_in history)
  line_full by aim x y (found, connections, inl r) =
      let begins = r.look.begins in
      elim r.cause [
        | inl c ↦ inl (subst (λ (h : List Entry). has_closed trouble.HistoryFull h ≡ true) (sym begins.1)
            (closed_later trouble.HistoryFull r.seen begins.0 (closed_of_any by r.seen c)))
        | inr m ↦ inr (subst (λ (h : List Entry). most_entries ≤ entries_in h) (sym begins.1) (let k = entries_later r.seen begins.0 in omega (arith, m, k)))
      ]
  line_full by aim x y (found, connections, inr u) = absurd (cc (u.cancelled))

  -- a line whose door failed
  line_door : (by : ℕ) (aim : Aim) (x y : X) → LineOwes seen site history by aim x y line.DoorFailed → (is_interface site by ≡ false)
      × Rose (seen x).failed_dials (seen y).failed_dials
  line_door by aim x y (found, connections, inl r) = r.cause
  line_door by aim x y (found, connections, inr u) = absurd (cc (u.cancelled))

  desk_door : (by : ℕ) (aim : Aim) (x y : X) (note : DeskNote) → note.why ≡ desk.DoorFailed → DeskOwes seen site history by aim x y note
      → Rose (seen x).failed_dials (seen y).failed_dials
  desk_door by aim x y note e (found, inl r) = subst (λ (w : DeskWhy). CausesDeskEnd r.seen (seen y).told (seen x).failed_dials
      (seen y).failed_dials w) e r.cause
  desk_door by aim x y note e (found, inr u) = absurd (cc (sym e ∙ u.cancelled))

line_full_is : (why : LineWhy) → line_shows trouble.HistoryFull why ≡ true → why ≡ line.Full
line_full_is line.Stopped e = absurd (cc e)
line_full_is line.Finished e = absurd (cc e)
line_full_is line.NoReconnect e = absurd (cc e)
line_full_is line.DoorFailed e = absurd (cc e)
line_full_is line.Full e = refl
line_full_is line.NoMemory e = absurd (cc e)
line_full_is line.Cancelled e = absurd (cc e)

line_door_is : (why : LineWhy) → line_shows trouble.DoorFault why ≡ true → why ≡ line.DoorFailed
line_door_is line.Stopped e = absurd (cc e)
line_door_is line.Finished e = absurd (cc e)
line_door_is line.NoReconnect e = absurd (cc e)
line_door_is line.DoorFailed e = refl
line_door_is line.Full e = absurd (cc e)
line_door_is line.NoMemory e = absurd (cc e)
line_door_is line.Cancelled e = absurd (cc e)

desk_door_is : (why : DeskWhy) → desk_shows trouble.DoorFault why ≡ true → why ≡ desk.DoorFailed
desk_door_is desk.Stopped e = absurd (cc e)
desk_door_is desk.Finished e = absurd (cc e)
desk_door_is desk.DoorFailed e = refl
desk_door_is desk.Cancelled e = absurd (cc e)

-- ---- the devices of several workers

module _ {X : Type 0} (seen : X → LineSeen) (site : SiteData) (history : List Entry) where
  abbrev Lines : ℕ → List Aim → List (Option X) → List (Option X) → List LineWhy → Type 0
  Lines by aims old new whys = CameBack (LineOwes seen site history) by aims old new whys

  pub lines_full : (by : ℕ) (aims : List Aim) (old new : List (Option X)) (whys : List LineWhy) → Lines by aims old new whys
      → list_any (line_shows trouble.HistoryFull) whys ≡ true
      → (has_closed trouble.HistoryFull history ≡ true) ⊎ (most_entries ≤ entries_in history)
  lines_full by [] old new [] k e = absurd (cc e)
  lines_full by [] old new (w ∷ ws) k e = absurd k
  lines_full by (aim ∷ aims) (Some x ∷ old) (Some y ∷ new) (w ∷ ws) k e = elim
      (or_cases (line_shows trouble.HistoryFull w) (list_any (line_shows trouble.HistoryFull) ws) e) [
        | inl here ↦ line_full seen site history by aim x y (subst (λ (v : LineWhy). LineOwes seen site history by aim x y v) (line_full_is w here) k.0)
        | inr there ↦ lines_full (by + 1) aims old new ws k.1 there
      ]
  lines_full by (aim ∷ aims) (Some x ∷ old) (Some y ∷ new) [] k e = absurd k
  lines_full by (aim ∷ aims) (Some x ∷ old) (None ∷ new) ws k e = absurd k
  lines_full by (aim ∷ aims) (Some x ∷ old) [] ws k e = absurd k
  lines_full by (aim ∷ aims) (None ∷ old) new ws k e = absurd k
  lines_full by (aim ∷ aims) [] new ws k e = absurd k

  pub lines_door : (by : ℕ) (aims : List Aim) (old new : List (Option X)) (whys : List LineWhy) → Lines by aims old new whys
      → list_any (line_shows trouble.DoorFault) whys ≡ true → DialFailedIn seen old new
  lines_door by [] old new [] k e = absurd (cc e)
  lines_door by [] old new (w ∷ ws) k e = absurd k
  lines_door by (aim ∷ aims) (Some x ∷ old) (Some y ∷ new) (w ∷ ws) k e = elim
      (or_cases (line_shows trouble.DoorFault w) (list_any (line_shows trouble.DoorFault) ws) e) [
        | inl here ↦ inl ((line_door seen site history by aim x y
            (subst (λ (v : LineWhy). LineOwes seen site history by aim x y v) (line_door_is w here) k.0)).1)
        | inr there ↦ inr (lines_door (by + 1) aims old new ws k.1 there)
      ]
  lines_door by (aim ∷ aims) (Some x ∷ old) (Some y ∷ new) [] k e = absurd k
  lines_door by (aim ∷ aims) (Some x ∷ old) (None ∷ new) ws k e = absurd k
  lines_door by (aim ∷ aims) (Some x ∷ old) [] ws k e = absurd k
  lines_door by (aim ∷ aims) (None ∷ old) new ws k e = absurd k
  lines_door by (aim ∷ aims) [] new ws k e = absurd k

  -- an interface has no door
  pub no_door : (by : ℕ) (aims : List Aim) (old new : List (Option X)) (whys : List LineWhy) → by + length aims ≤ length site.interfaces
      → Lines by aims old new whys → list_any (line_shows trouble.DoorFault) whys ≡ true → ⊥
  no_door by [] old new [] l k e = absurd (cc e)
  no_door by [] old new (w ∷ ws) l k e = absurd k
  no_door by (aim ∷ aims) (Some x ∷ old) (Some y ∷ new) (w ∷ ws) l k e = elim
      (or_cases (line_shows trouble.DoorFault w) (list_any (line_shows trouble.DoorFault) ws) e) [
        | inl here ↦
            let is : is_interface site by ≡ true = grind (arith, nat_tests, l) in
            false_not (is_interface site by) is ((line_door seen site history by aim x y
            (subst (λ (v : LineWhy). LineOwes seen site history by aim x y v) (line_door_is w here) k.0)).0)
        | inr there ↦ no_door (by + 1) aims old new ws (omega (arith, l)) k.1 there
      ]
  no_door by (aim ∷ aims) (Some x ∷ old) (Some y ∷ new) [] l k e = absurd k
  no_door by (aim ∷ aims) (Some x ∷ old) (None ∷ new) ws l k e = absurd k
  no_door by (aim ∷ aims) (Some x ∷ old) [] ws l k e = absurd k
  no_door by (aim ∷ aims) (None ∷ old) new ws l k e = absurd k
  no_door by (aim ∷ aims) [] new ws l k e = absurd k

  pub desks_door : (by : ℕ) (aims : List Aim) (old new : List (Option X)) (notes : List DeskNote)
      → CameBack (DeskOwes seen site history) by aims old new notes → has_desk trouble.DoorFault notes ≡ true → DialFailedIn seen old new
  desks_door by [] old new [] k e = absurd (cc e)
  desks_door by [] old new (n ∷ ns) k e = absurd k
  desks_door by (aim ∷ aims) (Some x ∷ old) (Some y ∷ new) (n ∷ ns) k e = elim
      (or_cases (desk_shows trouble.DoorFault n.why) (has_desk trouble.DoorFault ns) e) [
        | inl here ↦ inl (desk_door seen site history by aim x y n (desk_door_is n.why here) k.0)
        | inr there ↦ inr (desks_door (by + 1) aims old new ns k.1 there)
      ]
  desks_door by (aim ∷ aims) (Some x ∷ old) (Some y ∷ new) [] k e = absurd k
  desks_door by (aim ∷ aims) (Some x ∷ old) (None ∷ new) ns k e = absurd k
  desks_door by (aim ∷ aims) (Some x ∷ old) [] ns k e = absurd k
  desks_door by (aim ∷ aims) (None ∷ old) new ns k e = absurd k
  desks_door by (aim ∷ aims) [] new ns k e = absurd k

  pub dial_of_first : (n : ℕ) (old new : List (Option X)) → DialFailedIn seen (take n old) (take n new) → DialFailedIn seen old new
  dial_of_first zero old new k = absurd k
  dial_of_first (suc n) [] new k = absurd k
  dial_of_first (suc n) (x ∷ old) [] k = absurd k
  dial_of_first (suc n) (x ∷ old) (y ∷ new) (inl k) = inl k
  dial_of_first (suc n) (x ∷ old) (y ∷ new) (inr k) = inr (dial_of_first n old new k)

  pub dial_of_rest : (n : ℕ) (old new : List (Option X)) → DialFailedIn seen (drop n old) (drop n new) → DialFailedIn seen old new
  dial_of_rest zero old new k = k
  dial_of_rest (suc n) [] new k = absurd k
  dial_of_rest (suc n) (x ∷ old) [] k = no_rest (drop n old) k
    where
      no_rest : (rest : List (Option X)) → DialFailedIn seen rest [] → DialFailedIn seen (x ∷ old) []
      no_rest [] k = absurd k
      no_rest (z ∷ rest) k = absurd k
  dial_of_rest (suc n) (x ∷ old) (y ∷ new) k = inr (dial_of_rest n old new k)

-- ---- the scribe

scribe_failed_is : (why : ScribeWhy) → scribe_shows trouble.LogFault why ≡ true → why ≡ scribe.VaultFailed
scribe_failed_is scribe.Drained e = absurd (cc e)
scribe_failed_is scribe.VaultFailed e = refl
scribe_failed_is scribe.NoMemory e = absurd (cc e)
scribe_failed_is scribe.Cancelled e = absurd (cc e)

module _ {V : Type 0} (seen : V → VaultSeen) (site : SiteData) (digest : List ℕ) (history : List Entry) where
  pub vault_failed : (old new : Option V) (why : ScribeWhy) → why ≡ scribe.VaultFailed → ScribeOwes seen site digest history old new why
      → VaultRose seen old new
  vault_failed (Some x) (Some y) why e (cursor, inl r) = subst (λ (w : ScribeWhy). CausesScribeEnd (seen x).faults (seen y).faults w) e r.cause
  vault_failed (Some x) (Some y) why e (cursor, inr u) = absurd (cc (sym e ∙ u.cancelled))
  vault_failed (Some x) None why e k = absurd k
  vault_failed None new why e k = absurd k

  pub vault_still : (old new : Option V) (why : ScribeWhy) → why ≡ scribe.Drained → ScribeOwes seen site digest history old new why → VaultStays seen old new
  vault_still (Some x) (Some y) why e (cursor, inl r) = subst (λ (w : ScribeWhy). CausesScribeEnd (seen x).faults (seen y).faults w) e r.cause
  vault_still (Some x) (Some y) why e (cursor, inr u) = absurd (cc (sym e ∙ u.cancelled))
  vault_still (Some x) None why e k = absurd k
  vault_still None new why e k = absurd k

-- ---- how many workers were cancelled

abbrev flag : Bool → ℕ
flag b = cond (is_set b) 1 0

some_set : (flags : List Bool) → list_any is_set flags ≡ true → 1 ≤ count_by is_set flags
some_set [] e = absurd (cc e)
some_set (true ∷ flags) e = let sum = sum_by-cons flag true flags in omega (arith, sum)
some_set (false ∷ flags) e = let sum = sum_by-cons flag false flags in let m = some_set flags e in omega (arith, sum, m)

none_set : (flags : List Bool) → AllByRecursion (λ (b : Bool). b ≡ false) flags → count_by is_set flags ≡ 0
none_set [] k = refl
none_set (true ∷ flags) k = absurd (cc (k.0))
none_set (false ∷ flags) k = let sum = sum_by-cons flag false flags in let m = none_set flags k.1 in omega (arith, sum, m)

line_cancelled : (why : LineWhy) → line_shows trouble.NoWorker why ≡ is_cancelled why
line_cancelled line.Stopped = refl
line_cancelled line.Finished = refl
line_cancelled line.NoReconnect = refl
line_cancelled line.DoorFailed = refl
line_cancelled line.Full = refl
line_cancelled line.NoMemory = refl
line_cancelled line.Cancelled = refl

desk_cancelled : (why : DeskWhy) → desk_shows trouble.NoWorker why ≡ is_cancelled_desk why
desk_cancelled desk.Stopped = refl
desk_cancelled desk.Finished = refl
desk_cancelled desk.DoorFailed = refl
desk_cancelled desk.Cancelled = refl

scribe_cancelled : (why : ScribeWhy) → scribe_shows trouble.NoWorker why ≡ is_cancelled_scribe why
scribe_cancelled scribe.Drained = refl
scribe_cancelled scribe.VaultFailed = refl
scribe_cancelled scribe.NoMemory = refl
scribe_cancelled scribe.Cancelled = refl

abbrev desk_flag : DeskNote → Bool
desk_flag n = is_cancelled_desk n.why

set_in : {X : Type 0} (p q : X → Bool) → ((x : X) → p x ≡ q x) → (xs : List X) → list_any p xs ≡ true → list_any is_set (map q xs) ≡ true
set_in p q same [] e = absurd (cc e)
set_in p q same (x ∷ xs) e = elim (or_cases (p x) (list_any p xs) e) [
  | inl here ↦ ap (λ (b : Bool). b || list_any is_set (map q xs)) (sym (same x) ∙ here)
  | inr there ↦ or_later (q x) (list_any is_set (map q xs)) (set_in p q same xs there)
]

set_first : (xs ys : List Bool) → list_any is_set xs ≡ true → list_any is_set (xs ++ ys) ≡ true
set_first xs ys e = list_any-append is_set xs ys ∙ ap (λ (b : Bool). b || list_any is_set ys) e

set_later : (xs ys : List Bool) → list_any is_set ys ≡ true → list_any is_set (xs ++ ys) ≡ true
set_later [] ys e = e
set_later (true ∷ xs) ys e = refl
set_later (false ∷ xs) ys e = set_later xs ys e

-- a worker was cancelled
pub worker_cancelled : (w : Worked) → (list_any (line_shows trouble.NoWorker) w.lines
    || (has_desk trouble.NoWorker w.desks || (scribe_shows trouble.NoWorker w.scribe || has_closed trouble.NoWorker w.history))) ≡ true
    → 1 ≤ count_by is_set (cancellations w)
worker_cancelled w e =
    let desks = map desk_flag w.desks in
    let last = is_cancelled_scribe w.scribe ∷ [] in
    some_set (cancellations w) (elim (or_cases (list_any (line_shows trouble.NoWorker) w.lines)
    (has_desk trouble.NoWorker w.desks || (scribe_shows trouble.NoWorker w.scribe || has_closed trouble.NoWorker w.history)) e) [
      | inl line ↦ set_first (map is_cancelled w.lines) (desks ++ last) (set_in (line_shows trouble.NoWorker) is_cancelled line_cancelled w.lines line)
      | inr others ↦ set_later (map is_cancelled w.lines) (desks ++ last)
          (elim (or_cases (has_desk trouble.NoWorker w.desks) (scribe_shows trouble.NoWorker w.scribe || has_closed trouble.NoWorker w.history) others) [
            | inl d ↦ set_first desks last (set_in (λ (n : DeskNote). desk_shows trouble.NoWorker n.why) desk_flag (λ n. desk_cancelled n.why) w.desks d)
            | inr rest ↦ set_later desks last (elim (or_cases (scribe_shows trouble.NoWorker w.scribe) (has_closed trouble.NoWorker w.history) rest) [
              | inl s ↦ ap (λ (b : Bool). b || false) (sym (scribe_cancelled w.scribe) ∙ s)
              | inr h ↦ false_not (has_closed trouble.NoWorker w.history) h (none_closed trouble.NoWorker never_worker w.history)
            ])
          ])
    ])

plain_line_flag : (why : LineWhy) → is_plain_line why ≡ true → is_cancelled why ≡ false
plain_line_flag line.Stopped e = refl
plain_line_flag line.Finished e = refl
plain_line_flag line.NoReconnect e = refl
plain_line_flag line.DoorFailed e = refl
plain_line_flag line.Full e = refl
plain_line_flag line.NoMemory e = refl
plain_line_flag line.Cancelled e = absurd (cc e)

plain_desk_flag : (why : DeskWhy) → is_plain_desk why ≡ true → is_cancelled_desk why ≡ false
plain_desk_flag desk.Stopped e = refl
plain_desk_flag desk.Finished e = refl
plain_desk_flag desk.DoorFailed e = refl
plain_desk_flag desk.Cancelled e = absurd (cc e)

clear : {X : Type 0} (plain : X → Bool) (flag : X → Bool) → ((x : X) → plain x ≡ true → flag x ≡ false) → (xs : List X) (rest : List Bool)
    → AllByRecursion (λ (x : X). plain x ≡ true) xs
    → AllByRecursion (λ (b : Bool). b ≡ false) rest → AllByRecursion (λ (b : Bool). b ≡ false) (map flag xs ++ rest)
clear plain flag f [] rest k r = r
clear plain flag f (x ∷ xs) rest k r = (f x k.0, clear plain flag f xs rest k.1 r)

-- where each worker ended for a plain reason, none was
pub none_cancelled : (w : Worked) → AllByRecursion (λ (why : LineWhy). is_plain_line why ≡ true) w.lines
    → AllByRecursion (λ (n : DeskNote). is_plain_desk n.why ≡ true) w.desks → w.scribe ≡ scribe.Drained
    → count_by is_set (cancellations w) ≡ 0
none_cancelled w l d s =
    none_set (cancellations w) (clear is_plain_line is_cancelled plain_line_flag w.lines (map desk_flag w.desks ++ is_cancelled_scribe w.scribe ∷ []) l
    (clear (λ (n : DeskNote). is_plain_desk n.why) desk_flag (λ n. plain_desk_flag n.why) w.desks (is_cancelled_scribe w.scribe ∷ []) d
    (ap is_cancelled_scribe s, tt)))

pub raised_once : (n faults now : ℕ) → 1 ≤ n → now ≡ raised_by n faults → raised faults ≤ now
raised_once n faults now l e = omega (arith, l, e)

pub raised_never : (n faults now : ℕ) → n ≡ 0 → now ≡ raised_by n faults → now ≤ faults
raised_never n faults now z e = omega (arith, z, e)

-- ---- what shows a trouble, by its parts

no_line_log : (why : LineWhy) → line_shows trouble.LogFault why ≡ false
no_line_log why = refl

no_desk_log : (n : DeskNote) → desk_shows trouble.LogFault n.why ≡ false
no_desk_log n = refl

no_desk_full : (n : DeskNote) → desk_shows trouble.HistoryFull n.why ≡ false
no_desk_full n = refl

no_scribe_full : (why : ScribeWhy) → scribe_shows trouble.HistoryFull why ≡ false
no_scribe_full why = refl

no_scribe_door : (why : ScribeWhy) → scribe_shows trouble.DoorFault why ≡ false
no_scribe_door why = refl

module _ (l : Left) where
  abbrev line_part : Trouble → Bool
  line_part t = list_any (line_shows t) l.lines

  abbrev scribe_part : Trouble → Bool
  scribe_part t = scribe_shows t l.scribe || has_closed t l.history

  pub log_shown : shows l trouble.LogFault ≡ true → l.scribe ≡ scribe.VaultFailed
  log_shown e = elim (or_cases (line_part trouble.LogFault) (has_desk trouble.LogFault l.desks || scribe_part trouble.LogFault) e) [
    | inl a ↦ false_not (line_part trouble.LogFault) a (any_never (line_shows trouble.LogFault) no_line_log l.lines)
    | inr b ↦ elim (or_cases (has_desk trouble.LogFault l.desks) (scribe_part trouble.LogFault) b) [
      | inl c ↦ false_not (has_desk trouble.LogFault l.desks) c (any_never (λ (n : DeskNote). desk_shows trouble.LogFault n.why) no_desk_log l.desks)
      | inr d ↦ elim (or_cases (scribe_shows trouble.LogFault l.scribe) (has_closed trouble.LogFault l.history) d) [
        | inl s ↦ scribe_failed_is l.scribe s
        | inr h ↦ false_not (has_closed trouble.LogFault l.history) h (none_closed trouble.LogFault never_log l.history)
      ]
    ]
  ]

  pub door_shown : shows l trouble.DoorFault ≡ true → (line_part trouble.DoorFault ≡ true) ⊎ (has_desk trouble.DoorFault l.desks ≡ true)
  door_shown e = elim (or_cases (line_part trouble.DoorFault) (has_desk trouble.DoorFault l.desks || scribe_part trouble.DoorFault) e) [
    | inl a ↦ inl a
    | inr b ↦ elim (or_cases (has_desk trouble.DoorFault l.desks) (scribe_part trouble.DoorFault) b) [
      | inl c ↦ inr c
      | inr d ↦ elim (or_cases (scribe_shows trouble.DoorFault l.scribe) (has_closed trouble.DoorFault l.history) d) [
        | inl s ↦ false_not (scribe_shows trouble.DoorFault l.scribe) s (no_scribe_door l.scribe)
        | inr h ↦ false_not (has_closed trouble.DoorFault l.history) h (none_closed trouble.DoorFault never_door l.history)
      ]
    ]
  ]

  pub full_shown : shows l trouble.HistoryFull ≡ true → (line_part trouble.HistoryFull ≡ true) ⊎ (has_closed trouble.HistoryFull l.history ≡ true)
  full_shown e = elim (or_cases (line_part trouble.HistoryFull) (has_desk trouble.HistoryFull l.desks || scribe_part trouble.HistoryFull) e) [
    | inl a ↦ inl a
    | inr b ↦ elim (or_cases (has_desk trouble.HistoryFull l.desks) (scribe_part trouble.HistoryFull) b) [
      | inl c ↦ false_not (has_desk trouble.HistoryFull l.desks) c (any_never (λ (n : DeskNote). desk_shows trouble.HistoryFull n.why) no_desk_full l.desks)
      | inr d ↦ elim (or_cases (scribe_shows trouble.HistoryFull l.scribe) (has_closed trouble.HistoryFull l.history) d) [
        | inl s ↦ false_not (scribe_shows trouble.HistoryFull l.scribe) s (no_scribe_full l.scribe)
        | inr h ↦ inr h
      ]
    ]
  ]

  pub full_later : has_closed trouble.HistoryFull l.history ≡ true → shows l trouble.HistoryFull ≡ true
  full_later c =
      or_later (line_part trouble.HistoryFull) (has_desk trouble.HistoryFull l.desks || scribe_part trouble.HistoryFull)
      (or_later (has_desk trouble.HistoryFull l.desks) (scribe_part trouble.HistoryFull)
      (or_later (scribe_shows trouble.HistoryFull l.scribe) (has_closed trouble.HistoryFull l.history) c))

-- each interface has one aim
pub aims_fit : (site : SiteData) → 0 + length (line_aims site) ≤ length site.interfaces
aims_fit site = let m = length-map site.interfaces interface_aim in omega (arith, m)
