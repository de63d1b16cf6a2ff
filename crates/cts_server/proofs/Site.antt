-- The tasks of a site and what its workers left, by what each of them was made of.
use Rattle.std.proofs.Common.{◌≡◌, ℕ, ◌+◌, ◌≤◌, Bool, true, List, [], ◌∷◌, ◌++◌, length, map, take, drop, Option, Some, None, IsSome, refl, sym, ◌∙◌}
use Rattle.std.proofs.Common.{ap, subst, arith, append_assoc, length-append, count_by, inr, Result, Ok, Err}
use Rattle.std.specs.Prelude.{IfOk, OnErr}
use Rattle.std.specs.List.{AllByRecursion, AllZip, filter_map}
use Rattle.std.specs.Option.{unwrap_or}
use Rattle.std.proofs.lemmas.List.{append-nil, drop_at, length-map, map-append, map-id, take_at}
use Rattle.cts_chain.specs.Shapes.{ChainData}
use Rattle.cts_def.specs.Makers.{first_desk, first_slot, scribe, server}
use Rattle.cts_def.specs.Sites.{IsSoundSite, SiteData}
use Rattle.cts_entry.specs.declared.entry.Entry.{Entry}
use Rattle.cts_line.specs.declared.ending.LineWhy.{LineWhy}
use Rattle.cts_outside.specs.Crews.{CancelledFrom, with_cancelled, with_jobs}
use Rattle.cts_outside.specs.Seen.{CrewSeen, LineSeen, VaultSeen}
use Rattle.cts_outside.specs.declared.link.Aim.{Aim}
use Rattle.cts_scribe.specs.Laws.{StopsLeaveLogsOf}
use Rattle.cts_scribe.specs.declared.ending.ScribeWhy.{ScribeWhy}
use Rattle.cts_table.specs.Keeping.{IsKept}
use Rattle.cts_table.specs.declared.basis.Basis.{Basis}
use Rattle.cts_trace.specs.Makers.{of_maker}
use Rattle.cts_turn.specs.Lists.{StartsWith, has}
use Rattle.cts_server.specs.Aims.{aimed_at, desk_aims, line_aims, slot_aims}
use Rattle.cts_server.specs.Cancelled.{cancellations, is_set, worker_count}
use Rattle.cts_server.specs.Desks.{DeskLasts, DeskRule, is_cancelled as is_cancelled_desk}
use Rattle.cts_server.specs.Begun.{IsRoom, IsStaff}
use Rattle.cts_server.specs.Homes.{CameHome, FindHome, HaveCome, last_of}
use Rattle.cts_server.specs.Kinds.{IsDesk, IsInterface, IsScribe, IsSlot, both_of, desk_note, line_why, note_of, the_desk, the_interface, the_scribe, the_slot}
use Rattle.cts_server.specs.Lines.{MayRunLine, OwesLine, is_cancelled}
use Rattle.cts_server.specs.Making.{ReadyDesk, ReadyLine, ReadyScribe, Staffed}
use Rattle.cts_server.specs.Owed.{DeskDid, LineOwes, ScribeOwes, server_basis}
use Rattle.cts_server.specs.Desks.{MayRunDesk}
use Rattle.cts_server.specs.Owing.{MayWork, WorkOwesBy, was_cancelled}
use Rattle.cts_server.specs.Places.{AreAimed, AreThere, CameBack, IsThere, filled}
use Rattle.cts_server.specs.Serving.{HasIdled, HasServed, IdledParts, ServedBy, ServedParts}
use Rattle.cts_server.specs.Scribes.{MayRunScribe, OwesScribe, is_cancelled as is_cancelled_scribe}
use Rattle.cts_server.specs.Tasks.{Did, Holds, Rising}
use Rattle.cts_server.specs.declared.kinds.ByKind.{ByKind}
use Rattle.cts_server.specs.declared.kinds.ByKind.TheVariants.{Interface, Slot, Desk, Scribe}
use Rattle.cts_server.specs.declared.kinds.DeskLeft.{DeskLeft}
use Rattle.cts_server.specs.declared.kinds.Line.{Line}
use Rattle.cts_server.specs.declared.kinds.LineLeft.{LineLeft}
use Rattle.cts_server.specs.declared.kinds.ScribeLeft.{ScribeLeft}
use Rattle.cts_server.specs.declared.running.Task.{Task}
use Rattle.cts_server.specs.declared.staging.Room.{Room}
use Rattle.cts_server.specs.declared.worked.DeskNote.{DeskNote}
use Rattle.cts_server.specs.declared.worked.Worked.{Worked}
use Rattle.cts_server.proofs.Fits.{desk_aims_count, line_aims_count, slot_aims_count}
use Rattle.cts_server.specs.WorkLaws.{work_lasts}
use Rattle.cts_server.proofs.Owing.{owes_desk, owes_line}
use Rattle.cts_server.proofs.Parts.{desk_left, desk_made, interface_left, interface_made, scribe_left, scribe_made, slot_left, slot_made}
use Rattle.cts_server.proofs.Returned.{aimed_there, came_aimed, came_there, same_zip}
use Rattle.cts_server.proofs.Sorting.{AllSorted, all_of, all_sorted, desks_are, lines_are, none_of, scribe_is, slots_are, taken}
use Rattle.cts_server.proofs.Steps.{did_all, kept}
use Rattle.cts_server.proofs.Whole.{staff_all, staff_count, staff_rises}

map_map : {X Y Z : Type 0} (f : Y → Z) (g : X → Y) (xs : List X) → map f (map g xs) ≡ map (λ (x : X). f (g x)) xs
map_map f g [] = refl
map_map {Z} f g (x ∷ xs) = ap (λ (l : List Z). f (g x) ∷ l) (map_map f g xs)

some_is : {A : Type 0} (a b : A) → Some a ≡ Some b → a ≡ b
some_is {A} a b e = ap (λ (o : Option A). unwrap_or o a) e

-- The devices of a server and what they show, its chains, and what its desks owe.
pub record Outfit : Type 1 where
  pub D : Type 0
  pub Q : Type 0
  pub V : Type 0
  pub C : Type 0
  pub line_seen : D → LineSeen
  pub door_seen : Q → LineSeen
  pub vault_seen : V → VaultSeen
  pub shape : C → ChainData
  pub rule : DeskRule
  pub keeps : DeskLasts rule

module _ (o : Outfit) (site : SiteData) (digest : List ℕ) where
  abbrev SiteWork : Type 0
  SiteWork = ByKind (Line o.D o.C) (Line o.Q o.C) o.Q o.V

  abbrev SiteLeft : Type 0
  SiteLeft = ByKind (LineLeft o.D) (LineLeft o.Q) (DeskLeft o.Q) (ScribeLeft o.V)

  abbrev interface_of : ℕ → Aim → o.D → Line o.D o.C → Type 0
  interface_of n aim d l = ReadyLine site n aim (o.line_seen d) (o.line_seen l.device) (o.shape l.chain)

  abbrev slot_of : ℕ → Aim → o.Q → Line o.Q o.C → Type 0
  slot_of n aim d l = ReadyLine site n aim (o.door_seen d) (o.door_seen l.device) (o.shape l.chain)

  abbrev desk_of : ℕ → Aim → o.Q → o.Q → Type 0
  desk_of n aim d k = ReadyDesk site n aim (o.door_seen d) (o.door_seen k)

  abbrev scribe_of : Option o.V → o.V → Type 0
  scribe_of place v = ReadyScribe o.vault_seen site place v

  abbrev SiteStaff : Option o.V → List Aim → List Aim → List Aim → List (Option o.D) → List (Option o.D) → List (Option o.Q) → List (Option o.Q)
      → List (Option o.Q) → List (Option o.Q) → List (Task SiteWork) → Type 0
  SiteStaff place la sa da lp lq sp sq dp dq tasks = Staffed (IsInterface interface_of) (IsSlot slot_of) (IsDesk desk_of)
      (IsScribe (scribe_of place)) la sa da lp lq sp sq dp dq tasks

  abbrev interface_owes : ℕ → Basis → List ℕ → List Entry → Line o.D o.C → LineLeft o.D → Type 0
  interface_owes by basis found history l n = (connections : ℕ) × OwesLine basis by found history (o.line_seen l.device)
      (o.line_seen n.device) connections n.why

  abbrev slot_owes : ℕ → Basis → List ℕ → List Entry → Line o.Q o.C → LineLeft o.Q → Type 0
  slot_owes by basis found history l n = (connections : ℕ) × OwesLine basis by found history (o.door_seen l.device) (o.door_seen n.device) connections n.why

  abbrev desk_owes : ℕ → Basis → List ℕ → List Entry → o.Q → DeskLeft o.Q → Type 0
  desk_owes by basis found history d n = o.rule basis by found history (o.door_seen d) (o.door_seen n.door) (note_of n)

  abbrev scribe_owes : ℕ → Basis → List ℕ → List Entry → o.V → ScribeLeft o.V → Type 0
  scribe_owes by basis found history v n = (cursor : ℕ) × OwesScribe basis.site digest by history (o.vault_seen v) (o.vault_seen n.vault) cursor n.why

  abbrev site_owes : ℕ → Basis → List ℕ → List Entry → SiteWork → SiteLeft → Type 0
  site_owes by basis found history work left =
      both_of (interface_owes by basis found history) (slot_owes by basis found history) (desk_owes by basis found history)
      (scribe_owes by basis found history) work left

  abbrev owes : SiteWork → ℕ → Basis → List ℕ → List Entry → SiteLeft → Type 0
  owes = WorkOwesBy {C = o.C} o.rule o.line_seen o.door_seen o.vault_seen digest

  abbrev site_did : Basis → List Entry → Task SiteWork → SiteLeft → Type 0
  site_did basis history = Did owes basis history

  abbrev site_can : Basis → Task SiteWork → Type 0
  site_can basis t = MayWork o.line_seen o.door_seen o.vault_seen o.shape site t.work t.by basis

  -- What holds of each worker of what its pass saw holds of the history that stood in the end.
  pub closed_did : (basis : Basis) (makers : List ℕ) (seen history : List Entry) (tasks : List (Task SiteWork)) (lefts : List SiteLeft)
      → StartsWith history seen
      → ((m : ℕ) → has m makers ≡ true → of_maker m history ≡ of_maker m seen)
      → AllZip (Holds owes basis makers seen) tasks lefts
      → AllZip (site_did basis history) tasks lefts
  closed_did basis makers seen history tasks lefts begins own z =
      did_all owes basis makers history tasks lefts
      (kept owes basis (work_lasts {C = o.C} o.rule o.keeps o.line_seen o.door_seen o.vault_seen digest)
      makers makers seen history (λ m h. h) begins own tasks lefts z)

  -- ---- what each kind may do

  interface_can : (n : ℕ) (a : Aim) (x : o.D) (t : Task SiteWork) → t.by ≡ n → IsInterface interface_of n a x t.work → site_can (server_basis site) t
  interface_can n a x t at of =
      let m = interface_made interface_of n a x t.work of in
      subst (λ (w : SiteWork). MayWork o.line_seen o.door_seen o.vault_seen o.shape site w t.by (server_basis site)) (sym m.1)
      (subst (λ (i : ℕ). MayRunLine (server_basis site) i site (o.shape m.0.chain)) (sym at) m.2.can)

  slot_can : (n : ℕ) (a : Aim) (x : o.Q) (t : Task SiteWork) → t.by ≡ n → IsSlot slot_of n a x t.work → site_can (server_basis site) t
  slot_can n a x t at of =
      let m = slot_made slot_of n a x t.work of in
      subst (λ (w : SiteWork). MayWork o.line_seen o.door_seen o.vault_seen o.shape site w t.by (server_basis site)) (sym m.1)
      (subst (λ (i : ℕ). MayRunLine (server_basis site) i site (o.shape m.0.chain)) (sym at) m.2.can)

  desk_can : (n : ℕ) (a : Aim) (x : o.Q) (t : Task SiteWork) → t.by ≡ n → IsDesk desk_of n a x t.work → site_can (server_basis site) t
  desk_can n a x t at of =
      let m = desk_made desk_of n a x t.work of in
      subst (λ (w : SiteWork). MayWork o.line_seen o.door_seen o.vault_seen o.shape site w t.by (server_basis site)) (sym m.1)
      (subst (λ (i : ℕ). MayRunDesk (server_basis site) i) (sym at) m.2.can)

  scribe_can : (place : Option o.V) (t : Task SiteWork) → t.by ≡ scribe → IsScribe (scribe_of place) t.work → site_can (server_basis site) t
  scribe_can place t at of =
      let m = scribe_made (scribe_of place) t.work of in
      subst (λ (w : SiteWork). MayWork o.line_seen o.door_seen o.vault_seen o.shape site w t.by (server_basis site)) (sym m.1)
      (subst (λ (i : ℕ). MayRunScribe (server_basis site) i site (o.vault_seen m.0)) (sym at) m.2.can)

  module _ {place : Option o.V} {la sa da : List Aim} {lp lq : List (Option o.D)} {sp sq dp dq : List (Option o.Q)} {tasks : List (Task SiteWork)}
      (s : SiteStaff place la sa da lp lq sp sq dp dq tasks) where
    pub rises : length la ≤ 16 → length sa ≤ 8 → length da ≤ 4 → Rising 0 tasks
    rises a b d = staff_rises (IsInterface interface_of) (IsSlot slot_of) (IsDesk desk_of) (IsScribe (scribe_of place)) la sa da lp lq sp sq dp dq tasks s a b d

    pub may : (basis : Basis) → basis ≡ server_basis site → AllByRecursion (site_can basis) tasks
    may basis is =
        subst (λ (b : Basis). AllByRecursion (site_can b) tasks) (sym is)
        (staff_all (IsInterface interface_of) (IsSlot slot_of) (IsDesk desk_of) (IsScribe (scribe_of place)) la sa da lp lq sp sq dp dq tasks s
        (site_can (server_basis site))
        interface_can slot_can desk_can (scribe_can place))

    pub jobs : la ≡ line_aims site → sa ≡ slot_aims site → da ≡ desk_aims site → length tasks ≡ worker_count site
    jobs ea eb ed =
        let n = staff_count (IsInterface interface_of) (IsSlot slot_of) (IsDesk desk_of) (IsScribe (scribe_of place)) la sa da lp lq sp sq dp dq tasks s in
        let a = line_aims_count site in
        let b = slot_aims_count site in
        let d = desk_aims_count site in
        omega (arith, n, ap length ea, ap length eb, ap length ed, a, b, d)

    -- ---- tasks that were not begun

    -- each of them is of its kind, and its device was aimed
    undone : AllSorted la sa da lp lq sp sq dp dq (λ (t : Task SiteWork). t.work) (λ (l : Line o.D o.C). l.device) (λ (l : Line o.Q o.C). l.device)
        (λ (d : o.Q). d)
        (λ (l : Line o.D o.C). l) (λ (l : Line o.Q o.C). l) (λ (d : o.Q). d)
        (λ n a x y w. o.line_seen y ≡ aimed_at a (o.line_seen x)) (λ n a x y w. o.door_seen y ≡ aimed_at a (o.door_seen x))
        (λ n a x y w. o.door_seen y ≡ aimed_at a (o.door_seen x)) (λ (v : o.V). place ≡ Some v) tasks
    undone = all_sorted la sa da lp lq sp sq dp dq (λ (t : Task SiteWork). t.work) (λ (l : Line o.D o.C). l.device) (λ (l : Line o.Q o.C). l.device)
        (λ (d : o.Q). d)
        (λ (l : Line o.D o.C). l) (λ (l : Line o.Q o.C). l) (λ (d : o.Q). d)
        (λ n a x y w. o.line_seen y ≡ aimed_at a (o.line_seen x)) (λ n a x y w. o.door_seen y ≡ aimed_at a (o.door_seen x))
        (λ n a x y w. o.door_seen y ≡ aimed_at a (o.door_seen x)) (λ (v : o.V). place ≡ Some v)
        (IsInterface interface_of) (IsSlot slot_of) (IsDesk desk_of) (IsScribe (scribe_of place)) (λ (t u : Task SiteWork). t ≡ u)
        (λ n a x t u at of e. let m = interface_made interface_of n a x t.work of in (m.0, ap (λ (v : Task SiteWork). v.work) (sym e) ∙ m.1, m.2.aimed))
        (λ n a x t u at of e. let m = slot_made slot_of n a x t.work of in (m.0, ap (λ (v : Task SiteWork). v.work) (sym e) ∙ m.1, m.2.aimed))
        (λ n a x t u at of e. let m = desk_made desk_of n a x t.work of in (m.0, ap (λ (v : Task SiteWork). v.work) (sym e) ∙ m.1, m.2.aimed))
        (λ t u at of e. let m = scribe_made (scribe_of place) t.work of in (m.0, ap (λ (v : Task SiteWork). v.work) (sym e) ∙ m.1, m.2.same))
        tasks s tasks (same_zip tasks)

    undone_lines : filter_map (λ (t : Task SiteWork). the_interface t.work) tasks ≡ undone.ls
    undone_lines = lines_are (λ (t : Task SiteWork). t.work) tasks undone.ls undone.ss undone.ks undone.c undone.are

    undone_slots : filter_map (λ (t : Task SiteWork). the_slot t.work) tasks ≡ undone.ss
    undone_slots = slots_are (λ (t : Task SiteWork). t.work) tasks undone.ls undone.ss undone.ks undone.c undone.are

    undone_desks : filter_map (λ (t : Task SiteWork). the_desk t.work) tasks ≡ undone.ks
    undone_desks = desks_are (λ (t : Task SiteWork). t.work) tasks undone.ls undone.ss undone.ks undone.c undone.are

    pub undone_many : (length (filter_map (λ (t : Task SiteWork). the_interface t.work) tasks) ≡ length la)
        × (length (filter_map (λ (t : Task SiteWork). the_slot t.work) tasks) ≡ length sa)
        × (length (filter_map (λ (t : Task SiteWork). the_desk t.work) tasks) ≡ length da)
    undone_many = (ap length undone_lines ∙ undone.many_lines, ap length undone_slots ∙ undone.many_slots, ap length undone_desks ∙ undone.many_desks)

    pub lines_aimed : (new : List (Option o.D)) → CameHome (λ (t : Task SiteWork). the_interface t.work) (λ l. l.device) tasks lq new
        → AreAimed o.line_seen la lp new
    lines_aimed new home = came_aimed o.line_seen (λ n a x y (w : Line o.D o.C). o.line_seen y ≡ aimed_at a (o.line_seen x)) (λ n a x y w e. e) 0 la lp new _
        (undone.lines_back new (home ∙ ap (λ (l : List (Line o.D o.C)). filled (map (λ d. d.device) l) lq) undone_lines))

    pub slots_aimed : (new : List (Option o.Q)) → CameHome (λ (t : Task SiteWork). the_slot t.work) (λ l. l.device) tasks sq new
        → AreAimed o.door_seen sa sp new
    slots_aimed new home = came_aimed o.door_seen (λ n a x y (w : Line o.Q o.C). o.door_seen y ≡ aimed_at a (o.door_seen x)) (λ n a x y w e. e) 16 sa sp new _
        (undone.slots_back new (home ∙ ap (λ (l : List (Line o.Q o.C)). filled (map (λ d. d.device) l) sq) undone_slots))

    pub desks_aimed : (new : List (Option o.Q)) → CameHome (λ (t : Task SiteWork). the_desk t.work) (λ d. d) tasks dq new → AreAimed o.door_seen da dp new
    desks_aimed new home = came_aimed o.door_seen (λ n a x y (w : o.Q). o.door_seen y ≡ aimed_at a (o.door_seen x)) (λ n a x y w e. e) 24 da dp new _
        (undone.desks_back new (home ∙ ap (λ (l : List o.Q). filled (map (λ d. d) l) dq) undone_desks))

    pub vault_same : (left new : Option o.V) → new ≡ last_of left (map (λ v. v) (filter_map (λ (t : Task SiteWork). the_scribe t.work) tasks)) → new ≡ place
    vault_same left new is =
        is ∙ ap (λ (l : List o.V). last_of left (map (λ v. v) l))
        (scribe_is (λ (t : Task SiteWork). t.work) tasks undone.ls undone.ss undone.ks undone.c undone.are) ∙ sym undone.owes

    pub vault_home : (left new : Option o.V) → new ≡ last_of left (map (λ v. v) (filter_map (λ (t : Task SiteWork). the_scribe t.work) tasks)) → IsSome new
    vault_home left new is = subst IsSome (sym (vault_same left new is ∙ undone.owes)) refl

    -- devices were aimed at most, and nothing was cancelled
    pub idled : (lines : List (Option o.D)) (slots desks : List (Option o.Q)) (left now : Option o.V) (crew crew' : CrewSeen)
        → CameHome (λ (t : Task SiteWork). the_interface t.work) (λ l. l.device) tasks lq lines
        → CameHome (λ (t : Task SiteWork). the_slot t.work) (λ l. l.device) tasks sq slots → CameHome (λ (t : Task SiteWork). the_desk t.work)
        (λ d. d) tasks dq desks
        → now ≡ last_of left (map (λ v. v) (filter_map (λ (t : Task SiteWork). the_scribe t.work) tasks)) → la ≡ line_aims site → sa ≡ slot_aims site
        → da ≡ desk_aims site → crew'.faults ≡ crew.faults
        → IdledParts o.line_seen o.door_seen o.vault_seen site lp lines sp slots dp desks place now crew crew'
    idled lines slots desks left now crew crew' hl hs hd hv ea es ed steady = record {
      interfaces = inr (subst (λ (a : List Aim). AreAimed o.line_seen a lp lines) ea (lines_aimed lines hl));
      slots = inr (subst (λ (a : List Aim). AreAimed o.door_seen a sp slots) es (slots_aimed slots hs));
      desks = inr (subst (λ (a : List Aim). AreAimed o.door_seen a dp desks) ed (desks_aimed desks hd));
      kept = vault_same left now hv;
      jobs = steady;
    }

    pub idled_back : (lines : List (Option o.D)) (slots desks : List (Option o.Q)) (left now : Option o.V)
        → CameHome (λ (t : Task SiteWork). the_interface t.work) (λ l. l.device) tasks lq lines
        → CameHome (λ (t : Task SiteWork). the_slot t.work) (λ l. l.device) tasks sq slots → CameHome (λ (t : Task SiteWork). the_desk t.work)
        (λ d. d) tasks dq desks
        → now ≡ last_of left (map (λ v. v) (filter_map (λ (t : Task SiteWork). the_scribe t.work) tasks)) → AreThere 16 lp → AreThere 8 sp → AreThere 4 dp
        → AreThere 16 lines × AreThere 8 slots × AreThere 4 desks × IsSome now
    idled_back lines slots desks left now hl hs hd hv tl ts td = (
      aimed_there o.line_seen 16 la lp lines (lines_aimed lines hl) tl,
      aimed_there o.door_seen 8 sa sp slots (slots_aimed slots hs) ts,
      aimed_there o.door_seen 4 da dp desks (desks_aimed desks hd) td,
      vault_home left now hv,
    )

    -- ---- what workers left that have ended

    module _ {basis : Basis} (is : basis ≡ server_basis site) (history : List Entry) (notes : List SiteLeft)
        (z : AllZip (site_did basis history) tasks notes) where
      abbrev ScribeDid : ScribeLeft o.V → Type 0
      ScribeDid n = (before : o.V) × (place ≡ Some before) × (cursor : ℕ) × OwesScribe site digest scribe history (o.vault_seen before)
          (o.vault_seen n.vault) cursor n.why

      -- what each of them owed, by its kind
      interface_did : (n : ℕ) (a : Aim) (x : o.D) (t : Task SiteWork) (i : SiteLeft) → t.by ≡ n → IsInterface interface_of n a x t.work
          → site_did basis history t i
          → (p : LineLeft o.D) × (i ≡ Interface p) × LineOwes o.line_seen site history n a x p.device p.why
      interface_did n a x t i at of did =
          let m = interface_made interface_of n a x t.work of in
          let owes : site_owes t.by basis did.0 history (Interface m.0) i = subst (λ (w : SiteWork). site_owes t.by basis did.0 history w i) m.1 did.1 in
          let q = interface_left (interface_owes t.by basis did.0 history) (slot_owes t.by basis did.0 history) (desk_owes t.by basis did.0 history)
          (scribe_owes t.by basis did.0 history) m.0 i owes in (
            q.0,
            q.1,
            (
              did.0,
              q.2.0,
              owes_line basis (server_basis site) t.by n did.0 history (o.line_seen m.0.device) (aimed_at a (o.line_seen x))
                  (o.line_seen q.0.device) q.2.0 q.0.why is at m.2.aimed q.2.1,
            ),
          )

      slot_did : (n : ℕ) (a : Aim) (x : o.Q) (t : Task SiteWork) (i : SiteLeft) → t.by ≡ n → IsSlot slot_of n a x t.work → site_did basis history t i
          → (p : LineLeft o.Q) × (i ≡ Slot p) × LineOwes o.door_seen site history n a x p.device p.why
      slot_did n a x t i at of did =
          let m = slot_made slot_of n a x t.work of in
          let owes : site_owes t.by basis did.0 history (Slot m.0) i = subst (λ (w : SiteWork). site_owes t.by basis did.0 history w i) m.1 did.1 in
          let q = slot_left (interface_owes t.by basis did.0 history) (slot_owes t.by basis did.0 history) (desk_owes t.by basis did.0 history)
          (scribe_owes t.by basis did.0 history) m.0 i owes in (
            q.0,
            q.1,
            (
              did.0,
              q.2.0,
              owes_line basis (server_basis site) t.by n did.0 history (o.door_seen m.0.device) (aimed_at a (o.door_seen x))
                  (o.door_seen q.0.device) q.2.0 q.0.why is at m.2.aimed q.2.1,
            ),
          )

      desk_did : (n : ℕ) (a : Aim) (x : o.Q) (t : Task SiteWork) (i : SiteLeft) → t.by ≡ n → IsDesk desk_of n a x t.work → site_did basis history t i
          → (p : DeskLeft o.Q) × (i ≡ Desk p) × DeskDid o.door_seen site history o.rule n a x p.door (note_of p)
      desk_did n a x t i at of did =
          let m = desk_made desk_of n a x t.work of in
          let owes : site_owes t.by basis did.0 history (Desk m.0) i = subst (λ (w : SiteWork). site_owes t.by basis did.0 history w i) m.1 did.1 in
          let q = desk_left (interface_owes t.by basis did.0 history) (slot_owes t.by basis did.0 history) (desk_owes t.by basis did.0 history)
          (scribe_owes t.by basis did.0 history) m.0 i owes in (
            q.0,
            q.1,
            (
              did.0,
              owes_desk o.rule basis (server_basis site) t.by n did.0 history (o.door_seen m.0) (aimed_at a (o.door_seen x))
                  (o.door_seen q.0.door) (note_of q.0) is at m.2.aimed q.2,
            ),
          )

      scribe_did : (t : Task SiteWork) (i : SiteLeft) → t.by ≡ 28 → IsScribe (scribe_of place) t.work → site_did basis history t i
          → (p : ScribeLeft o.V) × (i ≡ Scribe p) × ScribeDid p
      scribe_did t i at of did =
          let m = scribe_made (scribe_of place) t.work of in
          let owes : site_owes t.by basis did.0 history (Scribe m.0) i = subst (λ (w : SiteWork). site_owes t.by basis did.0 history w i) m.1 did.1 in
          let q = scribe_left (interface_owes t.by basis did.0 history) (slot_owes t.by basis did.0 history) (desk_owes t.by basis did.0 history)
          (scribe_owes t.by basis did.0 history) m.0 i owes in
          let n = q.0 in
          let cursor : ℕ = q.2.0 in
          let a : OwesScribe site digest t.by history (o.vault_seen m.0) (o.vault_seen n.vault) cursor n.why
          = subst (λ (b : Basis). OwesScribe b.site digest t.by history (o.vault_seen m.0) (o.vault_seen n.vault) cursor n.why) is q.2.1 in
          (n, q.1, (m.0, m.2.same, cursor, subst (λ (k : ℕ). OwesScribe site digest k history (o.vault_seen m.0) (o.vault_seen n.vault) cursor n.why) at a))

      -- each of them of its kind, and what its worker owed holds
      noted : AllSorted la sa da lp lq sp sq dp dq (λ (n : SiteLeft). n) (λ (n : LineLeft o.D). n.device) (λ (n : LineLeft o.Q). n.device)
          (λ (n : DeskLeft o.Q). n.door)
          (λ (n : LineLeft o.D). n.why) (λ (n : LineLeft o.Q). n.why) (note_of {X = o.Q})
          (LineOwes o.line_seen site history) (LineOwes o.door_seen site history) (DeskDid o.door_seen site history o.rule) ScribeDid notes
      noted = all_sorted la sa da lp lq sp sq dp dq (λ (n : SiteLeft). n) (λ (n : LineLeft o.D). n.device) (λ (n : LineLeft o.Q). n.device)
          (λ (n : DeskLeft o.Q). n.door)
          (λ (n : LineLeft o.D). n.why) (λ (n : LineLeft o.Q). n.why) (note_of {X = o.Q})
          (LineOwes o.line_seen site history) (LineOwes o.door_seen site history) (DeskDid o.door_seen site history o.rule) ScribeDid
          (IsInterface interface_of) (IsSlot slot_of) (IsDesk desk_of) (IsScribe (scribe_of place)) (site_did basis history)
          interface_did slot_did desk_did scribe_did tasks s notes z

      noted_lines : filter_map the_interface notes ≡ noted.ls
      noted_lines = lines_are (λ (n : SiteLeft). n) notes noted.ls noted.ss noted.ks noted.c noted.are

      noted_slots : filter_map the_slot notes ≡ noted.ss
      noted_slots = slots_are (λ (n : SiteLeft). n) notes noted.ls noted.ss noted.ks noted.c noted.are

      noted_desks : filter_map the_desk notes ≡ noted.ks
      noted_desks = desks_are (λ (n : SiteLeft). n) notes noted.ls noted.ss noted.ks noted.c noted.are

      noted_scribe : filter_map the_scribe notes ≡ noted.c ∷ []
      noted_scribe = scribe_is (λ (n : SiteLeft). n) notes noted.ls noted.ss noted.ks noted.c noted.are

      noted_whys : filter_map line_why notes ≡ map (λ (n : LineLeft o.D). n.why) noted.ls ++ map (λ (n : LineLeft o.Q). n.why) noted.ss
      noted_whys = taken (λ (n : SiteLeft). n) notes noted.ls noted.ss noted.ks noted.c noted.are line_why
          (map (λ (n : LineLeft o.D). n.why) noted.ls) (map (λ (n : LineLeft o.Q). n.why) noted.ss) [] []
          (all_of line_why Interface (λ (n : LineLeft o.D). n.why) (λ n. refl) noted.ls)
          (all_of line_why Slot (λ (n : LineLeft o.Q). n.why) (λ n. refl) noted.ss) (none_of line_why Desk (λ n. refl) noted.ks) refl
          ∙ ap (λ (l : List LineWhy). map (λ (n : LineLeft o.D). n.why) noted.ls ++ l) (append-nil (map (λ (n : LineLeft o.Q). n.why) noted.ss))

      noted_left : filter_map desk_note notes ≡ map note_of noted.ks
      noted_left = taken (λ (n : SiteLeft). n) notes noted.ls noted.ss noted.ks noted.c noted.are desk_note [] [] (map note_of noted.ks) []
          (none_of desk_note Interface (λ n. refl) noted.ls) (none_of desk_note Slot (λ n. refl) noted.ss)
          (all_of desk_note Desk note_of (λ n. refl) noted.ks) refl ∙ append-nil (map note_of noted.ks)

      pub noted_many : (length (filter_map the_interface notes) ≡ length la) × (length (filter_map the_slot notes) ≡ length sa)
          × (length (filter_map the_desk notes) ≡ length da)
      noted_many = (ap length noted_lines ∙ noted.many_lines, ap length noted_slots ∙ noted.many_slots, ap length noted_desks ∙ noted.many_desks)

      pub kept_many : (length (filter_map line_why notes) ≡ length la + length sa) × (length (filter_map desk_note notes) ≡ length da)
      kept_many =
          let w = ap length noted_whys ∙ length-append (map (λ (n : LineLeft o.D). n.why) noted.ls) (map (λ (n : LineLeft o.Q). n.why) noted.ss) in
          let a = length-map noted.ls (λ (n : LineLeft o.D). n.why) in
          let b = length-map noted.ss (λ (n : LineLeft o.Q). n.why) in
          (omega (arith, w, a, b, noted.many_lines, noted.many_slots), ap length noted_left ∙ length-map noted.ks (note_of {X = o.Q}) ∙ noted.many_desks)

      -- the whys of the interfaces are the first
      whys_split : (whys : List LineWhy) → whys ≡ filter_map line_why notes → la ≡ line_aims site
          → (take (length site.interfaces) whys ≡ map (λ (n : LineLeft o.D). n.why) noted.ls)
          × (drop (length site.interfaces) whys ≡ map (λ (n : LineLeft o.Q). n.why) noted.ss)
      whys_split whys e ea =
          let many : length (map (λ (n : LineLeft o.D). n.why) noted.ls) ≡ length site.interfaces = length-map noted.ls (λ (n : LineLeft o.D). n.why)
          ∙ noted.many_lines ∙ ap length ea ∙ line_aims_count site in
          let is = e ∙ noted_whys in (
            ap (take (length site.interfaces)) is ∙ take_at (map (λ (n : LineLeft o.D). n.why) noted.ls) (map (λ (n : LineLeft o.Q). n.why) noted.ss)
                (length site.interfaces) many,
            ap (drop (length site.interfaces)) is ∙ drop_at (map (λ (n : LineLeft o.D). n.why) noted.ls) (map (λ (n : LineLeft o.Q). n.why) noted.ss)
                (length site.interfaces) many,
          )

      pub served_lines : (new : List (Option o.D)) (whys : List LineWhy) → CameHome the_interface (λ n. n.device) notes lq new
          → whys ≡ filter_map line_why notes → la ≡ line_aims site
          → CameBack (LineOwes o.line_seen site history) 0 (line_aims site) lp new (take (length site.interfaces) whys)
      served_lines new whys home e ea =
          let back = noted.lines_back new (home ∙ ap (λ (l : List (LineLeft o.D)). filled (map (λ n. n.device) l) lq) noted_lines) in
          subst (λ (w : List LineWhy). CameBack (LineOwes o.line_seen site history) 0 (line_aims site) lp new w) (sym (whys_split whys e ea).0)
          (subst (λ (a : List Aim). CameBack (LineOwes o.line_seen site history) 0 a lp new (map (λ (n : LineLeft o.D). n.why) noted.ls)) ea back)

      pub served_slots : (new : List (Option o.Q)) (whys : List LineWhy) → CameHome the_slot (λ n. n.device) notes sq new
          → whys ≡ filter_map line_why notes → la ≡ line_aims site → sa ≡ slot_aims site
          → CameBack (LineOwes o.door_seen site history) first_slot (slot_aims site) sp new (drop (length site.interfaces) whys)
      served_slots new whys home e ea es =
          let back = noted.slots_back new (home ∙ ap (λ (l : List (LineLeft o.Q)). filled (map (λ n. n.device) l) sq) noted_slots) in
          subst (λ (w : List LineWhy). CameBack (LineOwes o.door_seen site history) first_slot (slot_aims site) sp new w) (sym (whys_split whys e ea).1)
          (subst (λ (a : List Aim). CameBack (LineOwes o.door_seen site history) first_slot a sp new (map (λ (n : LineLeft o.Q). n.why) noted.ss)) es back)

      pub served_desks : (new : List (Option o.Q)) (left : List DeskNote) → CameHome the_desk (λ n. n.door) notes dq new
          → left ≡ filter_map desk_note notes → da ≡ desk_aims site
          → CameBack (DeskDid o.door_seen site history o.rule) first_desk (desk_aims site) dp new left
      served_desks new left home e ed =
          let back = noted.desks_back new (home ∙ ap (λ (l : List (DeskLeft o.Q)). filled (map (λ n. n.door) l) dq) noted_desks) in
          subst (λ (w : List DeskNote). CameBack (DeskDid o.door_seen site history o.rule) first_desk (desk_aims site) dp new w) (sym (e ∙ noted_left))
          (subst (λ (a : List Aim). CameBack (DeskDid o.door_seen site history o.rule) first_desk a dp new (map note_of noted.ks)) ed back)

      -- the scribe has left why it ended, and its vault
      scribe_said : last_of None (map (λ n. n.why) (filter_map the_scribe notes)) ≡ Some noted.c.why
      scribe_said = ap (λ (l : List (ScribeLeft o.V)). last_of None (map (λ n. n.why) l)) noted_scribe

      pub scribe_there : IsSome (last_of None (map (λ n. n.why) (filter_map the_scribe notes)))
      scribe_there = subst IsSome (sym scribe_said) refl

      vault_there : (left now : Option o.V) → now ≡ last_of left (map (λ n. n.vault) (filter_map the_scribe notes)) → now ≡ Some noted.c.vault
      vault_there left now there = there ∙ ap (λ (l : List (ScribeLeft o.V)). last_of left (map (λ n. n.vault) l)) noted_scribe

      pub vault_back : (left now : Option o.V) → now ≡ last_of left (map (λ n. n.vault) (filter_map the_scribe notes)) → IsSome now
      vault_back left now there = subst IsSome (sym (vault_there left now there)) refl

      pub served_scribe : (left now : Option o.V) (why : ScribeWhy) → now ≡ last_of left (map (λ n. n.vault) (filter_map the_scribe notes))
          → last_of None (map (λ n. n.why) (filter_map the_scribe notes)) ≡ Some why
          → ScribeOwes o.vault_seen site digest history place now why
      served_scribe left now why there said =
          let d = noted.owes in
          subst (λ (p : Option o.V). ScribeOwes o.vault_seen site digest history p now why) (sym d.1)
          (subst (λ (v : Option o.V). ScribeOwes o.vault_seen site digest history (Some d.0) v why) (sym (vault_there left now there))
          (subst (λ (w : ScribeWhy). ScribeOwes o.vault_seen site digest history (Some d.0) (Some noted.c.vault) w)
          (some_is noted.c.why why (sym scribe_said ∙ said)) (d.2, d.3)))

      -- which of them were cancelled
      pub flags : (worked : Worked) → worked.lines ≡ filter_map line_why notes → worked.desks ≡ filter_map desk_note notes
          → last_of None (map (λ n. n.why) (filter_map the_scribe notes)) ≡ Some worked.scribe
          → map (was_cancelled {D = o.D} {Q = o.Q} {V = o.V}) notes ≡ cancellations worked
      flags worked el ed ec =
          let p : SiteLeft → Bool = was_cancelled in
          let lines : map is_cancelled worked.lines ≡ map p (map Interface noted.ls) ++ map p (map Slot noted.ss)
          = ap (map is_cancelled) (el ∙ noted_whys) ∙ map-append is_cancelled (map (λ (n : LineLeft o.D). n.why) noted.ls)
          (map (λ (n : LineLeft o.Q). n.why) noted.ss)
          ∙ ap (λ (l : List Bool). l ++ map is_cancelled (map (λ (n : LineLeft o.Q). n.why) noted.ss))
          (map_map is_cancelled (λ (n : LineLeft o.D). n.why) noted.ls ∙ sym (map_map p Interface noted.ls))
          ∙ ap (λ (l : List Bool). map p (map Interface noted.ls) ++ l)
          (map_map is_cancelled (λ (n : LineLeft o.Q). n.why) noted.ss ∙ sym (map_map p Slot noted.ss)) in
          let desks : map (λ (n : DeskNote). is_cancelled_desk n.why) worked.desks ≡ map p (map Desk noted.ks)
          = ap (map (λ (n : DeskNote). is_cancelled_desk n.why)) (ed ∙ noted_left)
          ∙ map_map (λ (n : DeskNote). is_cancelled_desk n.why) note_of noted.ks ∙ sym (map_map p Desk noted.ks) in
          let last : is_cancelled_scribe worked.scribe ≡ p (Scribe noted.c) = ap is_cancelled_scribe
          (sym (some_is noted.c.why worked.scribe (sym scribe_said ∙ ec))) in
          ap (map p) (sym (map-id notes) ∙ noted.are)
          ∙ map-append p (map Interface noted.ls) _ ∙ ap (λ (l : List Bool). map p (map Interface noted.ls) ++ l)
          (map-append p (map Slot noted.ss) _ ∙ ap (λ (l : List Bool). map p (map Slot noted.ss) ++ l) (map-append p (map Desk noted.ks) _))
          ∙ sym (append_assoc (map p (map Interface noted.ls)) (map p (map Slot noted.ss)) _)
          ∙ ap (λ (l : List Bool). l ++ (map p (map Desk noted.ks) ++ p (Scribe noted.c) ∷ [])) (sym lines)
          ∙ ap (λ (l : List Bool). map is_cancelled worked.lines ++ (l ++ p (Scribe noted.c) ∷ [])) (sym desks)
          ∙ ap (λ (b : Bool). map is_cancelled worked.lines ++ (map (λ (n : DeskNote). is_cancelled_desk n.why) worked.desks ++ b ∷ [])) (sym last)

      -- the devices find their places again, those of all notes
      pub find_home : (room : Room) → IsRoom room → (length la ≤ 16) × (length sa ≤ 8) × (length da ≤ 4) → AreThere 16 lp → AreThere 8 sp → AreThere 4 dp
          → FindHome notes lq sq dq room
      find_home room r few tl ts td =
          let many = noted_many in
          let kept = kept_many in
          record {
            lines = omega (arith, many.0, few.0, s.of_lines.long, tl.0);
            slots = omega (arith, many.1, few.1, s.of_slots.long, ts.0);
            desks = omega (arith, many.2, few.2, s.of_desks.long, td.0);
            scribe = scribe_there;
            whys = r.whys;
            whys_room = omega (arith, kept.0, few.0, few.1, r.whys_room);
            left = r.left;
            left_room = omega (arith, kept.1, few.2, r.left_room);
          }

      -- the workers did what they owed, and some jobs more were done of which these were cancelled
      pub served : (more : List Bool) (w : Worked) (lines : List (Option o.D)) (slots desks : List (Option o.Q)) (left now : Option o.V) (crew crew' : CrewSeen)
          → w.history ≡ history → IsSoundSite site → IsKept (server_basis site) history → of_maker server history ≡ []
          → StopsLeaveLogsOf site history digest
          → HaveCome notes lq lines sq slots dq desks left now w → la ≡ line_aims site → sa ≡ slot_aims site → da ≡ desk_aims site
          → crew' ≡ with_cancelled (with_jobs crew (length tasks + length more)) (count_by is_set (map (was_cancelled {D = o.D} {Q = o.Q} {V = o.V}) notes ++ more))
          → (crew.in_turn ≡ true → CancelledFrom is_set crew.refused 0 (map (was_cancelled {D = o.D} {Q = o.Q} {V = o.V}) notes ++ more))
          → ServedBy o.line_seen o.door_seen o.vault_seen site o.rule more digest w lp lines sp slots dp desks place now crew crew'
      served more w lines slots desks left now crew crew' eh sound legal quiet readable came ea es ed jobs_are exact_are =
          let p : SiteLeft → Bool = was_cancelled in
          let f : map p notes ≡ cancellations w = flags w came.whys came.left came.scribe in
          record {
            sound = sound;
            legal = subst (λ (h : List Entry). IsKept (server_basis site) h) (sym eh) legal;
            silent = ap (of_maker server) eh ∙ quiet;
            readable = subst (λ (h : List Entry). StopsLeaveLogsOf site h digest) (sym eh) readable;
            interfaces = subst (λ (h : List Entry). CameBack (LineOwes o.line_seen site h) 0 (line_aims site) lp lines
                (take (length site.interfaces) w.lines)) (sym eh) (served_lines lines w.lines came.lines came.whys ea);
            slots = subst (λ (h : List Entry). CameBack (LineOwes o.door_seen site h) first_slot (slot_aims site) sp slots
                (drop (length site.interfaces) w.lines)) (sym eh) (served_slots slots w.lines came.slots came.whys ea es);
            desks = subst (λ (h : List Entry). CameBack (DeskDid o.door_seen site h o.rule) first_desk (desk_aims site) dp desks w.desks) (sym eh)
                (served_desks desks w.desks came.desks came.left ed);
            scribe = subst (λ (h : List Entry). ScribeOwes o.vault_seen site digest h place now w.scribe) (sym eh)
                (served_scribe left now w.scribe came.vault came.scribe);
            jobs = jobs_are
                ∙ ap (λ (n : ℕ). with_cancelled (with_jobs crew (n + length more)) (count_by is_set (map p notes ++ more))) (jobs ea es ed)
                ∙ ap (λ (l : List Bool). with_cancelled (with_jobs crew (worker_count site + length more)) (count_by is_set (l ++ more))) f;
            exact = λ in_turn. subst (λ (l : List Bool). CancelledFrom is_set crew.refused 0 (l ++ more)) f (exact_are in_turn);
          }

      pub served_back : (w : Worked) (lines : List (Option o.D)) (slots desks : List (Option o.Q)) (left now : Option o.V)
          → HaveCome notes lq lines sq slots dq desks left now w
          → la ≡ line_aims site → sa ≡ slot_aims site → da ≡ desk_aims site → AreThere 16 lp → AreThere 8 sp → AreThere 4 dp
          → AreThere 16 lines × AreThere 8 slots × AreThere 4 desks × IsSome now
      served_back w lines slots desks left now came ea es ed tl ts td = (
        came_there (LineOwes o.line_seen site history) 0 16 (line_aims site) lp lines _ (served_lines lines w.lines came.lines came.whys ea) tl,
        came_there (LineOwes o.door_seen site history) 16 8 (slot_aims site) sp slots _ (served_slots slots w.lines came.slots came.whys ea es) ts,
        came_there (DeskDid o.door_seen site history o.rule) 24 4 (desk_aims site) dp desks _ (served_desks desks w.desks came.desks came.left ed) td,
        vault_back left now came.vault,
      )

-- ---- the tasks are those of the site

pub staff_of : (o : Outfit) (site : SiteData) {place : Option o.V} {la sa da : List Aim} {lp lq : List (Option o.D)} {sp sq dp dq : List (Option o.Q)}
    {tasks : List (Task (SiteWork o site []))} → la ≡ line_aims site → sa ≡ slot_aims site → da ≡ desk_aims site
    → SiteStaff o site [] place la sa da lp lq sp sq dp dq tasks
    → IsStaff o.line_seen o.door_seen o.vault_seen o.shape site place lp lq sp sq dp dq tasks
staff_of o site {place} {la} {sa} {da} {lp} {lq} {sp} {sq} {dp} {dq} {tasks} ea es ed s =
    subst (λ (l : List Aim). SiteStaff o site [] place l (slot_aims site) (desk_aims site) lp lq sp sq dp dq tasks) ea
    (subst (λ (l : List Aim). SiteStaff o site [] place la l (desk_aims site) lp lq sp sq dp dq tasks) es
    (subst (λ (l : List Aim). SiteStaff o site [] place la sa l lp lq sp sq dp dq tasks) ed s))

-- ---- how many there are

pub aims_few : (site : SiteData) (la sa da : List Aim) → IsSoundSite site → la ≡ line_aims site → sa ≡ slot_aims site → da ≡ desk_aims site
    → (length la ≤ 16) × (length sa ≤ 8) × (length da ≤ 4)
aims_few site la sa da sound ea eb ed =
    let a = line_aims_count site in
    let b = slot_aims_count site in
    let d = desk_aims_count site in
    (omega (arith, ap length ea, a, sound.few_interfaces), omega (arith, ap length eb, b, sound.few_routers), omega (arith, ap length ed, d, sound.few_desks))

-- ---- the doors in two parts

pub front_of : {X : Type 0} (n : ℕ) (all front back : List X) → all ≡ front ++ back → length front ≡ n → (take n all ≡ front) × (drop n all ≡ back)
front_of n all front back e many = (ap (take n) e ∙ take_at front back n many, ap (drop n) e ∙ drop_at front back n many)

-- what a part of a list that was lent whole leaves
pub written : {X : Type 0} (n : ℕ) (old new : List X) → length new ≡ n → take n (new ++ drop (length new) old) ≡ new
written n old new many = take_at new (drop (length new) old) n many

there_split : {X : Type 0} (front back : List (Option X)) → AllByRecursion IsThere (front ++ back) → AllByRecursion IsThere front × AllByRecursion IsThere back
there_split [] back all = (tt, all)
there_split (p ∷ front) back all = let h = there_split front back all.1 in ((all.0, h.0), h.1)

pub doors_there : {X : Type 0} (all front back : List (Option X)) → all ≡ front ++ back → length front ≡ 8 → AreThere 12 all → AreThere 8 front
    × AreThere 4 back
doors_there all front back e many there =
    let h = there_split front back (subst (λ (l : List (Option _)). AllByRecursion IsThere l) e there.1) in
    let n = ap length e ∙ length-append front back in
    ((many, h.0), (omega (arith, n, many, there.0), h.1))

module _ {D Q V : Type 0} (line_seen : D → LineSeen) (door_seen : Q → LineSeen) (vault_seen : V → VaultSeen) (own site : SiteData) (same : own ≡ site)
    (lines lines' dialers dialers' : List (Option D)) (doors doors' slots slots' desks desks' : List (Option Q)) (line_parts : lines ≡ dialers)
    (line_parts' : lines' ≡ dialers')
    (parts : doors ≡ slots ++ desks) (front : length slots ≡ 8) (parts' : doors' ≡ slots' ++ desks') (front' : length slots' ≡ 8)
    (vault vault' : Option V) (crew crew' : CrewSeen) where
  -- what is said of the parts of the doors is said of all of them
  pub served_whole : (digest : List ℕ) (w : Worked) → ServedParts line_seen door_seen vault_seen own digest w lines lines' slots slots' desks desks'
      vault vault' crew crew'
      → HasServed line_seen door_seen vault_seen site digest w dialers dialers' doors doors' vault vault' crew crew'
  served_whole digest w s =
      let was = front_of 8 doors slots desks parts front in
      let now = front_of 8 doors' slots' desks' parts' front' in
      subst (λ (l : List (Option Q)). ServedParts line_seen door_seen vault_seen site digest w dialers dialers' l (take 8 doors') (drop 8 doors)
      (drop 8 doors') vault vault' crew crew') (sym was.0)
      (subst (λ (l : List (Option Q)). ServedParts line_seen door_seen vault_seen site digest w dialers dialers' slots l (drop 8 doors)
      (drop 8 doors') vault vault' crew crew') (sym now.0)
      (subst (λ (l : List (Option Q)). ServedParts line_seen door_seen vault_seen site digest w dialers dialers' slots slots' l
      (drop 8 doors') vault vault' crew crew') (sym was.1)
      (subst (λ (l : List (Option Q)). ServedParts line_seen door_seen vault_seen site digest w dialers dialers' slots slots' desks l vault vault'
      crew crew') (sym now.1)
      (subst (λ (l : List (Option D)). ServedParts line_seen door_seen vault_seen site digest w l dialers' slots slots' desks desks' vault vault' crew
      crew') line_parts
      (subst (λ (l : List (Option D)). ServedParts line_seen door_seen vault_seen site digest w lines l slots slots' desks desks' vault vault' crew
      crew') line_parts'
      (subst (λ (x : SiteData). ServedParts line_seen door_seen vault_seen x digest w lines lines' slots slots' desks desks' vault vault' crew crew')
      same s))))))

  pub idled_whole : IdledParts line_seen door_seen vault_seen own lines lines' slots slots' desks desks' vault vault' crew crew'
      → HasIdled line_seen door_seen vault_seen site dialers dialers' doors doors' vault vault' crew crew'
  idled_whole s =
      let was = front_of 8 doors slots desks parts front in
      let now = front_of 8 doors' slots' desks' parts' front' in
      subst (λ (l : List (Option Q)). IdledParts line_seen door_seen vault_seen site dialers dialers' l (take 8 doors') (drop 8 doors)
      (drop 8 doors') vault vault' crew crew') (sym was.0)
      (subst (λ (l : List (Option Q)). IdledParts line_seen door_seen vault_seen site dialers dialers' slots l (drop 8 doors)
      (drop 8 doors') vault vault' crew crew') (sym now.0)
      (subst (λ (l : List (Option Q)). IdledParts line_seen door_seen vault_seen site dialers dialers' slots slots' l
      (drop 8 doors') vault vault' crew crew') (sym was.1)
      (subst (λ (l : List (Option Q)). IdledParts line_seen door_seen vault_seen site dialers dialers' slots slots' desks l vault vault' crew crew') (sym now.1)
      (subst (λ (l : List (Option D)). IdledParts line_seen door_seen vault_seen site l dialers' slots slots' desks desks' vault vault' crew crew') line_parts
      (subst (λ (l : List (Option D)). IdledParts line_seen door_seen vault_seen site lines l slots slots' desks desks' vault vault' crew crew') line_parts'
      (subst (λ (x : SiteData). IdledParts line_seen door_seen vault_seen x lines lines' slots slots' desks desks' vault vault' crew crew') same s))))))

pub on_err : {T E : Type 0} (result : Result T E) (P : Type 0) → P → OnErr result P
on_err (Ok x) P p = tt
on_err (Err e) P p = p

-- a result's value or its error, by what it was made of
pub ok_as : {T E : Type 0} (result : Result T E) (P Q : T → Type 0) → ((x : T) → P x → Q x) → IfOk result P → IfOk result Q
ok_as (Ok x) P Q f p = f x p
ok_as (Err e) P Q f p = tt

pub err_as : {T E : Type 0} (result : Result T E) (P Q : Type 0) → (P → Q) → OnErr result P → OnErr result Q
err_as (Ok x) P Q f p = tt
err_as (Err e) P Q f p = f p
