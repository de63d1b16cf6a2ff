-- The clauses of a server, by whether it was started.
use Rattle.std.proofs.Common.{◌≡◌, ◌≢◌, ℕ, ◌<◌, ◌≤◌, true, false, List, [], ◌∷◌, Option, Some, None, IfSome, Result, Ok, Err, refl, sym, ◌∙◌, ap}
use Rattle.std.proofs.Common.{subst, arith, ◌⊎◌, inl, inr}
use Rattle.std.specs.Option.{option_or}
use Rattle.std.specs.Prelude.{IsSome, IsSomeAnd, is_some, option_map}
use Rattle.cts_def.specs.Sites.{SiteData}
use Rattle.cts_def.specs.declared.proto_spec.Kind.{Kind}
use Rattle.cts_server.specs.Troubles.{has_closed}
use Rattle.cts_server.specs.declared.outcome.trouble.Trouble.{Trouble}
use Rattle.cts_server.specs.declared.outcome.trouble.Trouble.TheVariants as trouble
use Rattle.cts_entry.specs.Histories.{entries_in}
use Rattle.cts_entry.specs.Legal.{most_entries}
use Rattle.cts_entry.specs.declared.entry.Entry.{Entry}
use Rattle.cts_outside.specs.Causes.{Rose, Steady, raised}
use Rattle.cts_outside.specs.Seen.{LineSeen, SinkSeen, VaultSeen}
use Rattle.cts_proto.specs.Meaning.{Meaning}
use Rattle.cts_scribe.specs.declared.ending.ScribeWhy.{ScribeWhy}
use Rattle.cts_run.specs.Acts.{Act}
use Rattle.cts_run.specs.Command.{ShelfAt, ShelfBy, first_phases}
use Rattle.cts_run.specs.Endings.{EndsHalted, halt_status}
use Rattle.cts_run.specs.Laws.{IsShortOf}
use Rattle.cts_run.specs.Load.{site_asked, site_phases}
use Rattle.cts_run.specs.Phases.{Phase, first_halt}
use Rattle.cts_serve.specs.Served.{DialFailedIn, LeftNothing, VaultIsSteady, VaultRose, serves_on, trouble_status}
use Rattle.cts_serve.specs.Serving.{HaltsServing, UnstartedBy}
use Rattle.cts_run.specs.Start.{shelf_phase, short_halt, short_kind}
use Rattle.cts_run.specs.declared.halt.Halt.{Halt}
use Rattle.cts_run.specs.declared.halt.Halt.TheVariants as halt
use Rattle.cts_run.specs.declared.halt.status.Status.{Status}
use Rattle.cts_serve.specs.declared.serving.ended.Ended.{Ended}
use Rattle.cts_run.specs.declared.halt.status.Status.TheVariants as is
use Rattle.cts_run.proofs.CommandLemmas.{halts_so, never_some, steady_rose}
use Rattle.cts_run.proofs.LawLemmas.{short_where}
use Rattle.cts_run.proofs.PhaseLemmas.{first_past}

-- ---- it was not started

module _ (ps : List Phase) (status : Status) (old new : SinkSeen) (k : HaltsServing ps status old new) where
  -- the status of a phase's reason
  by_phase : (h : Halt) (mid : SinkSeen) → UnstartedBy ps h old mid → EndsHalted h status mid new → status ≢ is.Memory → status ≢ is.ReadFault
      → status ≢ is.WriteFault → (f : Halt) × (first_halt ps ≡ Some f) × (status ≡ halt_status f)
  by_phase h mid u (inr e) m r w = absurd (m e.1)
  by_phase halt.Memory mid u (inl e) m r w = absurd (m e.0)
  by_phase (halt.ReadFault name) mid u (inl e) m r w = absurd (r e.0)
  by_phase halt.WriteFault mid u (inl e) m r w = absurd (w e.0)
  by_phase halt.LogFault mid u (inl e) m r w = absurd u.0
  by_phase (halt.Absent name) mid u (inl e) m r w = (halt.Absent name, u.0, e.0)
  by_phase (halt.Refused name kind line cause) mid u (inl e) m r w = (halt.Refused name kind line cause, u.0, e.0)
  by_phase (halt.ShelfEmpty kind needed stocked) mid u (inl e) m r w = (halt.ShelfEmpty kind needed stocked, u.0, e.0)
  by_phase (halt.HistoryFull entries bytes) mid u (inl e) m r w = (halt.HistoryFull entries bytes, u.0, e.0)
  by_phase (halt.LogRefused place) mid u (inl e) m r w = (halt.LogRefused place, u.0, e.0)
  by_phase (halt.UnknownName name) mid u (inl e) m r w = (halt.UnknownName name, u.0, e.0)
  by_phase (halt.HubRefused cause) mid u (inl e) m r w = (halt.HubRefused cause, u.0, e.0)
  by_phase halt.Misused mid u (inl e) m r w = (halt.Misused, u.0, e.0)

  pub phase_status : status ≢ is.Memory → status ≢ is.ReadFault → status ≢ is.WriteFault → (f : Halt) × (first_halt ps ≡ Some f) × (status ≡ halt_status f)
  phase_status m r w = by_phase k.halt k.mid k.halts k.ends m r w

  same_status : (h f : Halt) → first_halt ps ≡ Some h → first_halt ps ≡ Some f → halt_status h ≡ halt_status f
  same_status h f g e = cc (sym g ∙ e)

  -- a phase has this reason, so that no other comes
  by_reason : (f h : Halt) (mid : SinkSeen) → first_halt ps ≡ Some f → UnstartedBy ps h old mid → EndsHalted h status mid new → status ≢ is.ReadFault
      → (status ≡ halt_status f) ⊎ (status ≡ is.Memory)
  by_reason f h mid e u (inr t) r = inr t.1
  by_reason f halt.Memory mid e u (inl t) r = inr t.0
  by_reason f (halt.ReadFault name) mid e u (inl t) r = absurd (r t.0)
  by_reason f halt.WriteFault mid e u (inl t) r = never_some ps f u.0 e
  by_reason f halt.LogFault mid e u (inl t) r = absurd u.0
  by_reason f (halt.Absent name) mid e u (inl t) r = inl (t.0 ∙ same_status (halt.Absent name) f u.0 e)
  by_reason f (halt.Refused name kind line cause) mid e u (inl t) r = inl (t.0 ∙ same_status (halt.Refused name kind line cause) f u.0 e)
  by_reason f (halt.ShelfEmpty kind needed stocked) mid e u (inl t) r = inl (t.0 ∙ same_status (halt.ShelfEmpty kind needed stocked) f u.0 e)
  by_reason f (halt.HistoryFull entries bytes) mid e u (inl t) r = inl (t.0 ∙ same_status (halt.HistoryFull entries bytes) f u.0 e)
  by_reason f (halt.LogRefused place) mid e u (inl t) r = inl (t.0 ∙ same_status (halt.LogRefused place) f u.0 e)
  by_reason f (halt.UnknownName name) mid e u (inl t) r = inl (t.0 ∙ same_status (halt.UnknownName name) f u.0 e)
  by_reason f (halt.HubRefused cause) mid e u (inl t) r = inl (t.0 ∙ same_status (halt.HubRefused cause) f u.0 e)
  by_reason f halt.Misused mid e u (inl t) r = inl (t.0 ∙ same_status halt.Misused f u.0 e)

  pub reason_status : (f : Halt) → first_halt ps ≡ Some f → status ≢ is.ReadFault → (status ≡ halt_status f) ⊎ (status ≡ is.Memory)
  reason_status f e r = by_reason f k.halt k.mid e k.halts k.ends r

  -- no phase has one
  by_none : (h : Halt) (mid : SinkSeen) → first_halt ps ≡ None → UnstartedBy ps h old mid → EndsHalted h status mid new → status ≢ is.ReadFault
      → status ≢ is.WriteFault → status ≡ is.Memory
  by_none h mid e u (inr t) r w = t.1
  by_none halt.Memory mid e u (inl t) r w = t.0
  by_none (halt.ReadFault name) mid e u (inl t) r w = absurd (r t.0)
  by_none halt.WriteFault mid e u (inl t) r w = absurd (w t.0)
  by_none halt.LogFault mid e u (inl t) r w = absurd u.0
  by_none (halt.Absent name) mid e u (inl t) r w = never_some ps (halt.Absent name) e u.0
  by_none (halt.Refused name kind line cause) mid e u (inl t) r w = never_some ps (halt.Refused name kind line cause) e u.0
  by_none (halt.ShelfEmpty kind needed stocked) mid e u (inl t) r w = never_some ps (halt.ShelfEmpty kind needed stocked) e u.0
  by_none (halt.HistoryFull entries bytes) mid e u (inl t) r w = never_some ps (halt.HistoryFull entries bytes) e u.0
  by_none (halt.LogRefused place) mid e u (inl t) r w = never_some ps (halt.LogRefused place) e u.0
  by_none (halt.UnknownName name) mid e u (inl t) r w = never_some ps (halt.UnknownName name) e u.0
  by_none (halt.HubRefused cause) mid e u (inl t) r w = never_some ps (halt.HubRefused cause) e u.0
  by_none halt.Misused mid e u (inl t) r w = never_some ps halt.Misused e u.0

  pub none_status : first_halt ps ≡ None → status ≢ is.ReadFault → status ≢ is.WriteFault → status ≡ is.Memory
  none_status e r w = by_none k.halt k.mid e k.halts k.ends r w

-- ---- the shelf

module _ (stock : List Meaning) (all : List ℕ → Option (List ℕ)) (definitions site : List ℕ) where
  abbrev nothing : List Act → Result (Unit {0}) Halt → Type 0
  nothing acts due = ⊥

  pub short_by : (f : Halt) → first_halt (first_phases stock all definitions site) ≡ Some f → halt_status f ≡ is.ShelfEmpty
      → IsShortOf stock all definitions site
  short_by f e s = short_where stock all definitions site (site_asked all definitions site) [] nothing (λ acts due m h. m) [] (Err f)
      (halts_so (first_phases stock all definitions site) nothing f e) s

  -- the reason of the phases where it is short
  pub short_reason : (s : IsShortOf stock all definitions site) → first_halt (first_phases stock all definitions site) ≡ Some
      (short_halt stock (site_asked all definitions site) s.kind)
  short_reason s =
      let x = site_asked all definitions site in
      first_past (site_phases all definitions site) (shelf_phase stock x ∷ []) s.taken ∙ short_alone x s.kind s.short
    where
      short_alone : (x : SiteData) (kind : Kind) → short_kind stock x ≡ Some kind → first_halt (shelf_phase stock x ∷ []) ≡ Some (short_halt stock x kind)
      short_alone x kind e = ap (λ (t : Option Kind). option_or (option_map (short_halt stock x) t) None) e

-- the boxes of all chains are gone where it was started
pub shelf_started : (site : SiteData) (first : Option Halt) (status : Status) (old new : List Meaning) → first ≡ None → ShelfBy site first
    (Ok tt) old new → ShelfAt site first status old new
shelf_started site (Some h) status old new e k = k
shelf_started site None is.Ok old new e k = k
shelf_started site None is.Memory old new e k = inr k
shelf_started site None is.Usage old new e k = k
shelf_started site None is.ReadFault old new e k = inr k
shelf_started site None is.Absent old new e k = k
shelf_started site None is.WriteFault old new e k = k
shelf_started site None is.ConfigRefused old new e k = k
shelf_started site None is.ShelfEmpty old new e k = k
shelf_started site None is.ScriptRefused old new e k = k
shelf_started site None is.HistoryFull old new e k = k
shelf_started site None is.LogFault old new e k = k
shelf_started site None is.LogRefused old new e k = k
shelf_started site None is.NoWorker old new e k = k
shelf_started site None is.DoorFault old new e k = k
shelf_started site None is.UnknownName old new e k = k
shelf_started site None is.HubRefused old new e k = k

-- ---- it was started, and nothing failed

module _ {Q V : Type 0} (door_seen : Q → LineSeen) (vault_seen : V → VaultSeen) (doors doors' : List (Option Q)) (vault vault' : Option V)
    (before now : ℕ) (old new : SinkSeen) (history : List Entry) where
  vault_not : (v v' : Option V) → VaultRose vault_seen v v' → VaultIsSteady vault_seen v v' → ⊥
  vault_not (Some x) (Some y) r s = steady_rose (vault_seen x).faults (vault_seen y).faults s r
  vault_not (Some x) None r s = r
  vault_not None v' r s = r

  pub complete_by : (t : Option Trouble) → Steady old.faults new.faults → VaultIsSteady vault_seen vault vault' → Steady before now
      → (DialFailedIn door_seen doors doors' → ⊥) → has_closed trouble.HistoryFull history ≡ false → entries_in history < most_entries
      → (trouble_status t ≡ is.WriteFault → Rose old.faults new.faults) → (trouble_status t ≡ is.LogFault → VaultRose vault_seen vault vault')
      → (trouble_status t ≡ is.NoWorker → raised before ≤ now)
      → (trouble_status t ≡ is.DoorFault → DialFailedIn door_seen doors doors')
      → (trouble_status t ≡ is.HistoryFull → (has_closed trouble.HistoryFull history ≡ true) ⊎ (entries_in history ≡ most_entries))
      → (trouble_status t ≡ is.Ok) ⊎ (trouble_status t ≡ is.Memory)
  complete_by None put kept jobs dials closed room write log worker door full = inl refl
  complete_by (Some trouble.Memory) put kept jobs dials closed room write log worker door full = inr refl
  complete_by (Some trouble.WriteFault) put kept jobs dials closed room write log worker door full = absurd (steady_rose old.faults new.faults put (write refl))
  complete_by (Some trouble.LogFault) put kept jobs dials closed room write log worker door full = absurd (vault_not vault vault' (log refl) kept)
  complete_by (Some trouble.NoWorker) put kept jobs dials closed room write log worker door full = let r = worker refl in absurd (omega (arith, r, jobs))
  complete_by (Some trouble.DoorFault) put kept jobs dials closed room write log worker door full = absurd (dials (door refl))
  complete_by (Some trouble.HistoryFull) put kept jobs dials closed room write log worker door full = elim (full refl) [
    | inl c ↦ absurd (cc (sym c ∙ closed))
    | inr e ↦ absurd (omega (arith, e, room))
  ]

-- ---- what a server leaves that was not started

module _ (e : Ended) (off : serves_on e.status ≡ false) (nothing : LeftNothing e) where
  pub un_status : {A : Type 0} (s : Status) → serves_on s ≡ true → e.status ≡ s → A
  un_status s on same = absurd (cc (sym off ∙ (ap serves_on same ∙ on)))

  pub un_started : serves_on e.status ≡ true → IsSome e.scribe
  un_started on = absurd (cc (sym off ∙ on))

  pub un_there : {A : Type 0} → IsSome e.scribe → A
  un_there some = none_there e.scribe nothing.scribe some
    where
      none_there : {A : Type 0} (o : Option ScribeWhy) → o ≡ None → IsSome o → A
      none_there None same some = absurd (cc some)
      none_there (Some x) same some = absurd (cc same)

  pub un_if : (P : ScribeWhy → Type 0) → IfSome e.scribe P
  un_if P = subst (λ (o : Option ScribeWhy). IfSome o P) (sym nothing.scribe) tt

  pub un_full : {A : Type 0} → has_closed trouble.HistoryFull e.history ≡ true → A
  un_full closed = absurd (cc (sym closed ∙ ap (has_closed trouble.HistoryFull) nothing.history))

-- ---- what one leaves whose workers have worked

module _ (e : Ended) (scribe : ScribeWhy) (there : e.scribe ≡ Some scribe) where
  pub in_there : IsSome e.scribe
  in_there = ap is_some there

  pub in_if : (P : ScribeWhy → Type 0) → P scribe → IfSome e.scribe P
  in_if P p = subst (λ (o : Option ScribeWhy). IfSome o P) (sym there) p

  pub in_none : {A : Type 0} → e.scribe ≡ None → A
  in_none none = absurd (cc (sym there ∙ none))

-- ---- of the files that are told and of the words

module _ (told : Option (List ℕ → Option (List ℕ))) (asked : Option (List ℕ × List ℕ)) (names : List ℕ × List ℕ) (is : asked ≡ Some names) where
  abbrev Of : Type 1
  Of = (List ℕ → Option (List ℕ)) → List ℕ × List ℕ → Type 0

  pub told_asked : (P : Of) → IfSome told (λ all. P all names) → IfSome told (λ all. IfSome asked (P all))
  told_asked P k = subst (λ (o : Option (List ℕ × List ℕ)). IfSome told (λ all. IfSome o (P all))) (sym is) k

  pub told_is_asked : (P : Of) → IfSome told (λ all. P all names) → IfSome told (λ all. IsSomeAnd asked (P all))
  told_is_asked P k = subst (λ (o : Option (List ℕ × List ℕ)). IfSome told (λ all. IsSomeAnd o (P all))) (sym is) k

  pub asked_not : {A : Type 0} → asked ≡ None → A
  asked_not none = absurd (cc (sym is ∙ none))

pub told_unasked : (told : Option (List ℕ → Option (List ℕ))) (asked : Option (List ℕ × List ℕ))
    (P : (List ℕ → Option (List ℕ)) → List ℕ × List ℕ → Type 0) → asked ≡ None → IfSome told (λ all. IfSome asked (P all))
told_unasked None asked P none = tt
told_unasked (Some all) asked P none = subst (λ (o : Option (List ℕ × List ℕ)). IfSome o (P all)) (sym none) tt

-- what holds of all files that are told, by what else does
pub told_both : (told : Option (List ℕ → Option (List ℕ))) (P Q R : (List ℕ → Option (List ℕ)) → Type 0)
    → ((all : List ℕ → Option (List ℕ)) → P all → Q all → R all) → IfSome told P → IfSome told Q → IfSome told R
told_both None P Q R f p q = tt
told_both (Some all) P Q R f p q = f all p q

pub told_one : (told : Option (List ℕ → Option (List ℕ))) (P R : (List ℕ → Option (List ℕ)) → Type 0)
    → ((all : List ℕ → Option (List ℕ)) → P all → R all) → IfSome told P → IfSome told R
told_one None P R f p = tt
told_one (Some all) P R f p = f all p

-- what a server halts for, and how it ends then
pub halts_serving : (ps : List Phase) (h : Halt) (status : Status) (old mid new : SinkSeen) → UnstartedBy ps h old mid → EndsHalted h status mid new
    → HaltsServing ps status old new
halts_serving ps h status old mid new u e = record { halt = h; mid = mid; halts = u; ends = e }
