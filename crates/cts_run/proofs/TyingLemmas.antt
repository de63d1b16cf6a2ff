-- What is tied, and why a command halts at it.
use Rattle.std.proofs.Common.{◌≡◌, ◌≤◌, ◌<◌, ℕ, zero, suc, Bool, true, false, cond, List, [], ◌∷◌, length, Option, Some, None, option_map, Result, Ok, Err, refl, sym, ◌∙◌, ap, subst, arith}
use Rattle.std.specs.Prelude.{slice_get}
use Rattle.std.specs.Option.{option_or}
use Rattle.cts_connection.proofs.Placing.{slot_tells}
use Rattle.cts_def.specs.Makers.{router_of}
use Rattle.cts_def.specs.Sites.{InterfaceData, IsSoundSite, RouterData, SiteData}
use Rattle.cts_entry.specs.Workers.{is_slot}
use Rattle.cts_hub.specs.Ties.{HubIs, chains_fit, missing_target}
use Rattle.cts_hub.specs.declared.hub.HubFault.{HubFault}
use Rattle.cts_hub.specs.declared.hub.HubFault.TheVariants.{Chain, Definitions, Target}
use Rattle.cts_ident_laws.specs.Named.{HaveNames}
use Rattle.cts_play_laws.specs.Keeping.{HaveStages}
use Rattle.cts_play_laws.proofs.Tied.{hubs_are_tied}
use Rattle.cts_run.specs.Hub.{cause_by, ends_of, names_halt, target_cause, tie_cause, tie_halt, tie_phases}
use Rattle.cts_run.specs.Hubbing.{IsMadeTie, IsTieHalt, MakesTie, TiesEnds}
use Rattle.cts_run.specs.Phases.{HaltCounts, first_halt}
use Rattle.cts_run.specs.Putting.{HaltFaults, HaltLogs}
use Rattle.cts_outside.specs.Seen.{FilesSeen, SinkSeen, VaultSeen}
use Rattle.cts_run.specs.Tie.{TieData}
use Rattle.cts_run.specs.declared.halt.Halt.{Halt}
use Rattle.cts_run.specs.declared.halt.Halt.TheVariants as halt
use Rattle.cts_run.specs.declared.halt.hub_cause.HubCause.{HubCause}
use Rattle.cts_run.specs.declared.halt.hub_cause.HubCause.TheVariants as hub
use Rattle.cts_run.specs.declared.hub.ends.Ends.{Ends}
use Rattle.cts_run.specs.declared.hub.tying.Tied.{Tied}

some_at : {X : Type 0} (xs : List X) (k : ℕ) → k < length xs → (x : X) × (slice_get xs k ≡ Some x)
some_at [] k h = absurd (omega (arith, h))
some_at (x ∷ xs) zero h = (x, refl)
some_at (x ∷ xs) (suc k) h = some_at xs k (omega (arith, h))

module _ (above below : SiteData) (ends : Ends) (slot : is_slot above ends.slot ≡ true) (within : ends.interface < length below.interfaces) where
  -- the router and the interface are there
  router : (r : RouterData) × (slice_get above.routers (router_of ends.slot) ≡ Some r)
  router = some_at above.routers (router_of ends.slot) (slot_tells above ends.slot slot).1

  interface : (i : InterfaceData) × (slice_get below.interfaces ends.interface ≡ Some i)
  interface = some_at below.interfaces ends.interface within

  -- what an attempt to tie them answers
  abbrev pub Answers : Result ℕ HubFault → Type 0
  Answers answer = (r : RouterData) (i : InterfaceData) → slice_get above.routers (router_of ends.slot) ≡ Some r → slice_get below.interfaces ends.interface ≡ Some i → HubIs above r below i ends.interface answer

  own : (answer : Result ℕ HubFault) → Answers answer → HubIs above router.0 below interface.0 ends.interface answer
  own answer a = a router.0 interface.0 router.1 interface.1

  cause_is : tie_cause above below ends ≡ cause_by above (Some router.0) (Some interface.0)
  cause_is = ap (λ (r : Option RouterData). cause_by above r (slice_get below.interfaces ends.interface)) router.1 ∙ ap (cause_by above (Some router.0)) interface.1

  fitting : (b : Bool) → chains_fit router.0.chain interface.0.chain ≡ b → cause_by above (Some router.0) (Some interface.0) ≡ cond b (target_cause (missing_target above router.0 interface.0)) (Some hub.Chain)
  fitting b e = ap (λ (c : Bool). cond c (target_cause (missing_target above router.0 interface.0)) (Some hub.Chain)) e

  pub tie_made : (hub : ℕ) → Answers (Ok hub) → IsSoundSite above → IsSoundSite below → HaveStages above → HaveNames below.definitions → TiesEnds above below ends (Ok (record { hub = hub; ends = ends }))
  tie_made hub a sound sound_below stages names =
      let h = own (Ok hub) a in
      let tied = hubs_are_tied above below ends.slot ends.interface hub router.0 interface.0 sound sound_below names slot router.1 interface.1 h in (
        cause_is ∙ (fitting true h.1 ∙ ap target_cause h.3),
        h.0,
        refl,
        record { sound = sound; heads = tied.0; tied = tied.1; slot = slot; stages = stages },
      )

  pub chain_apart : Answers (Err Chain) → TiesEnds above below ends (Err (halt.HubRefused hub.Chain))
  chain_apart a = cause_is ∙ fitting false (own (Err Chain) a)

  pub target_missing : (name : List ℕ) → Answers (Err (Target name)) → TiesEnds above below ends (Err (halt.HubRefused hub.Target))
  target_missing name a =
      let h = own (Err (Target name)) a in
      cause_is ∙ (fitting true h.0 ∙ ap target_cause h.2)

  pub never_differ : above.definitions ≡ below.definitions → Answers (Err Definitions) → ⊥
  never_differ same a = (own (Err Definitions) a).1 same

-- ---- the phases of the tie

module _ (above below : SiteData) (tie : TieData) where
  first_tie : (o : Option Ends) → ends_of above below tie ≡ o → first_halt (tie_phases above below tie) ≡ option_or (names_halt o) (option_or (tie_halt above below o) None)
  first_tie o e = ap (λ (x : Option Ends). option_or (names_halt x) (option_or (tie_halt above below x) None)) e

  pub unnamed : ends_of above below tie ≡ None → first_halt (tie_phases above below tie) ≡ Some halt.Misused
  unnamed e = first_tie None e

  pub named_cause : (ends : Ends) (c : Option HubCause) → ends_of above below tie ≡ Some ends → tie_cause above below ends ≡ c → first_halt (tie_phases above below tie) ≡ option_or (option_map halt.HubRefused c) None
  named_cause ends c e f = first_tie (Some ends) e ∙ ap (λ (x : Option HubCause). option_or (option_map halt.HubRefused x) None) f

  pub ties_give : (ends : Ends) (answer : Result Tied Halt) → ends_of above below tie ≡ Some ends → 1 ≤ ends.cut → ends.cut ≤ 65536 → TiesEnds above below ends answer → MakesTie above below tie answer
  ties_give ends (Ok t) e least most k = (
    named_cause ends None e k.0,
    subst (λ (x : Ends). IsMadeTie above below tie t.hub x) (sym k.2) (record { named = e; hub_is = k.1; least = least; most = most; tied = k.3 }),
  )
  ties_give ends (Err halt.Memory) e least most k = (tt, tt)
  ties_give ends (Err (halt.HubRefused cause)) e least most k = (named_cause ends (Some cause) e k, tt)
  ties_give ends (Err (halt.ReadFault name)) e least most k = absurd k
  ties_give ends (Err (halt.Absent name)) e least most k = absurd k
  ties_give ends (Err halt.WriteFault) e least most k = absurd k
  ties_give ends (Err halt.LogFault) e least most k = absurd k
  ties_give ends (Err (halt.Refused name kind line cause)) e least most k = absurd k
  ties_give ends (Err (halt.ShelfEmpty kind needed stocked)) e least most k = absurd k
  ties_give ends (Err (halt.HistoryFull entries bytes)) e least most k = absurd k
  ties_give ends (Err (halt.LogRefused place)) e least most k = absurd k
  ties_give ends (Err (halt.UnknownName name)) e least most k = absurd k
  ties_give ends (Err halt.Misused) e least most k = absurd k

  pub misuse_gives : ends_of above below tie ≡ None → MakesTie above below tie (Err halt.Misused)
  misuse_gives e = (unnamed e, tt)

-- no count rises there
pub tie_files : (h : Halt) (files : FilesSeen) → IsTieHalt h → HaltCounts h files files
tie_files halt.Memory files k = (refl, refl)
tie_files (halt.HubRefused cause) files k = (refl, refl)
tie_files halt.Misused files k = (refl, refl)
tie_files (halt.ReadFault name) files k = absurd k
tie_files (halt.Absent name) files k = absurd k
tie_files halt.WriteFault files k = absurd k
tie_files halt.LogFault files k = absurd k
tie_files (halt.Refused name kind line cause) files k = absurd k
tie_files (halt.ShelfEmpty kind needed stocked) files k = absurd k
tie_files (halt.HistoryFull entries bytes) files k = absurd k
tie_files (halt.LogRefused place) files k = absurd k
tie_files (halt.UnknownName name) files k = absurd k

pub tie_sink : (h : Halt) (out : SinkSeen) → IsTieHalt h → HaltFaults h out out
tie_sink halt.Memory out k = refl
tie_sink (halt.HubRefused cause) out k = refl
tie_sink halt.Misused out k = refl
tie_sink (halt.ReadFault name) out k = absurd k
tie_sink (halt.Absent name) out k = absurd k
tie_sink halt.WriteFault out k = absurd k
tie_sink halt.LogFault out k = absurd k
tie_sink (halt.Refused name kind line cause) out k = absurd k
tie_sink (halt.ShelfEmpty kind needed stocked) out k = absurd k
tie_sink (halt.HistoryFull entries bytes) out k = absurd k
tie_sink (halt.LogRefused place) out k = absurd k
tie_sink (halt.UnknownName name) out k = absurd k

pub tie_vault : (h : Halt) (vault : VaultSeen) → IsTieHalt h → HaltLogs h vault vault
tie_vault halt.Memory vault k = refl
tie_vault (halt.HubRefused cause) vault k = refl
tie_vault halt.Misused vault k = refl
tie_vault (halt.ReadFault name) vault k = absurd k
tie_vault (halt.Absent name) vault k = absurd k
tie_vault halt.WriteFault vault k = absurd k
tie_vault halt.LogFault vault k = absurd k
tie_vault (halt.Refused name kind line cause) vault k = absurd k
tie_vault (halt.ShelfEmpty kind needed stocked) vault k = absurd k
tie_vault (halt.HistoryFull entries bytes) vault k = absurd k
tie_vault (halt.LogRefused place) vault k = absurd k
tie_vault (halt.UnknownName name) vault k = absurd k
