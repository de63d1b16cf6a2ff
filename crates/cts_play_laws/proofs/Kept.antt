-- Every run keeps its packets.
use Rattle.std.proofs.Common.{◌≡◌, ◌≢◌, ℕ, ◌+◌, ◌≤◌, ◌<◌, inl, inr, Bool, true, false, List, [], ◌∷◌, ◌++◌, length, map, refl, sym, ◌∙◌, subst, arith, Option, Some, None}
use Rattle.std.specs.List.{All, AllByRecursion}
use Rattle.std.proofs.lemmas.Bool.Decides.{nat_tests}
use Rattle.std.proofs.lemmas.List.Elements.{All-head, All-tail}
use Rattle.cts_connection.specs.Routings.{ident_of, identified_by, site_routing}
use Rattle.cts_core.specs.Environments.{environment_of}
use Rattle.cts_core.specs.Runs.{Closes, Did, Does, Ending, Receives, Runs, after, closing}
use Rattle.cts_core.specs.States.{Environment, State, opening, unsent}
use Rattle.cts_core_laws.specs.Told.{history_of}
use Rattle.cts_core_laws.proofs.SiteSound.{by_desks}
use Rattle.cts_def.specs.Makers.{first_desk, first_slot}
use Rattle.cts_def.specs.Packets.{PacketData, is_named}
use Rattle.cts_def.specs.Sites.{IsSoundSite, SiteData, targets_at}
use Rattle.cts_def.specs.declared.ident.Ident.{Ident}
use Rattle.cts_def.specs.declared.ident.Ident.TheVariants.{Known, Unknown}
use Rattle.cts_def.specs.declared.time.Time.{Time}
use Rattle.cts_entry.specs.Workers.{is_interface}
use Rattle.cts_entry.specs.declared.entry.Entry.{Entry}
use Rattle.cts_entry.specs.declared.event.Event.{Event}
use Rattle.cts_entry.specs.declared.event.Event.TheVariants.{SetTime, Opens, Piece, Finish, Write, Call, DrainLog, DrainSlot, Stop}
use Rattle.cts_entry.specs.declared.what.What.TheVariants.{Packet}
use Rattle.cts_framing.specs.Chains.{framings_at}
use Rattle.cts_framing.specs.Cuts.{IsCut, Part, Pieces, and_output, outputs}
use Rattle.cts_framing.specs.Framing.{Framing, Heading, Output, is_stored}
use Rattle.cts_framing.specs.Packets.{CutEach, Fault, Stages, cut_by, fault_of}
use Rattle.cts_ident.specs.Identification.{first_of, fits}
use Rattle.cts_ident.proofs.FirstMatches.{known_of}
use Rattle.cts_ident_laws.specs.Named.{IsOfTargets}
use Rattle.cts_ident_laws.proofs.Naming.{named_is}
use Rattle.cts_table.specs.declared.basis.Basis.{Basis}
use Rattle.cts_trace.specs.Routing.{posted_entries, said_of}
use Rattle.cts_play_laws.specs.Keeping.{HaveStages, IsOfMaker, RunsKeepPackets}

-- ---- outputs that are given have bytes

abbrev HasBytes : Output → Type 0
HasBytes o = o.bytes ≢ []

abbrev AllHave : List Output → Type 0
AllHave outs = AllByRecursion HasBytes outs

put_has : (o : Output) (bytes : List ℕ) (outs : List Output) → bytes ≡ o.bytes → AllHave outs → AllHave (and_output o bytes outs)
put_has o [] outs e all = all
put_has o (b ∷ bytes) outs e all = (λ none. absurd (some b bytes (e ∙ none)), all)
  where
    some : (b : ℕ) (bytes : List ℕ) → b ∷ bytes ≡ [] → ⊥
    some b bytes h = cc

outputs_have : (f : Framing) (ps : List Part) → AllHave (outputs f ps)
outputs_have f [] = tt
outputs_have f (p ∷ ps) = put_has (f.output p.frame) (f.output p.frame).bytes (outputs f ps) refl (outputs_have f ps)

cut_has : (f : Framing) (b : List ℕ) (c : Pieces) → IsCut f b c → AllHave c.outs
cut_has f b c k = subst AllHave (sym k.taken.outs_are) (outputs_have f k.taken.parts)

have_append : (xs ys : List Output) → AllHave xs → AllHave ys → AllHave (xs ++ ys)
have_append [] ys h k = k
have_append (x ∷ xs) ys h k = (h.0, have_append xs ys h.1 k)

have_back : (xs ys : List Output) → AllHave (xs ++ ys) → AllHave ys
have_back [] ys h = h
have_back (x ∷ xs) ys h = have_back xs ys h.1

each_has : (f : Framing) (from : List ℕ) (ps : List (List ℕ)) (c : Pieces) → CutEach f from ps c → AllHave c.outs
each_has f from [] c k = cut_has f from c k
each_has f from (p ∷ ps) c k =
    subst (λ (d : Pieces). AllHave d.outs) (sym k.4) (have_append k.0.outs k.1.outs (cut_has f (from ++ p) k.0 k.2) (each_has f k.0.rest ps k.1 k.3))

stage_has : (b : Bool) (f : Framing) (ps : List (List ℕ)) (c : Pieces) → cut_by b f ps c → AllHave c.outs
stage_has false f ps c k = cut_has f _ c k
stage_has true f ps c k = each_has f [] ps c k

stages_have : (fs : List Framing) (ins : List Output) (cuts : List Pieces) (packets : List Output) → 1 ≤ length fs → Stages fs ins cuts packets → AllHave packets
stages_have [] ins cuts packets some h = absurd (omega (arith, some))
stages_have (f ∷ fs) ins [] packets some h = absurd h
stages_have (f ∷ []) ins (c ∷ []) packets some h = subst AllHave h.1 (stage_has f.by_piece f (map (λ o. o.bytes) ins) c h.0)
stages_have (f ∷ []) ins (c ∷ d ∷ cuts) packets some h = absurd h.1
stages_have (f ∷ g ∷ fs) ins (c ∷ cuts) packets some h = stages_have (g ∷ fs) c.outs cuts packets (omega arith) h.1

-- ---- idents are of the maker's targets

module _ (site : SiteData) (sound : IsSoundSite site) (by : ℕ) (line : is_interface site by ≡ true) where
  below : by < first_slot
  below = let few = sound.few_interfaces in let h : by < length site.interfaces = grind (arith, nat_tests) in omega (arith, few, h)

  first_is : (test : PacketData → Bool) (i : Ident) → i ≡ first_of (targets_at site.interfaces by) site.definitions.telemetry test → IsOfTargets site.definitions (targets_at site.interfaces by) i
  first_is test (Known n) e =
      let m = ((known_of (targets_at site.interfaces by) site.definitions.telemetry test n (Known n) e).0 refl).match in
      (m.packet, m.at, m.target)
  first_is test Unknown e = tt

  ident_is : (bytes : List ℕ) (o : Option Heading) → IsOfTargets site.definitions (targets_at site.interfaces by) (ident_of site by (record { bytes = bytes; heading = o }))
  ident_is bytes None = first_is (fits bytes) (identified_by site by bytes) (rw line refl)
  ident_is bytes (Some heading) = first_is (is_named heading.target heading.packet) _ (named_is site by below heading.target heading.packet)

abbrev Keeps : SiteData → Entry → Type 0
Keeps site e = is_interface site e.by ≡ true → IsOfMaker site e.by e.what

module _ (base : Basis) (sound : IsSoundSite base.site) (stages : HaveStages base.site) where
  abbrev env : Environment
  env = environment_of base

  posted_keep : (history : List Entry) (now : Time) (by : ℕ) (outs : List Output) → (is_interface base.site by ≡ true → AllHave outs) → AllByRecursion (Keeps base.site) (posted_entries (site_routing base.site) history now by outs)
  posted_keep history now by [] have = tt
  posted_keep history now by (o ∷ outs) have = (
    (
        λ line.
        let is : said_of (site_routing base.site) history by o ≡ Packet (ident_of base.site by o) (is_stored o.heading) o.bytes = rw line refl in
        subst (IsOfMaker base.site by) (sym is) ((have line).0, ident_is base.site sound by line o.bytes o.heading)
        ),
    posted_keep history now by outs (λ line. (have line).1),
  )

  all_append : (xs ys : List Entry) → AllByRecursion (Keeps base.site) xs → AllByRecursion (Keeps base.site) ys → AllByRecursion (Keeps base.site) (xs ++ ys)
  all_append [] ys h k = k
  all_append (x ∷ xs) ys h k = (h.0, all_append xs ys h.1 k)

  closing_keeps : (now : Time) (by unsent : ℕ) (cuts : List Pieces) (o : Option Fault) → AllByRecursion (Keeps base.site) (closing now by unsent cuts o)
  closing_keeps now by unsent cuts None = tt
  closing_keeps now by unsent cuts (Some fault) = ((λ line. tt), tt)

  desks_keep : (by : ℕ) (es : List Entry) → first_desk ≤ by → All (λ (e : Entry). e.by ≡ by) es → AllByRecursion (Keeps base.site) es
  desks_keep by [] high all = tt
  desks_keep by (e ∷ es) high all = (
    (
        λ line.
        let low = below base.site sound e.by line in
        let same : e.by ≡ by = All-head (λ (x : Entry). x.by ≡ by) e es all in
        absurd (omega (arith, low, same, high))
        ),
    desks_keep by es high (All-tail (λ (x : Entry). x.by ≡ by) e es all),
  )

  event_keeps : (s : State) (event : Event) (did : Did) → Does (environment_of base) s event did → AllByRecursion (Keeps base.site) did.entries
  event_keeps s (SetTime time) did d = subst (AllByRecursion (Keeps base.site)) (sym d.appends) tt
  event_keeps s (Opens by) did d = subst (AllByRecursion (Keeps base.site)) (sym d.appends) ((λ line. tt), tt)
  event_keeps s (Piece by piece) did d =
      let r : Receives (environment_of base) s by piece did.entries = d.appends in
      let have : is_interface base.site by ≡ true → AllHave r.packets = λ line. have_back r.given r.packets (stages_have (framings_at base.site by) _ r.cuts (r.given ++ r.packets) (stages by line) r.after) in
      subst (AllByRecursion (Keeps base.site)) (sym r.entries_are)
      (all_append (posted_entries (site_routing base.site) s.history s.time by r.packets) (closing s.time by (unsent (environment_of base) s by) r.cuts (fault_of r.cuts))
      (posted_keep s.history s.time by r.packets have) (closing_keeps s.time by (unsent (environment_of base) s by) r.cuts (fault_of r.cuts)))
  event_keeps s (Finish by why) did d =
      let k : Closes (environment_of base) s by why did.entries = d.appends in
      subst (AllByRecursion (Keeps base.site)) (sym k.entries_are) ((λ line. tt), tt)
  event_keeps s (Write by count) did d = subst (AllByRecursion (Keeps base.site)) (sym d.appends) tt
  event_keeps s (Call desk body) did d =
      subst (AllByRecursion (Keeps base.site)) (sym d.appends)
      (desks_keep (first_desk + desk) d.answer.entries (omega arith) (by_desks base s.history desk s.time body d.answer d.answered))
  event_keeps s (DrainLog count) did d = subst (AllByRecursion (Keeps base.site)) (sym d.appends) tt
  event_keeps s (DrainSlot by count) did d = subst (AllByRecursion (Keeps base.site)) (sym d.appends) tt
  event_keeps s Stop did d = subst (AllByRecursion (Keeps base.site)) (sym d.appends) ((λ line. tt), tt)

  run_keeps : (s : State) (events : List Event) (dids : List Did) (ending : Ending) → Runs (environment_of base) s events dids ending → AllByRecursion (Keeps base.site) (history_of dids)
  run_keeps s [] dids ending h = subst (λ (ds : List Did). AllByRecursion (Keeps base.site) (history_of ds)) (sym h.0) tt
  run_keeps s (event ∷ events) dids ending (inl h) = subst (λ (ds : List Did). AllByRecursion (Keeps base.site) (history_of ds)) (sym h.0) tt
  run_keeps s (event ∷ events) dids ending (inr h) =
      subst (λ (ds : List Did). AllByRecursion (Keeps base.site) (history_of ds)) (sym h.2)
      (all_append h.0.entries (history_of h.1) (event_keeps s event h.0 h.3) (run_keeps (after s event h.0) events h.1 ending h.4))

pub runs_keep_packets : RunsKeepPackets
runs_keep_packets base events dids ending sound stages h = run_keeps base sound stages opening events dids ending h
