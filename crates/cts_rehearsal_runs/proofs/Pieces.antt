-- What a piece gives on a line that cuts its bytes in one stage.
use Rattle.std.proofs.Common.{◌≡◌, ◌∙◌, ℕ, Bool, true, false, List, [], ◌∷◌, ◌++◌, map, Option, None, refl, sym, ap, subst, append-nil}
use Rattle.std.proofs.lemmas.List.{append_cancel_left}
use Rattle.cts_def.specs.declared.bad_cause.BadCause.{BadCause}
use Rattle.cts_def.specs.Protocols.{SpecData}
use Rattle.cts_entry.specs.declared.entry.Entry.{Entry}
use Rattle.cts_framing.specs.Cuts.{IsCut, Pieces}
use Rattle.cts_framing.specs.Framing.{Framing, IsSound, Output, plain}
use Rattle.cts_framing.specs.Packets.{IsPackets, and_then, cut_by, fault_of, joined, or_fault}
use Rattle.cts_framing.specs.Rows.{framing_of}
use Rattle.cts_framing.proofs.Sound.{is_sound}
use Rattle.cts_framing.proofs.Stagings.{has_one_packets, joined_append, plain_bytes}
use Rattle.cts_framing.proofs.Takings.{cut_more}
use Rattle.cts_trace.specs.Routing.{packet_entries, posted_entries}
use Rattle.cts_trace.proofs.Walks.{posted_packets}
use Rattle.cts_core.specs.Runs.{Receives, closing}
use Rattle.cts_core.specs.States.{Environment, State, unsent}
use Rattle.cts_rehearsal_runs.proofs.Standing.{Holds}

module _ (f : Framing) (sound : IsSound f) (at_once : f.by_piece ≡ false) where
  more_is : (pieces : List (List ℕ)) (piece : List ℕ) (c d : Pieces) → IsCut f (joined pieces) c → IsCut f (c.rest ++ piece) d → IsCut f (joined (pieces ++ piece ∷ [])) (and_then c d)
  more_is pieces piece c d h k =
      let all : joined (pieces ++ piece ∷ []) ≡ joined pieces ++ piece = joined_append pieces (piece ∷ []) ∙ ap (λ (t : List ℕ). joined pieces ++ t) (append-nil piece) in
      subst (λ (t : List ℕ). IsCut f t (and_then c d)) (sym all) (cut_more f sound at_once (joined pieces) piece c d h k)

  stage_of : (pieces : List (List ℕ)) (c : Pieces) → IsCut f (joined pieces) c → IsPackets (f ∷ []) pieces (c ∷ []) c.outs
  stage_of pieces c h =
      let ins : IsCut f (joined (map (λ (o : Output). o.bytes) (map plain pieces))) c = subst (λ (ps : List (List ℕ)). IsCut f (joined ps) c) (sym (plain_bytes pieces)) h in
      (subst (λ (b : Bool). cut_by b f (map (λ (o : Output). o.bytes) (map plain pieces)) c) (sym at_once) ins, refl)

  gives : (chain : List Framing) → chain ≡ f ∷ [] → (pieces : List (List ℕ)) (piece : List ℕ) (c d : Pieces) → IsCut f (joined pieces) c → IsCut f (c.rest ++ piece) d
      → (earlier cuts : List Pieces) (given packets : List Output) → IsPackets chain pieces earlier given → IsPackets chain (pieces ++ piece ∷ []) cuts (given ++ packets)
      → (cuts ≡ and_then c d ∷ []) × (packets ≡ d.outs)
  gives chain is pieces piece c d h k earlier cuts given packets before after =
      let b = subst (λ (fs : List Framing). IsPackets fs pieces earlier given) is before in
      let a = subst (λ (fs : List Framing). IsPackets fs (pieces ++ piece ∷ []) cuts (given ++ packets)) is after in
      let one = has_one_packets (f ∷ []) pieces earlier (c ∷ []) given c.outs (sound, tt) b (stage_of pieces c h) in
      let two = has_one_packets (f ∷ []) (pieces ++ piece ∷ []) cuts (and_then c d ∷ []) (given ++ packets) (c.outs ++ d.outs) (sound, tt) a (stage_of (pieces ++ piece ∷ []) (and_then c d) (more_is pieces piece c d h k)) in
      (two.0, append_cancel_left given packets d.outs (two.1 ∙ ap (λ (o : List Output). o ++ d.outs) (sym one.1)))

-- ---- on a line whose chain has one protocol

module _ (spec : SpecData) (at_once : (framing_of spec).by_piece ≡ false) where
  pub holds_more : (pieces : List (List ℕ)) (rest piece : List ℕ) (d : Pieces) → Holds spec pieces rest → IsCut (framing_of spec) (rest ++ piece) d → d.bad ≡ None → Holds spec (pieces ++ piece ∷ []) d.rest
  holds_more pieces rest piece d h k well =
      let here = subst (λ (t : List ℕ). IsCut (framing_of spec) (t ++ piece) d) (sym h.2) k in
      (and_then h.0 d, more_is (framing_of spec) (is_sound spec) at_once pieces piece h.0 d h.1 here, refl, well)

  -- the entries are those of the packets that the piece brings
  pub received : (env : Environment) (s : State) (by : ℕ) (rest piece : List ℕ) (entries : List Entry) (d : Pieces)
      → env.routing.is_interface by ≡ true → env.routing.chain by ≡ framing_of spec ∷ [] → Holds spec (s.pieces by) rest → IsCut (framing_of spec) (rest ++ piece) d → d.bad ≡ None
      → Receives env s by piece entries → entries ≡ packet_entries env.routing s.time by d.outs
  received env s by rest piece entries d interface chain h k well r =
      let here = subst (λ (t : List ℕ). IsCut (framing_of spec) (t ++ piece) d) (sym h.2) k in
      let g = gives (framing_of spec) (is_sound spec) at_once (env.routing.chain by) chain (s.pieces by) piece h.0 d h.1 here r.earlier r.cuts r.given r.packets r.before r.after in
      r.entries_are
      ∙ (ap (λ (p : List Output). posted_entries env.routing s.history s.time by p ++ closing s.time by (unsent env s by) r.cuts (fault_of r.cuts)) g.1
      ∙ (ap (λ (cs : List Pieces). posted_entries env.routing s.history s.time by d.outs ++ closing s.time by (unsent env s by) cs (fault_of cs)) g.0
      ∙ (ap (λ (b : Option BadCause). posted_entries env.routing s.history s.time by d.outs ++ closing s.time by (unsent env s by) (and_then h.0 d ∷ []) (or_fault None 1 b)) well
      ∙ (append-nil (posted_entries env.routing s.history s.time by d.outs) ∙ posted_packets env.routing s.history s.time by d.outs interface))))
