-- How the packets of a line's chain are gathered, one by one.
use Rattle.std.proofs.Common.{◌≡◌, ℕ, ◌+◌, ◌-◌, ◌<◌, List, [], ◌∷◌, ◌++◌, length, Option, Some, None, refl, sym, ◌∙◌, ap, subst, arith, append_assoc, unwrap_or, drop, slice_range}
use Rattle.std.proofs.lemmas.List.{append-nil, length-append, map-append, length-take-le, length-drop}
use Rattle.cts_chain.specs.Chains.{StagesStand, AllSettled, Place, IsPlace, Rises, last_fault, packet_at, time_in as stamp_time, waiting}
use Rattle.cts_chain.specs.Shapes.{ChainData, IsChain, IsSameChain}
use Rattle.cts_def.specs.declared.bad_cause.BadCause.{BadCause}
use Rattle.cts_def.specs.Sites.{SiteData}
use Rattle.cts_def.specs.declared.time.Time.{Time}
use Rattle.cts_entry.specs.declared.entry.Entry.{Entry}
use Rattle.cts_entry.specs.declared.why.Why.{Why}
use Rattle.cts_entry.specs.declared.why.Why.TheVariants.{BadFrame}
use Rattle.cts_framing.specs.Framing.{Output, plain}
use Rattle.cts_framing.specs.Packets.{Fault, capped}
use Rattle.cts_proto.specs.Founds.{heading_at}
use Rattle.cts_proto.specs.Meaning.{Meaning}
use Rattle.cts_proto.specs.declared.step.Stamp.{Stamp}
use Rattle.cts_trace.specs.Routing.{said_of, time_in}
use Rattle.cts_connection.specs.Routings.{site_routing}
use Rattle.cts_connection.specs.Takings.{Gathers, GivesUp, TakesPiece, blamed, entries_of}

pub same_then : (a b c : ChainData) → IsSameChain a b → IsSameChain b c → IsSameChain a c
same_then a b c s t = record { stages = t.stages ∙ s.stages; writers = t.writers ∙ s.writers }

-- ---- what is given up

-- what was given up so far
pub record Gone (old : ChainData) (count : ℕ) (new : ChainData) : Type 0 where
  pub lost : List Output
  pub stands : (ins given : List Output) → StagesStand old.stages ins given → StagesStand new.stages ins (given ++ lost)
  pub chain : IsChain new
  pub same : IsSameChain old new
  pub count_is : count ≡ capped (length lost)

pub gone_none : (old : ChainData) → IsChain old → Gone old 0 old
gone_none old h = record {
  lost = [];
  stands = λ ins given s. subst (StagesStand old.stages ins) (sym (append-nil given)) s;
  chain = h;
  same = record { stages = refl; writers = refl };
  count_is = refl;
}

pub gone_more : (old c d : ChainData) (o : Output) (count more : ℕ) → Gone old count c → Rises c.stages (o ∷ []) d.stages → IsChain d → IsSameChain c d → more ≡ capped (count + 1) → Gone old more d
gone_more old c d o count more h r chain same is = record {
  lost = h.lost ++ o ∷ [];
  stands = λ ins given s. subst (StagesStand d.stages ins) (append_assoc given h.lost (o ∷ [])) (r.stands ins (given ++ h.lost) (h.stands ins given s));
  chain = chain;
  same = same_then old c d h.same same;
  count_is = (let l = length-append h.lost (o ∷ []) in let n = h.count_is in omega (arith, l, n, is));
}

pub gone_done : (old c d : ChainData) (count : ℕ) (why : Option Why) → Gone old count c → Rises c.stages [] d.stages → IsSameChain c d → AllSettled d.stages → why ≡ blamed (last_fault 1 d.stages) → GivesUp old count why d
gone_done old c d count why h r same settled w = record {
  lost = h.lost;
  stands = λ ins given s. subst (StagesStand d.stages ins) (append-nil (given ++ h.lost)) (r.stands ins (given ++ h.lost) (h.stands ins given s));
  settled = settled;
  same = same_then old c d h.same same;
  count = h.count_is;
  why_is = w;
}

-- ---- what is gathered

-- what was gathered so far
pub record Sofar (site : SiteData) (history : List Entry) (by : ℕ) (now : Time) (old : ChainData) (before entries : List Entry) (new : ChainData) : Type 0 where
  pub packets : List Output
  pub stands : (ins given : List Output) → StagesStand old.stages ins given → StagesStand new.stages ins (given ++ packets)
  pub chain : IsChain new
  pub same : IsSameChain old new
  pub entries_are : entries ≡ before ++ entries_of site history by now packets

pub sofar_none : (site : SiteData) (history : List Entry) (by : ℕ) (now : Time) (old : ChainData) (before : List Entry) → IsChain old → Sofar site history by now old before before old
sofar_none site history by now old before h = record {
  packets = [];
  stands = λ ins given s. subst (StagesStand old.stages ins) (sym (append-nil given)) s;
  chain = h;
  same = record { stages = refl; writers = refl };
  entries_are = sym (append-nil before);
}

pub sofar_more : (site : SiteData) (history : List Entry) (by : ℕ) (now : Time) (old c d : ChainData) (before entries : List Entry) (o : Output) (e : Entry) → Sofar site history by now old before entries c → Rises c.stages (o ∷ []) d.stages → IsChain d → IsSameChain c d
    → e ≡ record { by = by; time = time_in o.heading now; what = said_of (site_routing site) history by o } → Sofar site history by now old before (entries ++ e ∷ []) d
sofar_more site history by now old c d before entries o e h r chain same is = record {
  packets = h.packets ++ o ∷ [];
  stands = λ ins given s. subst (StagesStand d.stages ins) (append_assoc given h.packets (o ∷ [])) (r.stands ins (given ++ h.packets) (h.stands ins given s));
  chain = chain;
  same = same_then old c d h.same same;
  entries_are = ap (λ (l : List Entry). l ++ e ∷ []) h.entries_are
      ∙ (append_assoc before (entries_of site history by now h.packets) (e ∷ []) ∙ ap (λ (l : List Entry). before ++ l) (ap (λ (x : Entry). entries_of site history by now h.packets ++ x ∷ []) is ∙ sym (map-append (λ (p : Output). record { by = by; time = time_in p.heading now; what = said_of (site_routing site) history by p }) h.packets (o ∷ []))));
}

pub gathered : (site : SiteData) (history : List Entry) (by : ℕ) (now : Time) (old c d : ChainData) (before entries : List Entry) (why : Option Why) → Sofar site history by now old before entries c → Rises c.stages [] d.stages → IsSameChain c d → AllSettled d.stages
    → why ≡ blamed (last_fault 1 d.stages) → Gathers site history by now old before entries 0 why d
gathered site history by now old c d before entries why h r same settled w = record {
  packets = h.packets;
  lost = [];
  stands = λ ins given s. subst (StagesStand d.stages ins) (append-nil (given ++ h.packets) ∙ ap (λ (l : List Output). given ++ l) (sym (append-nil h.packets))) (r.stands ins (given ++ h.packets) (h.stands ins given s));
  settled = settled;
  same = same_then old c d h.same same;
  entries_are = h.entries_are;
  count = refl;
  why_is = w;
}

-- for one packet no memory was found, and it and those after it are given up
pub given_up : (site : SiteData) (history : List Entry) (by : ℕ) (now : Time) (old c d e : ChainData) (before entries entries' : List Entry) (o : Output) (gone n : ℕ) (why : Option Why) → Sofar site history by now old before entries c → Rises c.stages (o ∷ []) d.stages → IsSameChain c d
    → GivesUp d gone why e → n ≡ capped (gone + 1) → entries' ≡ entries → Gathers site history by now old before entries' n why e
given_up site history by now old c d e before entries entries' o gone n why h r same up is kept = record {
  packets = h.packets;
  lost = o ∷ up.lost;
  stands = λ ins given s. subst (StagesStand e.stages ins) (append_assoc (given ++ h.packets) (o ∷ []) up.lost ∙ append_assoc given h.packets (o ∷ up.lost)) (up.stands ins ((given ++ h.packets) ++ o ∷ []) (r.stands ins (given ++ h.packets) (h.stands ins given s)));
  settled = up.settled;
  same = same_then old d e (same_then old c d h.same same) up.same;
  entries_are = kept ∙ h.entries_are;
  count = (let u = up.count in omega (arith, u, is));
  why_is = up.why_is;
}

-- a piece was fed before
pub takes_piece : (site : SiteData) (history : List Entry) (by : ℕ) (now : Time) (old fed new : ChainData) (piece : List ℕ) (entries : List Entry) (unposted : ℕ) (why : Option Why) → ((ins packets : List Output) → StagesStand old.stages ins packets → StagesStand fed.stages (ins ++ plain piece ∷ []) packets)
    → IsSameChain old fed → Gathers site history by now fed [] entries unposted why new → TakesPiece site history by now old piece entries unposted why new
takes_piece site history by now old fed new piece entries unposted why f same t = record {
  packets = t.packets;
  lost = t.lost;
  stands = λ ins given s. t.stands (ins ++ plain piece ∷ []) given (f ins given s);
  settled = t.settled;
  same = same_then old fed new same t.same;
  entries_are = t.entries_are;
  count = t.count;
  why_is = t.why_is;
}

-- ---- the time of a packet

pub time_told : (own : Option Time) (lent : List ℕ) (p : Place) (now : Time) → own ≡ stamp_time p.stamp → unwrap_or own now ≡ time_in (packet_at lent p).heading now
time_told own lent p now e = ap (λ (o : Option Time). unwrap_or o now) e ∙ by_stamp lent p.stamp now
  where
    by_stamp : (lent : List ℕ) (stamp : Option Stamp) (now : Time) → unwrap_or (stamp_time stamp) now ≡ time_in (heading_at lent stamp) now
    by_stamp lent None now = refl
    by_stamp lent (Some s) now = refl

-- ---- a packet has bytes, so fewer wait

some_bytes : (lent : List ℕ) (p : Place) → IsPlace lent p → 0 < length (packet_at lent p).bytes
some_bytes lent p h =
    let some = h.0 in
    let within = h.1 in
    let size : length (slice_range lent p.start p.end) ≡ p.end - p.start = length-take-le (p.end - p.start) (drop p.start lent) (omega (arith, some, within, length-drop p.start lent)) in
    omega (arith, some, size)

pub fewer_wait : (old new : List Meaning) (lent : List ℕ) (p : Place) → IsPlace lent p → Rises old (packet_at lent p ∷ []) new → waiting new < waiting old
fewer_wait old new lent p h r = omega (arith, r.fits, some_bytes lent p h, length-append (packet_at lent p).bytes [])

-- why a connection is closed whose stage has failed
pub blame_is : (f : Option Fault) (stage : ℕ) (cause : BadCause) → f ≡ Some (record { stage = stage; cause = cause }) → Some (BadFrame stage cause) ≡ blamed f
blame_is f stage cause e = sym (ap blamed e)
