-- What the chain of a connection stands for.
use Rattle.std.proofs.Common.{◌≡◌, ℕ, Bool, true, List, [], ◌∷◌, ◌++◌, map, sym, ◌∙◌, subst}
use Rattle.std.proofs.lemmas.List.{map-append}
use Rattle.cts_def.specs.Sites.{SiteData}
use Rattle.cts_entry.specs.Histories.{is_connected}
use Rattle.cts_framing.specs.Chains.{framings_at}
use Rattle.cts_framing.specs.Framing.{plain}
use Rattle.cts_chain.specs.Chains.{StagesStand, AllDrained, framings_of}
use Rattle.cts_chain.specs.Shapes.{writers}
use Rattle.cts_chain.proofs.Anew.{all_renewed, none_failed, same_framings, settled_all}
use Rattle.cts_chain.proofs.Settled.{renewed_stands}
use Rattle.cts_core.specs.States.{State}
use Rattle.cts_connection.specs.Connections.{HeldConnection, IsRenewed}
use Rattle.cts_connection.specs.Routings.{writers_at}
use Rattle.cts_core.specs.Cursors.{IsPassed}
use Rattle.cts_core.specs.Environments.{site_environment}
use Rattle.cts_core.specs.Worlds.{IsConnection}

-- a chain that was fed nothing stands for no pieces
pub begins : (site : SiteData) (t : State) (by : ℕ) (c : HeldConnection) → c.connected ≡ is_connected by t.history → framings_of c.chain.stages ≡ framings_at site by → writers c.chain ≡ writers_at site by
    → t.pieces by ≡ [] → AllDrained c.chain.stages → StagesStand c.chain.stages [] [] → (is_connected by t.history ≡ true → IsPassed (site_environment site) t by c.cursor.place c.cursor.refused) → IsConnection site t by c
begins site t by c on framings writing none drained stands passed =
    let settled = settled_all c.chain.stages [] [] drained stands in
    record {
      connected = on;
      framings = framings;
      writing = writing;
      packets = [];
      stands = subst (λ (pieces : List (List ℕ)). StagesStand c.chain.stages (map plain pieces) []) (sym none) stands;
      settled = settled;
      unfailed = none_failed 1 c.chain.stages [] settled stands;
      passed = passed;
    }

-- a chain that begins anew
pub begins_anew : (site : SiteData) (s t : State) (by : ℕ) (on : Bool) (old new : HeldConnection) → IsRenewed on old new → IsConnection site s by old → on ≡ is_connected by t.history → t.pieces by ≡ []
    → (is_connected by t.history ≡ true → IsPassed (site_environment site) t by new.cursor.place new.cursor.refused) → IsConnection site t by new
begins_anew site s t by on old new r h told none passed =
    begins site t by new (r.connected_is ∙ told) (same_framings old.chain new.chain r.same ∙ h.framings) (r.same.writers ∙ h.writing) none (all_renewed old.chain.stages new.chain.stages r.renewed) (renewed_stands old.chain.stages new.chain.stages r.renewed) passed

-- one more piece
pub plain_more : (pieces : List (List ℕ)) (piece : List ℕ) → map plain pieces ++ plain piece ∷ [] ≡ map plain (pieces ++ piece ∷ [])
plain_more pieces piece = sym (map-append plain pieces (piece ∷ []))
