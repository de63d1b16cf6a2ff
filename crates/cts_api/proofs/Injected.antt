-- What is said of values that are put in place of a device.
use Rattle.std.proofs.Common.{◌≡◌, ℕ, List, [], ◌∷◌, Option, Some, None, ◌∙◌, ap}
use Rattle.std.specs.List.{filter_map}
use Rattle.cts_cmd.specs.Builds.{AreBytes}
use Rattle.cts_cmd.specs.Injects.{Injects, injection_refusal, stood, with_item}
use Rattle.cts_cmd.specs.declared.refused.Refused.{Refused}
use Rattle.cts_cmd.specs.declared.request.Given.{Given}
use Rattle.cts_def.specs.Packets.{PacketData}
use Rattle.cts_entry.specs.declared.what.What.TheVariants.{Injected}
use Rattle.serde_json.specs.Data.{Data, null}
use Rattle.cts_api.specs.Answers.{Done, inject_answer, next, or_injection_refused, packet_at, posts_injected}
use Rattle.cts_methods.specs.Asking.{PacketName}
use Rattle.cts_api.specs.Saying.{Said, gives}
use Rattle.cts_api.specs.Points.{Point}
use Rattle.cts_api.specs.Replies.{posted}
use Rattle.cts_api.proofs.Making.{injections_are_written, stood_bytes}

module _ (h : Point) (name : PacketName) (members : List (List ℕ × Given)) where
  abbrev done : ℕ × PacketData → Done
  done p = record { result = null; posting = posts_injected p.0 p.1 members }

  abbrev after : ℕ × PacketData → Said Done
  after p = or_injection_refused (injection_refusal p.1.items members) (gives (done p))

  pub is_injected : (p : ℕ × PacketData) (bytes : List ℕ) (d : Data) → packet_at h.site.definitions.telemetry name ≡ gives p → injection_refusal p.1.items members ≡ None
      → ((here : List ℕ) → h.current p.0 ≡ Some here → AreBytes here) → Injects (filter_map (with_item p.1.items) members) (stood (h.current p.0) p.1.length) bytes → d ≡ null
      → (x : Done) × (inject_answer h name members ≡ gives x) × (d ≡ x.result) × (posted h x.posting ≡ Injected p.0 bytes ∷ [])
  is_injected p bytes d there none here put n =
      let is = injections_are_written (filter_map (with_item p.1.items) members) (stood (h.current p.0) p.1.length) bytes (stood_bytes (h.current p.0) p.1.length here) put in (
        done p,
        ap (λ (s : Said (ℕ × PacketData)). next s after) there ∙ ap (λ (o : Option Refused). or_injection_refused o (gives (done p))) none,
        n,
        ap (λ (b : List ℕ). Injected p.0 b ∷ []) is,
      )
