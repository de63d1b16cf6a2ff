-- What is said of a command that is sent.
use Rattle.std.proofs.Common.{◌≡◌, ℕ, true, Bool, List, [], ◌∷◌, Option, Some, None, Err, codes, refl, sym, ◌∙◌, ap, subst}
use Rattle.std.specs.Prelude.{if◌then◌else◌, false, option_map, slice_get, unwrap_or}
use Rattle.cts_cmd.specs.Builds.{IsBuilt}
use Rattle.cts_cmd.specs.Checks.{IsSaid, refusal}
use Rattle.cts_cmd.specs.Refusals.{has_words}
use Rattle.cts_cmd.specs.declared.built.Built.{Built}
use Rattle.cts_cmd.specs.declared.refused.Refused.{Refused}
use Rattle.cts_cmd.specs.declared.refused.Refused.TheVariants as why
use Rattle.cts_cmd.specs.declared.request.Checks.{Checks}
use Rattle.cts_cmd.specs.declared.request.Request.{Request}
use Rattle.cts_def.specs.Packets.{PacketData, is_named}
use Rattle.cts_entry.specs.declared.what.What.TheVariants.{Command, Stop}
use Rattle.serde_json.specs.Data.{Data, null}
use Rattle.cts_api.specs.declared.refusal.Refusal.{Refusal}
use Rattle.cts_api.specs.declared.refusal.Refusal.TheVariants.{NoSuch, NotDone, BadParams, Memory}
use Rattle.cts_api.specs.Answers.{Done, appended, command_row, first_with, given_or, next, numbered, or_refused, posts, posts_command, posts_nothing, request_answer, routed, sound_request, stop_answer, told}
use Rattle.cts_api.specs.Saying.{Said, gives}
use Rattle.cts_api.specs.Points.{Point}
use Rattle.cts_api.specs.Replies.{posted}
use Rattle.cts_api.proofs.Making.{commands_are_built}
use Rattle.cts_api.specs.Shown.{not_done}
use Rattle.cts_api.specs.Telling.{IsChecked, IsRefused}

-- a refusal that has words is the one that is said
pub said_of : (refused : Refused) (o : Option Refused) → has_words refused ≡ true → IsSaid refused o → o ≡ Some refused
said_of why.UnknownTarget o w h = h
said_of why.UnknownCommand o w h = h
said_of (why.UnknownParameter name) o w h = h
said_of (why.Twice name) o w h = h
said_of (why.Missing name) o w h = h
said_of (why.WrongType name) o w h = h
said_of (why.UnknownState name) o w h = h
said_of (why.OutOfRange name value min max) o w h = h
said_of (why.Overflow name) o w h = h
said_of why.Hazardous o w h = h
said_of why.Memory o w h = absurd (cc w)

-- what is refused goes through the checks after it
pub refused_next : {A B : Type 0} (e : Refusal) (said : Said A) (rest : A → Said B) → IsRefused e said → IsRefused e (next said rest)
refused_next (NoSuch message) said rest h = ap (λ s. next s rest) h
refused_next (NotDone message) said rest h = ap (λ s. next s rest) h
refused_next BadParams said rest h = ap (λ s. next s rest) h
refused_next Memory said rest h = tt

module _ (h : Point) (k : Checks) (r : Request) where
  abbrev commands : List PacketData
  commands = h.site.definitions.commands

  abbrev chosen : Option Refused → Said (ℕ × PacketData)
  chosen o = or_refused o (given_or (not_done (codes "Unknown command")) (first_with (is_named r.target r.command) commands))

  pub check_fails : (e : Refusal) → IsChecked h.site.definitions k r (Err e) → IsRefused e (sound_request h.site k r)
  check_fails (NoSuch message) c = absurd c
  check_fails (NotDone message) c = ap chosen c.1 ∙ ap (λ (t : List ℕ). not_done t) (sym c.2)
  check_fails BadParams c = absurd c
  check_fails Memory c = tt

  pub is_chosen : (b : Built) → refusal h.site.definitions r k ≡ None → (made : IsBuilt h.site.definitions r b) → sound_request h.site k r ≡ gives (b.command, made.command.it)
  is_chosen b none made =
      let first : first_with (is_named r.target r.command) commands ≡ Some (b.command, made.command.it) =
      ap (numbered commands) made.command.first ∙ ap (option_map (λ (a : PacketData). (b.command, a))) made.command.number in
      ap chosen none ∙ ap (given_or (not_done (codes "Unknown command"))) first

  abbrev sends_to : ℕ × PacketData → ℕ → Said Done
  sends_to c i = gives (record { result = command_row c.1 r; posting = posts_command i r })

  abbrev after : ℕ × PacketData → Said Done
  after c = next (routed h.site (h.route c.0)) (sends_to c)

  pub request_fails : (e : Refusal) → IsChecked h.site.definitions k r (Err e) → IsRefused e (request_answer h k r)
  request_fails e c = refused_next e (sound_request h.site k r) after (check_fails e c)

  pub route_fails : (b : Built) (e : Refusal) → refusal h.site.definitions r k ≡ None → IsBuilt h.site.definitions r b → IsRefused e (routed h.site (h.route b.command)) → IsRefused e (request_answer h k r)
  route_fails b e none made way =
      subst (IsRefused e) (sym (ap (λ s. next s after) (is_chosen b none made))) (refused_next e (routed h.site (h.route b.command)) (sends_to (b.command, made.command.it)) way)

  some_so : (p q : PacketData) → Some p ≡ Some q → p ≡ q
  some_so p q e = ap (λ (o : Option PacketData). unwrap_or o p) e

  -- the command that was chosen is the packet of its number
  pub no_packet : (b : Built) → IsBuilt h.site.definitions r b → slice_get commands b.command ≡ None → ⊥
  no_packet b made e = let both : Some made.command.it ≡ None = sym made.command.number ∙ e in cc

  pub is_sent : (b : Built) (p : PacketData) (i : ℕ) (result : Data) → refusal h.site.definitions r k ≡ None → IsBuilt h.site.definitions r b → slice_get commands b.command ≡ Some p
      → routed h.site (h.route b.command) ≡ gives i → result ≡ command_row p r
      → (d : Done) × (request_answer h k r ≡ gives d) × (result ≡ d.result) × (posted h d.posting ≡ Command i b.command b.bytes ∷ [])
  is_sent b p i result none made there way row =
      let it : p ≡ made.command.it = some_so p made.command.it (sym there ∙ made.command.number) in
      let c : ℕ × PacketData = (b.command, made.command.it) in (
        record { result = command_row made.command.it r; posting = posts_command i r },
        ap (λ s. next s after) (is_chosen b none made) ∙ ap (λ s. next s (sends_to c)) way,
        row ∙ ap (λ (x : PacketData). command_row x r) it,
        ap (λ (c : Built). Command i c.command c.bytes ∷ []) (commands_are_built h.site.definitions r b made),
      )

-- ---- the server is stopped

abbrev stop_if : Bool → Said Done
stop_if stopped = if stopped then told (gives null) else appended (gives Stop)

pub stands_already : (h : Point) (d : Data) → h.stopped ≡ true → d ≡ null → (x : Done) × (stop_answer h ≡ gives x) × (d ≡ x.result) × (posted h x.posting ≡ [])
stands_already h d e n = (record { result = null; posting = posts_nothing }, ap stop_if e, n, refl)

pub stops_now : (h : Point) (d : Data) → h.stopped ≡ false → d ≡ null → (x : Done) × (stop_answer h ≡ gives x) × (d ≡ x.result) × (posted h x.posting ≡ Stop ∷ [])
stops_now h d e n = (record { result = null; posting = posts Stop }, ap stop_if e, n, refl)
