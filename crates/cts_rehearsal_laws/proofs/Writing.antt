-- After a command was sent a write is enabled.
use Rattle.std.proofs.Common.{◌≡◌, ◌∙◌, ℕ, ◌≤◌, Bool, true, List, [], ◌∷◌, ◌++◌, length, drop, refl, sym, ap, subst, arith, length-append}
use Rattle.std.proofs.lemmas.List.{length-drop}
use Rattle.std.specs.Prelude.{◌&&◌, nat_le}
use Rattle.std.proofs.lemmas.Bool.{le-leb}
use Rattle.cts_def.specs.Sites.{InterfaceData, SiteData}
use Rattle.cts_entry.specs.Histories.{is_connected, since}
use Rattle.cts_entry.specs.Workers.{is_interface}
use Rattle.cts_entry.specs.declared.entry.Entry.{Entry}
use Rattle.cts_entry.specs.declared.event.Event.TheVariants.{Call, Write}
use Rattle.cts_entry.proofs.Queuing.{since-append}
use Rattle.cts_trace.specs.Routing.{Routing, walk}
use Rattle.cts_trace.proofs.Walks.{connected_kept, walk-append}
use Rattle.cts_core.specs.Environments.{site_environment}
use Rattle.cts_core.specs.Runs.{Did, Does, after}
use Rattle.cts_core.specs.Sendings.{command_entry}
use Rattle.cts_core.specs.States.{State, ahead, is_enabled}
use Rattle.cts_rehearsal.specs.Generated.{order}
use Rattle.cts_rehearsal_laws.specs.Demo.{HasDemoCommand}
use Rattle.cts_rehearsal_laws.specs.Orders.{order_request}
use Rattle.cts_rehearsal_laws.specs.Sent.{MaySend, WritesAreEnabled}
use Rattle.cts_rehearsal_laws.proofs.Sending.{sent}

two_interfaces : (site : SiteData) (interfaces : List InterfaceData) → HasDemoCommand site → is_interface site 0 ≡ true
two_interfaces site interfaces demo = rw demo.interfaces refl

all_three : (a b c : Bool) → a ≡ true → b ≡ true → c ≡ true → (a && (b && c)) ≡ true
all_three a b c ea eb ec = rw (ea, eb, ec) refl

-- a maker is ahead by what is added to its walk
grown : (k : ℕ) (xs ys : List Entry) → k ≤ length xs → 1 ≤ length ys → 1 ≤ length (drop k (xs ++ ys))
grown k xs ys reach some = omega (arith, length-drop k (xs ++ ys), length-append xs ys, reach, some)

module _ (site : SiteData) (demo : HasDemoCommand site) (s : State) (v : ℕ) (did : Did) (low : v ≤ 10) (may : MaySend site s v)
    (reach : s.cursor 0 ≤ length (walk (site_environment site).routing 0 (since 0 s.history))) (does : Does (site_environment site) s (Call 0 (order v)) did) where
  abbrev g : Routing
  g = (site_environment site).routing

  abbrev e : Entry
  e = command_entry site s 0 0 (order_request v)

  abbrev then : State
  then = after s (Call 0 (order v)) did

  is_sent : did.entries ≡ e ∷ []
  is_sent = sent site demo s v low may did does

  connected : is_connected 0 then.history ≡ true
  connected = ap (λ (l : List Entry). is_connected 0 (s.history ++ l)) is_sent ∙ (connected_kept 0 s.history (e ∷ []) refl ∙ may.connected)

  cursor_stays : then.cursor 0 ≡ s.cursor 0
  cursor_stays = rw is_sent (omega arith)

  since_grows : since 0 then.history ≡ since 0 s.history ++ e ∷ []
  since_grows = ap (λ (l : List Entry). since 0 (s.history ++ l)) is_sent ∙ since-append 0 s.history (e ∷ []) refl

  is_one : (b : Bool) → g.is_interface 0 ≡ true → walk g 0 (e ∷ []) ≡ e ∷ []
  is_one b i = rw i refl

  ahead_is : ahead (site_environment site) then 0 ≡ drop (s.cursor 0) (walk g 0 (since 0 s.history) ++ walk g 0 (e ∷ []))
  ahead_is = ap (λ (k : ℕ). drop k (walk g 0 (since 0 then.history))) cursor_stays
      ∙ ap (drop (s.cursor 0)) (ap (walk g 0) since_grows ∙ walk-append g 0 (since 0 s.history) (e ∷ []))

  some_ahead : 1 ≤ length (ahead (site_environment site) then 0)
  some_ahead =
      let one : 1 ≤ length (walk g 0 (e ∷ [])) = subst (λ (l : List Entry). 1 ≤ length l) (sym (is_one true (two_interfaces site site.interfaces demo))) (omega arith) in
      subst (λ (l : List Entry). 1 ≤ length l) (sym ahead_is) (grown (s.cursor 0) (walk g 0 (since 0 s.history)) (walk g 0 (e ∷ [])) reach one)

  pub write_enabled : is_enabled (site_environment site) then (Write 0 1) ≡ true
  write_enabled =
      all_three (is_interface site 0) (is_connected 0 then.history) (nat_le 1 (length (ahead (site_environment site) then 0)))
      (two_interfaces site site.interfaces demo) connected (le-leb 1 (length (ahead (site_environment site) then 0)) some_ahead)

pub writes_are_enabled : WritesAreEnabled
writes_are_enabled site demo s v did low may reach does = write_enabled site demo s v did low may reach does
