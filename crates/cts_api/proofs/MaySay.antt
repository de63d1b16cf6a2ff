-- What a desk is asked to say it may say.
use Rattle.std.proofs.Common.{◌≡◌, ℕ, ◌≤◌, true, false, Bool, List, [], ◌∷◌, length, Option, Some, None, Ok, refl, ◌∙◌, ap, subst, arith}
use Rattle.std.specs.Prelude.{IfSome, option_map, option_and_then, nat_le, unwrap_or, ◌&&◌, ◌||◌, if◌then◌else◌}
use Rattle.std.proofs.lemmas.Bool.Decides.{nat_tests}
use Rattle.cts_def.specs.Most.{most_sets}
use Rattle.cts_def.specs.declared.time.Time.{Time}
use Rattle.cts_entry.specs.Legal.{has_ended}
use Rattle.cts_entry.specs.Workers.{is_desk, is_interface, is_slot}
use Rattle.cts_entry.specs.declared.what.What.{What}
use Rattle.cts_table.specs.Keeping.{IsKept}
use Rattle.cts_table.specs.States.{Shown}
use Rattle.cts_monitor.specs.Sets.{known_sets}
use Rattle.serde_json.specs.Data.{Data}
use Rattle.cts_methods.specs.declared.method.Method.{Method}
use Rattle.cts_methods.specs.declared.method.Method.TheVariants as method
use Rattle.cts_api.specs.declared.sending.Done as code
use Rattle.cts_methods.specs.Asking.{Asking, NewLimits, asks_value, asks_packet, asks_received, asks_sent, sends, asks_limits, sets_limits, enables, asks_set, chooses_set, asks_out_of_limits, asks_events, asks_interfaces, asks_interface, injects, stops}
use Rattle.cts_methods.specs.Kinds.{item_in, kind_in, limits_first, may_be, maybe_first, names_first, names_in, natural_in, new_limits, nothing, object_in, order_in, packet_first, packet_in, persistence, persistence_in, set_limits, single, switch_in, text_in}
use Rattle.cts_methods.specs.Methods.{params_of}
use Rattle.cts_api.specs.Settling.{CanSayIt, HasAnswered, HasPersistence, IsPersistent, IsSoundAsking, LimitsPersist}
use Rattle.cts_api.specs.Telling.{listed as whats_of, point}
use Rattle.cts_api.proofs.Allowed.{allowed}
use Rattle.cts_api.proofs.OfSite.{Lasts, all_said, few_known}

-- ---- the persistence that is asked for

and_then : {A B : Type 0} (P : B → Type 0) (f : A → Option B) (o : Option A) → ((a : A) → o ≡ Some a → IfSome (f a) P) → IfSome (option_and_then f o) P
and_then P f None all = tt
and_then P f (Some a) all = all a refl

mapped : {A B : Type 0} (P : B → Type 0) (f : A → B) (o : Option A) → ((a : A) → o ≡ Some a → P (f a)) → IfSome (option_map f o) P
mapped P f None all = tt
mapped P f (Some a) all = all a refl

pub some_of : {A : Type 0} (P : A → Type 0) (o : Option A) (a : A) → IfSome o P → o ≡ Some a → P a
some_of P o a all is = subst (λ x. IfSome x P) is all

pub if_some : (b : Bool) (k n : ℕ) → (if b then Some k else None) ≡ Some n → (b ≡ true) × (k ≡ n)
if_some true k n e = (refl, ap (λ (o : Option ℕ). unwrap_or o k) e)
if_some false k n e = absurd (cc e)

whole_persists : (o : Option ℕ) (n : ℕ) → option_and_then persistence o ≡ Some n → 1 ≤ n
whole_persists None n e = absurd (cc e)
whole_persists (Some k) n e = let b = if_some (nat_le 1 k && nat_le k 4294967295) k n e in let t = b.0 in let same = b.1 in grind (arith, nat_tests)

by_persistence : (o : Option ℕ) (ds : List Data) (n : Option ℕ × List Data) → ((k : ℕ) → o ≡ Some k → 1 ≤ k) → option_map (λ (a : ℕ). (Some a, ds)) o ≡ Some n → HasPersistence n.0
by_persistence None ds n some e = absurd (cc e)
by_persistence (Some k) ds n some e = subst (λ (x : Option (Option ℕ × List Data)). IfSome x (λ y. HasPersistence y.0)) e (some k refl)

first_persists : (ds : List Data) (n : Option ℕ × List Data) → maybe_first persistence_in ds ≡ Some n → HasPersistence n.0
first_persists [] n e = subst (λ (x : Option (Option ℕ × List Data)). IfSome x (λ y. HasPersistence y.0)) e tt
first_persists (d ∷ ds) n e = by_persistence (persistence_in d) ds n (λ k is. whole_persists (natural_in d) k is) e

abbrev Persists : NewLimits → Type 0
Persists new = HasPersistence new.persistence

new_persist : (ds : List Data) → IfSome (new_limits ds) Persists
new_persist ds =
    and_then Persists _ (limits_first ds) (λ l is.
    and_then Persists _ (maybe_first text_in l.1) (λ s is.
    and_then Persists _ (maybe_first persistence_in s.1) (λ n is.
    mapped Persists _ (may_be switch_in n.1) (λ on there. first_persists s.1 n is))))

set_persists : (ds : List Data) → IfSome (set_limits ds) IsSoundAsking
set_persists ds =
    and_then IsSoundAsking _ (names_first ds) (λ i is.
    mapped IsSoundAsking (λ (l : NewLimits). sets_limits i.0 l) (new_limits i.1) (λ l there. some_of Persists (new_limits i.1) l (new_persist i.1) there))

alone_sound : (a : Asking) (ds : List Data) → IsSoundAsking a → IfSome (nothing a ds) IsSoundAsking
alone_sound a [] sound = sound
alone_sound a (d ∷ ds) sound = tt

-- what params ask is sound
pub params_persist : (m : Method) (ds : List Data) → IfSome (params_of m ds) IsSoundAsking
params_persist (method.Value kind) ds = mapped IsSoundAsking _ (item_in ds) (λ i is. tt)
params_persist method.Packet ds = and_then IsSoundAsking _ (packet_first ds) (λ p is. mapped IsSoundAsking _ (may_be kind_in p.1) (λ k there. tt))
params_persist method.Received ds = mapped IsSoundAsking _ (packet_in ds) (λ p is. tt)
params_persist method.Sent ds = mapped IsSoundAsking _ (packet_in ds) (λ p is. tt)
params_persist (method.Command range hazardous) ds = mapped IsSoundAsking _ (order_in ds) (λ o is. tt)
params_persist method.Limits ds = and_then IsSoundAsking _ (names_first ds) (λ i is. mapped IsSoundAsking _ (may_be text_in i.1) (λ s there. tt))
params_persist method.SetLimits ds = set_persists ds
params_persist (method.Enable on) ds = mapped IsSoundAsking _ (names_in ds) (λ i is. tt)
params_persist method.Set ds = alone_sound asks_set ds tt
params_persist method.ChooseSet ds = mapped IsSoundAsking _ (single text_in ds) (λ t is. tt)
params_persist method.OutOfLimits ds = alone_sound asks_out_of_limits ds tt
params_persist method.Events ds = mapped IsSoundAsking _ (may_be natural_in ds) (λ n is. tt)
params_persist method.Interfaces ds = alone_sound asks_interfaces ds tt
params_persist method.Interface ds = mapped IsSoundAsking _ (single text_in ds) (λ t is. tt)
params_persist method.Inject ds = and_then IsSoundAsking _ (packet_first ds) (λ p is. mapped IsSoundAsking _ (single object_in p.1) (λ ms there. tt))
params_persist method.Stop ds = alone_sound stops ds tt

-- ---- what is said

a_maker : (a b c d e : Bool) → c ≡ true → ((((a || b) || c) || d) || e) ≡ true
a_maker a b c d e h = grind arith

module _ (s : Shown) (by : ℕ) (time : Time) (a : Asking) (d : code.Done) (kept : IsKept s.basis s.entries) (few : length s.basis.site.definitions.set_names ≤ most_sets)
    (desk : is_desk s.basis.site by ≡ true) (active : has_ended by s.entries ≡ false) (asked : IsSoundAsking a) (persist : LimitsPersist a (Ok d)) (has : HasAnswered (point s) a (Ok d)) where
  sets_few : length (known_sets s.basis.site s.entries) ≤ most_sets
  sets_few = few_known s.basis.site [] s.entries few kept.of_site

  lasting : (x : Asking) (what : What) → IsSoundAsking x → LimitsPersist x (Ok d) → d.what ≡ Some what → Lasts s.basis s.entries by sets_few x what
  lasting (sets_limits name new) what good keeps is = some_of IsPersistent d.what what (keeps good) is
  lasting (asks_value kind name) what good keeps is = tt
  lasting (asks_packet p kind) what good keeps is = tt
  lasting (asks_received p) what good keeps is = tt
  lasting (asks_sent p) what good keeps is = tt
  lasting (sends k order) what good keeps is = tt
  lasting (asks_limits name set) what good keeps is = tt
  lasting (enables on name) what good keeps is = tt
  lasting asks_set what good keeps is = tt
  lasting (chooses_set name) what good keeps is = tt
  lasting asks_out_of_limits what good keeps is = tt
  lasting (asks_events from) what good keeps is = tt
  lasting asks_interfaces what good keeps is = tt
  lasting (asks_interface name) what good keeps is = tt
  lasting (injects name _) what good keeps is = tt
  lasting stops what good keeps is = tt

  said : (what : Option What) → d.what ≡ what → CanSayIt s by time what
  said None is = tt
  said (Some what) is =
      let posts = has.2.3 ∙ ap whats_of is in record {
        allowed = allowed s.basis s.entries by time has.0 a has.2.0 what desk active has.2.1 posts;
        of_site = record {
          maker = a_maker (is_interface s.basis.site by) (is_slot s.basis.site by) (is_desk s.basis.site by) _ _ desk;
          said = all_said s.basis s.entries by sets_few has.0 a has.2.0 what has.2.1 posts (lasting a what asked persist is);
        };
      }

  pub may_say : CanSayIt s by time d.what
  may_say = said d.what refl
