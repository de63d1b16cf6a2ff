-- Entries that an event appends are allowed after a history, and nobody ends by them.
use Rattle.std.proofs.Common.{◌≡◌, ℕ, ◌==◌, ◌-◌, Bool, true, false, ◌&&◌, ◌||◌, List, [], ◌∷◌, ◌++◌, Option, Some, None, refl, sym, ◌∙◌, ap, subst, arith, append-nil}
use Rattle.std.specs.Prelude.{nat_le}
use Rattle.std.specs.List.{list_any}
use Rattle.std.proofs.lemmas.List.Folds.{list_any-append}
use Rattle.cts_def.specs.Makers.{first_desk}
use Rattle.cts_def.specs.declared.time.Time.{Time}
use Rattle.cts_entry.specs.declared.entry.Entry.{Entry}
use Rattle.cts_entry.specs.declared.why.Why.{Why}
use Rattle.cts_entry.specs.declared.why.Why.TheVariants.{PeerEnded, ReadFault, WriteFault, BadFrame, Stopped, NoMemory, Full}
use Rattle.cts_entry.specs.Histories.{is_connected}
use Rattle.cts_entry.specs.Legal.{Rules, is_ended, has_ended, StopsAfter, Allows, AllAllowed}
use Rattle.cts_framing.specs.Framing.{Output}
use Rattle.cts_core.specs.States.{Environment, is_line, may_close}
use Rattle.cts_trace.specs.Routing.{time_in, said_of, posted_entries}
use Rattle.cts_connection.proofs.Posting.{packets_allowed, sayable}

-- how an environment judges a history
abbrev pub rules_by : Environment → Rules
rules_by env = record {
  is_interface = env.routing.is_interface;
  is_slot = env.is_slot;
  is_desk = λ by. nat_le first_desk by && env.is_desk (by - first_desk);
  interface_of = env.routing.interface_of;
  most_entries = env.most_entries;
  most_bytes = env.most_bytes;
}

-- nobody has ended
abbrev pub Lasting : List Entry → Type 0
Lasting history = list_any (λ (e : Entry). is_ended e.what) history ≡ false

pub lasting_append : (xs ys : List Entry) → Lasting xs → Lasting ys → Lasting (xs ++ ys)
lasting_append xs ys h k = let a = list_any-append (λ (e : Entry). is_ended e.what) xs ys in grind arith

pub none_ended : (by : ℕ) (history : List Entry) → Lasting history → has_ended by history ≡ false
none_ended by [] h = refl
none_ended by (e ∷ es) h =
    let head : is_ended e.what ≡ false = grind arith in
    let tail : Lasting es = grind arith in
    let more = none_ended by es tail in
    grind arith

-- entries that an event appends after a history: each is allowed, and nobody ends
abbrev pub Follows : Environment → List Entry → List Entry → Type 0
Follows env history entries = AllAllowed (rules_by env) history entries × Lasting entries

pub one_follows : (env : Environment) (before : List Entry) (e : Entry) → Lasting before → Allows (rules_by env) before e.by e.what → is_ended e.what ≡ false → Follows env before (e ∷ [])
one_follows env before e last says none = ((record { active = none_ended e.by before last; says = says }, tt), ap (λ (b : Bool). b || false) none)

-- nobody ends by the entries of packets
none_by_packets : (env : Environment) (history : List Entry) (now : Time) (m : ℕ) (outs : List Output) → is_line env m ≡ true → is_connected m history ≡ true → Lasting (posted_entries env.routing history now m outs)
none_by_packets env history now m [] line on = refl
none_by_packets env history now m (o ∷ outs) line on =
    let rules = rules_by env in
    let says = sayable env.routing rules.is_slot rules.is_desk rules.most_entries rules.most_bytes history m o line on in
    let e : Entry = record { by = m; time = time_in o.heading now; what = said_of env.routing history m o } in
    lasting_append (e ∷ []) (posted_entries env.routing history now m outs) (ap (λ (b : Bool). b || false) says.1) (none_by_packets env history now m outs line on)

pub packets_follow : (env : Environment) (history : List Entry) (now : Time) (m : ℕ) (outs : List Output) → is_line env m ≡ true → is_connected m history ≡ true → Lasting history
    → Follows env history (posted_entries env.routing history now m outs)
packets_follow env history now m outs line on last =
    let rules = rules_by env in
    let P : List Entry → Type 0 = λ l. has_ended m l ≡ false in
    let allowed =
    packets_allowed env.routing rules.is_slot rules.is_desk rules.most_entries rules.most_bytes history now m outs [] (λ k. refl) line on
    (subst P (sym (append-nil history)) (none_ended m history last))
    in
    (subst (λ (l : List Entry). AllAllowed rules l (posted_entries env.routing history now m outs)) (append-nil history) allowed, none_by_packets env history now m outs line on)

pub stops_after : (history : List Entry) (why : Why) → may_close history why ≡ true → StopsAfter history why
stops_after history PeerEnded h = tt
stops_after history ReadFault h = tt
stops_after history WriteFault h = tt
stops_after history (BadFrame stage cause) h = tt
stops_after history Stopped h = h
stops_after history NoMemory h = tt
stops_after history Full h = tt
