-- The persistence of an item with limits is at least 1.
use Rattle.std.proofs.Common.{◌≡◌, ℕ, ◌≤◌, Bool, true, false, List, [], ◌∷◌, ◌++◌, Option, Some, None, refl, ap, subst, arith}
use Rattle.std.specs.Prelude.{◌==◌, ◌&&◌, is_some, option_map, slice_get, unwrap_or, if◌then◌else◌}
use Rattle.cts_def.specs.Items.{HasSoundLimits, ItemData}
use Rattle.cts_def.specs.Packets.{PacketData}
use Rattle.cts_def.specs.Sites.{SiteData}
use Rattle.cts_def.specs.declared.limits.Limits.{Limits}
use Rattle.cts_def.specs.declared.limits_setup.LimitsSetup.{LimitsSetup}
use Rattle.cts_entry.specs.declared.entry.Entry.{Entry}
use Rattle.cts_entry.specs.declared.what.What.{What}
use Rattle.cts_entry.specs.declared.what.What.TheVariants.{Opened, Packet, Closed, Command, SetLimits, Enable, LimitsSetIs, Injected, Unrouted, Stop, Ended}
use Rattle.cts_entry.specs.Histories.{latest, or_earlier}
use Rattle.cts_table.specs.Keeping.{AllOfSite, IsSaid}
use Rattle.cts_monitor.specs.Settings.{Watched, enabled_of, limits_in, first_persistence, limits_of, limits_used, limits_used_in, persistence_in_what, persistence_of, persistence_told, sets_of, watched_in, watched_of}
use Rattle.cts_monitor.specs.declared.types.LimitsUsed.{LimitsUsed}
use Rattle.cts_api.specs.Settling.{HasPersistence}

the_same : (n m : ℕ) → Some n ≡ Some m → n ≡ m
the_same n m e = ap (λ (o : Option ℕ). unwrap_or o n) e

if_persists : (b : Bool) (m n : ℕ) → 1 ≤ m → (if b then Some m else None) ≡ Some n → 1 ≤ n
if_persists true m n some e = let same = the_same m n e in omega (arith, some, same)
if_persists false m n some e = absurd (cc e)

what_persists : (site : SiteData) (before : List Entry) (by p i n : ℕ) (what : What) → IsSaid site before by what → persistence_in_what p i what ≡ Some n → 1 ≤ n
what_persists site before by p i n Opened said e = absurd (cc e)
what_persists site before by p i n (Packet ident stored bytes) said e = absurd (cc e)
what_persists site before by p i n (Closed why loss unposted unsent) said e = absurd (cc e)
what_persists site before by p i n (Command interface command bytes) said e = absurd (cc e)
what_persists site before by p i n (SetLimits enabled packet item persistence set limits) said e = if_persists (packet == p && item == i) persistence n said.1 e
what_persists site before by p i n (Enable packet item enabled) said e = absurd (cc e)
what_persists site before by p i n (LimitsSetIs set) said e = absurd (cc e)
what_persists site before by p i n (Injected packet bytes) said e = absurd (cc e)
what_persists site before by p i n (Unrouted why bytes) said e = absurd (cc e)
what_persists site before by p i n Stop said e = absurd (cc e)
what_persists site before by p i n Ended said e = absurd (cc e)

later_persists : (site : SiteData) (before : List Entry) (p i n : ℕ) (x : Entry) (later : Option ℕ) → IsSaid site before x.by x.what → ((m : ℕ) → later ≡ Some m → 1 ≤ m) → or_earlier later (persistence_told p i x) ≡ Some n → 1 ≤ n
later_persists site before p i n x None said more e = what_persists site before x.by p i n x.what said e
later_persists site before p i n x (Some m) said more e = more n e

latest_persists : (site : SiteData) (before es : List Entry) (p i n : ℕ) → AllOfSite site before es → latest (persistence_told p i) es ≡ Some n → 1 ≤ n
latest_persists site before [] p i n all e = absurd (cc e)
latest_persists site before (x ∷ es) p i n all e =
    later_persists site before p i n x (latest (persistence_told p i) es) all.0.said (λ m is. latest_persists site (before ++ x ∷ []) es p i m all.1 is) e

first_persists : (item : ItemData) (l : Option LimitsSetup) → HasSoundLimits item l → 1 ≤ first_persistence l
first_persists item None sound = omega arith
first_persists item (Some setup) sound = let some = sound.1.some in omega (arith, some)

or_persists : (o : Option ℕ) (n : ℕ) → ((m : ℕ) → o ≡ Some m → 1 ≤ m) → 1 ≤ n → 1 ≤ unwrap_or o n
or_persists None n told first = first
or_persists (Some m) n told first = told m refl

module _ (site : SiteData) (history : List Entry) (all : AllOfSite site [] history) (p i : ℕ) (q : PacketData) (item : ItemData) (sound : HasSoundLimits item item.limits) where
  abbrev w : Watched
  w = record { packet = q; item = item; at = p; index = i }

  persists : 1 ≤ persistence_of w history
  persists = or_persists (latest (persistence_told p i) history) (first_persistence item.limits) (λ m is. latest_persists site [] history p i m all is) (first_persists item item.limits sound)

  abbrev made_of : List ℕ → Limits → LimitsUsed
  made_of set l = record { own = is_some (limits_in set (sets_of w history)); limits = l; persistence = persistence_of w history; enabled = enabled_of w history }

  abbrev kept_by : (u : LimitsUsed) → Option LimitsUsed → ℕ
  kept_by u None = u.persistence
  kept_by u (Some v) = v.persistence

  used_persists : (set : List ℕ) (u : LimitsUsed) (l : Option Limits) → option_map (made_of set) l ≡ Some u → 1 ≤ u.persistence
  used_persists set u None e = absurd (cc e)
  used_persists set u (Some l) e = let same : persistence_of w history ≡ u.persistence = ap (kept_by u) e in let some = persists in omega (arith, some, same)

  pub limits_persist : (set : List ℕ) (u : LimitsUsed) → slice_get site.definitions.telemetry p ≡ Some q → slice_get q.items i ≡ Some item → limits_of site p i set history ≡ Some u → 1 ≤ u.persistence
  limits_persist set u packet there e =
      let in_packet = subst (λ (o : Option PacketData). limits_used_in (watched_in o p i) set history ≡ Some u) packet e in
      let in_item = subst (λ (o : Option ItemData). limits_used_in (watched_of o q p i) set history ≡ Some u) there in_packet in
      used_persists set u (limits_used set (sets_of w history)) in_item

pub new_persists : (new : Option ℕ) (now : ℕ) → HasPersistence new → 1 ≤ now → 1 ≤ unwrap_or new now
new_persists None now asked some = some
new_persists (Some n) now asked some = asked
