-- What a running core holds stays sound, and what it may append to its hall.
use Rattle.std.proofs.Common.{◌≡◌, ℕ, zero, suc, map, get_or, ◌≤◌, ◌<◌, Bool, true, false, ◌||◌, List, [], ◌∷◌, ◌++◌, length, Option, Some, None, Result, Ok, Err, refl, sym, ◌∙◌, ap, subst, arith, append-nil, inl, inr, ◌⊎◌}
use Rattle.std.specs.Prelude.{◌==◌, ◌≢◌, ◌&&◌, not, set, unwrap_or, if◌then◌else◌}
use Rattle.std.proofs.lemmas.Bool.{cases_eq}
use Rattle.std.proofs.lemmas.List.{length-set, get_or-set_same, get_or-set_other, length-map}
use Rattle.cts_def.specs.Makers.{server}
use Rattle.cts_def.specs.Sites.{IsSoundSite, SiteData}
use Rattle.cts_def.specs.declared.time.Time.{Time}
use Rattle.cts_entry.specs.declared.entry.Entry.{Entry}
use Rattle.cts_entry.specs.declared.what.What.TheVariants.{Opened, Stop}
use Rattle.cts_entry.specs.declared.why.Why.{Why}
use Rattle.cts_entry.specs.Histories.{or_earlier, latest, connects, connects_maker, is_connected, is_stopped}
use Rattle.cts_entry.specs.Legal.{most_bytes as bytes_limit}
use Rattle.cts_entry.specs.Workers.{is_worker}
use Rattle.cts_chain.specs.Shapes.{ChainData}
use Rattle.cts_trace.proofs.Walks.{connected_kept, packets_connect}
use Rattle.cts_table.specs.States.{Shown, CanAdd}
use Rattle.cts_connection.specs.LinePlaces.{is_line, line_count, line_place}
use Rattle.cts_core.specs.Environments.{environment_of}
use Rattle.cts_connection.specs.Routings.{site_routing}
use Rattle.cts_chain.specs.Chains.{last_fault}
use Rattle.cts_connection.specs.Connections.{AllIdle, HeldConnection, connection_at, no_chain, shut}
use Rattle.cts_core.specs.Takings.{Begins, CanPost, IsShut, Posts, Settles, Takes, lost}
use Rattle.cts_core.specs.Worlds.{Held, IsSoundHeld, changed, connection_of, first_held, with_connection}
use Rattle.cts_chain.specs.Builds.{AreFresh}
use Rattle.cts_def.specs.Protocols.{UseData}
use Rattle.cts_core.specs.declared.fault.WorldFault.{WorldFault}
use Rattle.cts_core.specs.declared.fault.WorldFault.TheVariants.{NotEnabled, Full, Memory}
use Rattle.cts_core.proofs.Building.{and_tells, place_held, place_other}
use Rattle.cts_core.proofs.Following.{Lasting, lasting_append, none_ended, packets_follow}
use Rattle.cts_core.proofs.Postings.{tells_maker, tells_no_other}
use Rattle.cts_entry.proofs.Appending.{connected-append}

-- the connection at a place
pub held_at : (cs : List HeldConnection) (by : ℕ) (c : HeldConnection) → by < length cs → c ≡ get_or cs by c → connection_at cs by ≡ c
held_at [] by c m e = absurd (omega (arith, m))
held_at (x ∷ cs) zero c m e = sym e
held_at (x ∷ cs) (suc by) c m e = held_at cs by c (omega (arith, m)) e

-- there is none past the end
pub none_past : (cs : List HeldConnection) (by : ℕ) → length cs ≤ by → connection_at cs by ≡ shut no_chain
none_past [] by h = refl
none_past (c ∷ cs) zero h = absurd (omega (arith, h))
none_past (c ∷ cs) (suc by) h = none_past cs by (omega (arith, h))

-- ---- what is held stays sound

flag_set : (w : Held) (by : ℕ) (c : HeldConnection) (entries : List Entry) (k : ℕ) → IsSoundHeld w → is_line w.basis.site by ≡ true → c.connected ≡ is_connected by (w.history ++ entries)
    → (k ≢ by → is_connected k (w.history ++ entries) ≡ is_connected k w.history) → is_line w.basis.site k ≡ true → ((k ≡ by) ⊎ (k ≢ by)) → (connection_of (changed by w entries c) k).connected ≡ is_connected k (w.history ++ entries)
flag_set w by c entries k h line mine others one (inl same) =
    subst (λ (j : ℕ). (connection_of (changed by w entries c) j).connected ≡ is_connected j (w.history ++ entries)) (sym same)
    (ap (λ (x : HeldConnection). x.connected) (get_or-set_same w.connections (line_place w.basis.site by) c (shut no_chain) (place_held w by h line)) ∙ mine)
flag_set w by c entries k h line mine others one (inr other) =
    ap (λ (x : HeldConnection). x.connected) (get_or-set_other w.connections (line_place w.basis.site by) (line_place w.basis.site k) c (shut no_chain) (place_other w.basis.site k by h.site one line other))
    ∙ (h.connected k one ∙ sym (others other))

-- one connection is changed, and entries stand after the others
pub sound_changed : (w : Held) (by : ℕ) (c : HeldConnection) (entries : List Entry) → IsSoundHeld w → is_line w.basis.site by ≡ true → c.connected ≡ is_connected by (w.history ++ entries)
    → ((k : ℕ) → k ≢ by → is_connected k (w.history ++ entries) ≡ is_connected k w.history) → Lasting entries → IsSoundHeld (changed by w entries c)
sound_changed w by c entries h line mine others last = record {
  site = h.site;
  count = length-set w.connections (line_place w.basis.site by) c ∙ h.count;
  connected = λ k one. flag_set w by c entries k h line mine (others k) one (cases_eq k by);
  lasting = lasting_append w.history entries h.lasting last;
  small = h.small;
}

-- the chain of a connection is changed, and not whether it stands
pub sound_taken : (w : Held) (by : ℕ) (c : HeldConnection) → IsSoundHeld w → is_line w.basis.site by ≡ true → c.connected ≡ (connection_of w by).connected → IsSoundHeld (with_connection by w c)
sound_taken w by c h line same =
    subst (λ (l : List Entry). IsSoundHeld (record w { history = l; connections = set w.connections (line_place w.basis.site by) c })) (append-nil w.history)
    (sound_changed w by c [] h line (same ∙ (h.connected by line ∙ ap (is_connected by) (sym (append-nil w.history)))) (λ k other. ap (is_connected k) (append-nil w.history)) refl)

-- entries that open and close nothing stand after the others
pub sound_more : (w : Held) (entries : List Entry) → IsSoundHeld w → ((k : ℕ) → latest (connects_maker k) entries ≡ None) → Lasting entries → IsSoundHeld (record w { history = w.history ++ entries })
sound_more w entries h none last = record {
  site = h.site;
  count = h.count;
  connected = λ k n. h.connected k n ∙ sym (connected_kept k w.history entries (none k));
  lasting = lasting_append w.history entries h.lasting last;
  small = h.small;
}

pub sound_clock : (w : Held) (time : Time) → IsSoundHeld w → IsSoundHeld (record w { time = time })
sound_clock w time h = record { site = h.site; count = h.count; connected = h.connected; lasting = h.lasting; small = h.small }

pub fresh_idle : (chains : List (List UseData)) (cs : List ChainData) → AreFresh chains cs → AllIdle cs
fresh_idle [] [] f = tt
fresh_idle [] (c ∷ cs) f = absurd f
fresh_idle (uses ∷ chains) [] f = absurd f
fresh_idle (uses ∷ chains) (c ∷ cs) f = (f.0.idle, fresh_idle chains cs f.1)

pub none_stands : (cs : List ChainData) (by : ℕ) → (connection_at (map shut cs) by).connected ≡ false
none_stands [] by = refl
none_stands (c ∷ cs) zero = refl
none_stands (c ∷ cs) (suc by) = none_stands cs by

pub sound_first : (site : SiteData) (entries bytes : ℕ) (cs : List ChainData) → IsSoundSite site → length cs ≡ line_count site → bytes ≤ bytes_limit → IsSoundHeld (first_held site entries bytes cs)
sound_first site entries bytes cs sound count small = record { site = sound; count = length-map cs shut ∙ count; connected = λ by line. none_stands cs (line_place site by); lasting = refl; small = small }

-- ---- what the tests tell

off_of : (b : Bool) → not b ≡ true → b ≡ false
off_of true h = absurd (cc h)
off_of false h = refl

pub is_shut : (w : Held) (by : ℕ) → IsSoundHeld w → (is_line w.basis.site by && (not (connection_of w by).connected && not (is_stopped w.history))) ≡ true → IsShut w by
is_shut w by h t =
    let parts = and_tells _ _ t in
    let inner = and_tells _ _ parts.1 in
    record { line = parts.0; off = sym (h.connected by parts.0) ∙ off_of _ inner.0; going = off_of _ inner.1 }

-- a line whose connection stands
pub record IsOpen (w : Held) (by : ℕ) (test : Bool) : Type 0 where
  pub line : is_line w.basis.site by ≡ true
  pub flag : (connection_of w by).connected ≡ true
  pub on : is_connected by w.history ≡ true
  pub passes : test ≡ true

pub is_open : (w : Held) (by : ℕ) (test : Bool) → IsSoundHeld w → (is_line w.basis.site by && ((connection_of w by).connected && test)) ≡ true → IsOpen w by test
is_open w by test h t =
    let parts = and_tells _ _ t in
    let inner = and_tells _ _ parts.1 in
    record { line = parts.0; flag = inner.0; on = sym (h.connected by parts.0) ∙ inner.0; passes = inner.1 }

-- a line's connection stands where the history says so
pub stands_at : (w : Held) (by : ℕ) → IsSoundHeld w → is_line w.basis.site by ≡ true → (connection_of w by).connected ≡ true → IsOpen w by true
stands_at w by h line flag = record { line = line; flag = flag; on = sym (h.connected by line) ∙ flag; passes = refl }

-- ---- what is held after an entry of a maker

-- an entry tells of its own maker alone
pub other_kept : (by : ℕ) (history : List Entry) (e : Entry) → e.by ≡ by → (k : ℕ) → k ≢ by → is_connected k (history ++ e ∷ []) ≡ is_connected k history
other_kept by history e same k other = connected_kept k history (e ∷ []) (tells_no_other k e (λ x. other (x ∙ same)))

pub own_told : (by : ℕ) (history : List Entry) (e : Entry) (on : Bool) → e.by ≡ by → connects e.what ≡ Some on → on ≡ is_connected by (history ++ e ∷ [])
own_told by history e on same t = sym (connected-append by history (e ∷ []) ∙ ap (λ (o : Option Bool). unwrap_or (or_earlier o (latest (connects_maker by) history)) false) (tells_maker by e same ∙ t))

pub sound_opened : (w : Held) (by : ℕ) (c : HeldConnection) → IsSoundHeld w → is_line w.basis.site by ≡ true → c.connected ≡ true → IsSoundHeld (changed by w (record { by = by; time = w.time; what = Opened } ∷ []) c)
sound_opened w by c h m on =
    let e : Entry = record { by = by; time = w.time; what = Opened } in
    sound_changed w by c (e ∷ []) h m (on ∙ own_told by w.history e true refl refl) (other_kept by w.history e refl) refl

pub sound_closed : (w : Held) (by : ℕ) (old c : HeldConnection) (why : Why) → IsSoundHeld w → is_line w.basis.site by ≡ true → c.connected ≡ false → IsSoundHeld (changed by w (lost w.basis.site by w.time w.history old why ∷ []) c)
sound_closed w by old c why h m off =
    let e = lost w.basis.site by w.time w.history old why in
    sound_changed w by c (e ∷ []) h m (off ∙ own_told by w.history e false refl refl) (other_kept by w.history e refl) refl

stop_tells_none : (k : ℕ) (b : Bool) → (if b then connects Stop else None) ≡ None
stop_tells_none k true = refl
stop_tells_none k false = refl

pub sound_stopped : (w : Held) (now : Time) → IsSoundHeld w → IsSoundHeld (record w { history = w.history ++ record { by = server; time = now; what = Stop } ∷ [] })
sound_stopped w now h = sound_more w (record { by = server; time = now; what = Stop } ∷ []) h (λ k. stop_tells_none k (server == k)) refl

-- ---- one entry

server_makes : (a : Bool) → (a || (server == server)) ≡ true
server_makes true = refl
server_makes false = refl

pub can_stop : (s : Shown) (now : Time) → is_stopped s.entries ≡ false → Lasting s.entries → CanAdd s (record { by = server; time = now; what = Stop })
can_stop s now going last = record {
  allowed = record { active = none_ended server s.entries last; says = going };
  of_site = record { maker = server_makes (is_worker s.basis.site server); said = tt };
  entry = omega arith;
  bytes = omega arith;
}

-- ---- packets

-- packets that a connection may post end nobody
packets_last : (w : Held) (by : ℕ) (entries : List Entry) (why : Option Why) → IsSoundHeld w → CanPost by w entries why → Lasting entries
packets_last w by entries why sound can =
    let is = stands_at w by sound can.line can.connected in
    let env = environment_of w.basis in
    let follows = packets_follow env w.history w.time by can.packets is.line is.on sound.lasting in
    subst Lasting (sym can.entries_are) follows.1

settled_sound : (w new : Held) (by : ℕ) (why : Option Why) → IsSoundHeld w → is_line w.basis.site by ≡ true → Settles by w why new → IsSoundHeld new
settled_sound w new by None sound line p = subst IsSoundHeld (sym p) sound
settled_sound w new by (Some why) sound line p = subst IsSoundHeld (sym p.2) (sound_closed w by (connection_of w by) p.0 why sound line p.1.connected_is)

-- what is held stays sound when packets are posted, or not
pub sound_posts : (w new : Held) (by : ℕ) (entries : List Entry) (why : Option Why) (result : Result (Unit {0}) WorldFault) → IsSoundHeld w → CanPost by w entries why → Posts by w entries why result new → IsSoundHeld new
sound_posts w new by entries why (Ok tt) sound can p =
    let none : (j : ℕ) → latest (connects_maker j) entries ≡ None = λ j. ap (latest (connects_maker j)) can.entries_are ∙ packets_connect j (site_routing w.basis.site) w.history w.time by can.packets in
    settled_sound (record w { history = w.history ++ entries }) new by why (sound_more w entries sound none (packets_last w by entries why sound can)) can.line p.1
sound_posts w new by entries why (Err NotEnabled) sound can p = absurd p
sound_posts w new by entries why (Err (Full counted size)) sound can p = subst IsSoundHeld (sym p.3) sound
sound_posts w new by entries why (Err Memory) sound can p = subst IsSoundHeld (sym p.1) sound

-- and when a connection is opened, or not
pub sound_begins : (w new : Held) (by : ℕ) (result : Result (Unit {0}) WorldFault) → IsSoundHeld w → IsShut w by → Begins by w result new → IsSoundHeld new
sound_begins w new by (Ok tt) sound is p = subst IsSoundHeld (sym p.1.3) (sound_opened w by p.1.0 sound is.line p.1.1.connected_is)
sound_begins w new by (Err NotEnabled) sound is p = absurd p
sound_begins w new by (Err (Full counted size)) sound is p = subst IsSoundHeld (sym p.3) sound
sound_begins w new by (Err Memory) sound is p = subst IsSoundHeld (sym p.1) sound

-- a connection that was fed a piece may post what was taken
pub can_post : (w mid : Held) (by : ℕ) (piece : List ℕ) (entries : List Entry) (unposted : ℕ) (why : Option Why) (test : Bool) → IsSoundHeld w → IsOpen w by test → Takes by w piece entries unposted why mid → CanPost by mid entries why
can_post w mid by piece entries unposted why test sound is k = subst (λ (x : Held). CanPost by x entries why) (sym k.4) (record {
  line = is.line;
  connected = ap (λ (x : HeldConnection). x.connected) (get_or-set_same w.connections (line_place w.basis.site by) k.0 (shut no_chain) (place_held w by sound is.line)) ∙ (k.1 ∙ is.flag);
  packets = k.3.packets;
  entries_are = k.3.entries_are;
  fault = last_fault 1 k.0.chain.stages;
  why_is = k.3.why_is;
})
