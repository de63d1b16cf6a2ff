-- There are bytes of commands and of injections.
use Rattle.std.proofs.Common.{◌≡◌, ℕ, zero, suc, ℤ, ◌-◌, ◌≤◌, ◌<◌, Bool, true, false, List, [], ◌∷◌, ◌++◌, Option, Some, None, length, take, drop, get_or, refl, sym, ap, ◌∙◌, subst, arith, unsigned_abs}
use Rattle.std.specs.Prelude.{option_map, replicate, slice_get, unwrap_or, if◌then◌else◌}
use Rattle.std.specs.Int.{is_negative}
use Rattle.std.specs.List.{AllByRecursion, cons_option, filter_map, find, list_all, list_any, position}
use Rattle.std.proofs.lemmas.Bool.{and_parts}
use Rattle.std.proofs.lemmas.List.{length-append, length-drop, length-replicate, length-take-le}
use Rattle.std.proofs.lemmas.List.Quantifiers.{position-Some}
use Rattle.std.proofs.lemmas.Option.{slice_get-get_or}
use Rattle.cts_base.specs.Names.{spells}
use Rattle.cts_def.specs.declared.item_kind.Preset.{Preset}
use Rattle.cts_def.specs.declared.item_kind.Preset.TheVariants.{Whole, Raw}
use Rattle.cts_def.specs.Items.{ItemData, is_from_start, span_of}
use Rattle.cts_def.specs.Packets.{DefinitionsData, PacketData, is_named}
use Rattle.cts_def.specs.Spans.{bytes_needed, is_misplaced, is_number}
use Rattle.cts_cmd.specs.declared.built.Built.{Built}
use Rattle.cts_cmd.specs.declared.refused.Refused.TheVariants.{UnknownTarget}
use Rattle.cts_cmd.specs.declared.request.Checks.{Checks}
use Rattle.cts_cmd.specs.declared.request.Given.{Given}
use Rattle.cts_cmd.specs.declared.request.Request.{Request}
use Rattle.cts_cmd.specs.Builds.{AreBytes, IsBuilt, IsNamedAt, WritesAll, lies_within}
use Rattle.cts_cmd.specs.Checks.{has_target, item_named, refusal, refusal_among, refusal_at}
use Rattle.cts_cmd.specs.Contents.{content, content_given}
use Rattle.cts_cmd.specs.Injects.{Injects, WritesFrom, base, from_base, injection_refusal, stood, with_item}
use Rattle.cts_cmd.proofs.Behind.{base_within, kind_after, placed_after, room_after, same_start, size_after, start_after}
use Rattle.cts_cmd.proofs.Injected.{all_found, all_more, within_of}
use Rattle.cts_cmd.proofs.Written.{all_within, command_starts, found_nowhere}
use Rattle.cts_cmd_laws.specs.Existing.{HasCommand, LeavesBytes, StandAsBytes}
use Rattle.cts_cmd_laws.specs.Sound.{AreCommands, IsCommand, IsItem, IsPacket}
use Rattle.cts_cmd_laws.proofs.Bytes.{bytes_both, bytes_drop, bytes_take, bytes_zeros}
use Rattle.cts_cmd_laws.proofs.Contents.{can_hold, content_suits, from_the_start, given_suits}
use Rattle.cts_cmd_laws.proofs.Fields.{CanHold, has_place, item_written}

-- ---- commands

-- Bytes in which all the items hold what is given.
record AllWritten (params : List (List ℕ × Given)) (items : List ItemData) (old : List ℕ) : Type 0 where
  new : List ℕ
  writes : WritesAll (content params) items old new

all_written : (params : List (List ℕ × Given)) (items : List ItemData) (old : List ℕ) → AllByRecursion IsItem items → list_all is_from_start items ≡ true → list_all (lies_within (length old)) items ≡ true → AreBytes old
    → AllWritten params items old
all_written params [] old sound starts within all = record { new = old; writes = refl }
all_written params (i ∷ items) old sound starts within all =
    let start = and_parts (is_from_start i) (list_all is_from_start items) starts in
    let room = and_parts (lies_within (length old) i) (list_all (lies_within (length old)) items) within in
    let from = from_the_start i start.0 in
    let held = content_suits params i sound.0 (λ number. (has_place i number from sound.0.sound.placed).some) in
    let one = item_written i (content params i) old (can_hold i (content params i) held) from sound.0.sound.placed (within_of (length old) i room.0) all in
    let more = all_written params items one.new sound.1 start.1 (all_more items (length old) (length one.new) one.long room.1) one.bytes in
    record { new = more.new; writes = (one.new, one.writes, more.writes) }

command_written : (c : PacketData) (params : List (List ℕ × Given)) → IsCommand c → AllWritten params c.items (replicate c.length 0)
command_written c params it =
    let least = it.packet.sound.least in
    let len = length-replicate {A = ℕ} c.length 0 in
    all_written params c.items (replicate c.length 0) it.packet.items (command_starts c it.command) (all_within c.items (length (replicate c.length 0)) (omega (arith, least, len))) (bytes_zeros c.length)

-- ---- the command that a request names

pub at_place : (P : PacketData → Type 0) (xs : List PacketData) (n : ℕ) (d : PacketData) → AllByRecursion P xs → n < length xs → P (get_or xs n d)
at_place P [] n d all lt = absurd (omega (arith, lt))
at_place P (x ∷ xs) zero d all lt = all.0
at_place P (x ∷ xs) (suc n) d all lt = at_place P xs n d all.1 (omega (arith, lt))

not_none : (b : Bool) (o : Option PacketData) (r : Request) (k : Checks) → o ≡ None → (if b then refusal_at o r k else Some UnknownTarget) ≡ None → ⊥
not_none true o r k e h = let no : refusal_at None r k ≡ None = ap (λ (x : Option PacketData). refusal_at x r k) (sym e) ∙ h in cc
not_none false o r k e h = cc

no_command : (n : ℕ) (r : Request) → position (is_named r.target r.command) [] ≡ Some n → ⊥
no_command n r e = cc

has_by : (commands : List PacketData) (d : DefinitionsData) (r : Request) (k : Checks) (o : Option ℕ) → commands ≡ d.commands → position (is_named r.target r.command) commands ≡ o → AreCommands commands
    → refusal_among commands r k ≡ None → HasCommand d r
has_by commands d r k None same e sound fine =
    absurd (not_none (list_any (has_target r.target) commands) (find (is_named r.target r.command) commands) r k (found_nowhere (is_named r.target r.command) commands e) fine)
has_by [] d r k (Some n) same e sound fine = absurd (no_command n r e)
has_by (c ∷ commands) d r k (Some n) same e sound fine =
    let at = position-Some (is_named r.target r.command) (c ∷ commands) n c e in
    let it : PacketData = get_or (c ∷ commands) n c in
    let number = slice_get-get_or (c ∷ commands) n c at.0 in
    let w = command_written it r.params (at_place IsCommand (c ∷ commands) n c sound at.0) in
    let b : Built = record { command = n; bytes = w.new } in
    let named : IsNamedAt (c ∷ commands) r n = record { it = it; first = e; number = number; named = at.1 } in
    let named_in : IsNamedAt d.commands r n = record {
      it = it;
      first = subst (λ (cs : List PacketData). position (is_named r.target r.command) cs ≡ Some n) same e;
      number = subst (λ (cs : List PacketData). slice_get cs n ≡ Some it) same number;
      named = at.1;
    } in
    let built : IsBuilt d r b = record { command = named_in; bytes = w.writes } in
    (b, built)

pub requests_have_their_command : (d : DefinitionsData) (r : Request) (k : Checks) → AreCommands d.commands → refusal d r k ≡ None → HasCommand d r
requests_have_their_command d r k sound fine = has_by d.commands d r k (position (is_named r.target r.command) d.commands) refl refl sound fine

-- ---- injected values

placed_by : (end : Bool) (i : ItemData) → is_negative i.offset ≡ end → is_misplaced (span_of i) ≡ false → is_misplaced (span_of (from_base i)) ≡ false
placed_by true i end placed = let h = placed_after (span_of i) end placed in rw end h
placed_by false i end placed = ap (λ (j : ItemData). is_misplaced (span_of j)) (same_start i end) ∙ placed

can_after : (end : Bool) (i : ItemData) (held : Preset) → is_negative i.offset ≡ end → CanHold i held → CanHold (from_base i) held
can_after true i (Whole z) end can = rw end can
can_after false i (Whole z) end can = rw end can
can_after end i (Raw bytes) e can = can

-- Bytes in which the field holds it, where its offset counts from a byte of its own.
record FromWritten (i : ItemData) (held : Preset) (old : List ℕ) : Type 0 where
  new : List ℕ
  writes : WritesFrom i held old new
  bytes : AreBytes new
  long : length old ≤ length new

from_written : (i : ItemData) (held : Preset) (old : List ℕ) → CanHold i held → is_misplaced (span_of i) ≡ false → bytes_needed (span_of i) ≤ length old → AreBytes old → FromWritten i held old
from_written i held old can placed room all =
    let end = is_negative i.offset in
    let at = base (length old) i in
    let le = base_within (length old) i end refl in
    let fits = room_after i (length old) end refl placed room in
    let rest = length-drop at old in
    let front = length-take-le at old le in
    let one = item_written (from_base i) held (drop at old) (can_after end i held refl can) (start_after i end refl) (placed_by end i refl placed) (omega (arith, fits, rest)) (bytes_drop at old all) in
    let both = length-append (take at old) one.new in
    let long = one.long in
    record {
      new = take at old ++ one.new;
      writes = (one.new, one.writes, refl);
      bytes = bytes_both (take at old) one.new (bytes_take at old all) one.bytes;
      long = omega (arith, rest, front, both, long);
    }

member_written : (i : ItemData) (g : Given) (old : List ℕ) → IsItem i → lies_within (length old) i ≡ true → AreBytes old → FromWritten i (content_given i g) old
member_written i g old it within all =
    let end = is_negative i.offset in
    let some : is_number i.kind ≡ true → 1 ≤ unsigned_abs i.size = λ number.
    subst (λ (z : ℤ). 1 ≤ unsigned_abs z) (size_after i end refl) (has_place (from_base i) (ap is_number (kind_after i end refl) ∙ number) (start_after i end refl) (placed_by end i refl it.sound.placed)).some in
    from_written i (content_given i g) old (can_hold i (content_given i g) (given_suits i g some)) it.sound.placed (within_of (length old) i within) all

found_by : (P : ItemData → Type 0) (q : ItemData → Bool) (x : ItemData) (xs : List ItemData) (it : ItemData) (test : Bool) → q x ≡ test → (find q xs ≡ Some it → P it) → P x → find q (x ∷ xs) ≡ Some it → P it
found_by P q x xs it true is more one e =
    let same : Some x ≡ Some it = rw is at e in
    subst P (ap (λ (o : Option ItemData). unwrap_or o x) same) one
found_by P q x xs it false is more one e = more (rw is at e)

-- what is found keeps what all keep
found_keeps : (P : ItemData → Type 0) (q : ItemData → Bool) (xs : List ItemData) (it : ItemData) → AllByRecursion P xs → find q xs ≡ Some it → P it
found_keeps P q [] it all e = cc
found_keeps P q (x ∷ xs) it all e = found_by P q x xs it (q x) refl (found_keeps P q xs it all.1) all.0 e

record MembersWritten (ms : List (ItemData × Given)) (old : List ℕ) : Type 0 where
  new : List ℕ
  injects : Injects ms old new

-- Any bytes that are no fewer can be written over by the others.
abbrev OthersWritten : List (ItemData × Given) → ℕ → Type 0
OthersWritten ms n = (old : List ℕ) → n ≤ length old → AreBytes old → MembersWritten ms old

one_of_members : (items : List ItemData) (m : List ℕ × Given) (rest : List (ItemData × Given)) (o : Option ItemData) (old : List ℕ) → item_named items m.0 ≡ o → AllByRecursion IsItem items
    → list_all (lies_within (length old)) items ≡ true → AreBytes old → OthersWritten rest (length old) → MembersWritten (cons_option (option_map (λ (i : ItemData). (i, m.1)) o) rest) old
one_of_members items m rest None old e sound within all others = others old (omega arith) all
one_of_members items m rest (Some i) old e sound within all others =
    let named = λ (j : ItemData). spells m.0 j.name in
    let one = member_written i m.1 old (found_keeps IsItem named items i sound e) (all_found (lies_within (length old)) named items i within e) all in
    let more = others one.new one.long one.bytes in
    record { new = more.new; injects = (one.new, one.writes, more.injects) }

members_written : (items : List ItemData) (ms : List (List ℕ × Given)) (old : List ℕ) → AllByRecursion IsItem items → list_all (lies_within (length old)) items ≡ true → AreBytes old
    → MembersWritten (filter_map (with_item items) ms) old
members_written items [] old sound within all = record { new = old; injects = refl }
members_written items (m ∷ ms) old sound within all =
    one_of_members items m (filter_map (with_item items) ms) (item_named items m.0) old refl sound within all
    (λ next long bytes. members_written items ms next sound (all_more items (length old) (length next) long within) bytes)

stood_bytes : (current : Option (List ℕ)) (count : ℕ) → StandAsBytes current → AreBytes (stood current count)
stood_bytes None count all = bytes_zeros count
stood_bytes (Some bytes) count all = bytes_both bytes (replicate (count - length bytes) 0) all (bytes_zeros (count - length bytes))

stood_long : (current : Option (List ℕ)) (count : ℕ) → count ≤ length (stood current count)
stood_long None count = let e = length-replicate {A = ℕ} count 0 in omega (arith, e)
stood_long (Some bytes) count = let e = length-append bytes (replicate (count - length bytes) 0) in let f = length-replicate {A = ℕ} (count - length bytes) 0 in omega (arith, e, f)

pub members_leave_bytes : (p : PacketData) (current : Option (List ℕ)) (members : List (List ℕ × Given)) → IsPacket p → StandAsBytes current → injection_refusal p.items members ≡ None → LeavesBytes p current members
members_leave_bytes p current members it all fine =
    let least = it.sound.least in
    let long = stood_long current p.length in
    let w = members_written p.items members (stood current p.length) it.items (all_within p.items (length (stood current p.length)) (omega (arith, least, long))) (stood_bytes current p.length all) in
    (w.new, w.injects)
