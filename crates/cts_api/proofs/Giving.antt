-- What an answer that gives something has passed.
use Rattle.std.proofs.Common.{◌≡◌, ℕ, ℤ, Bool, true, false, List, Option, Some, None, refl, sym, ◌∙◌, ap, subst}
use Rattle.std.specs.Prelude.{codes, option_map, slice_get}
use Rattle.std.specs.List.{position}
use Rattle.cts_cmd.specs.declared.refused.Refused.{Refused}
use Rattle.cts_def.specs.Items.{ItemData}
use Rattle.cts_def.specs.Packets.{PacketData, is_named}
use Rattle.cts_entry.specs.declared.what.What.{What}
use Rattle.serde_json.specs.Data.{Data, null}
use Rattle.cts_api.specs.Answers.{Done, ItemAt, appended, check, first_with, given_or, is_called, item_at, next, numbered, or_refused, packet_at, posts, posts_nothing, told}
use Rattle.cts_methods.specs.Asking.{ItemName, PacketName}
use Rattle.cts_api.specs.Saying.{Said, refused, gives}
use Rattle.cts_api.specs.Shown.{no_such}

pub given : {A : Type 0} (a b : A) → gives a ≡ gives b → a ≡ b
given {A} a b e = ap inner e where
  inner : Said A → A
  inner (refused code message) = a
  inner (gives x) = x

pub next_gives : {A B : Type 0} (said : Said A) (rest : A → Said B) (b : B) → next said rest ≡ gives b → (a : A) × (said ≡ gives a) × (rest a ≡ gives b)
next_gives (refused code message) rest b e = absurd (cc e)
next_gives (gives a) rest b e = (a, refl, e)

pub check_gives : {A : Type 0} (passes : Bool) (code : ℤ) (message : List ℕ) (more : Said A) (a : A) → check passes (refused code message) more ≡ gives a → (passes ≡ true) × (more ≡ gives a)
check_gives true code message more a e = (refl, e)
check_gives false code message more a e = absurd (cc e)

pub or_gives : {A : Type 0} (code : ℤ) (message : List ℕ) (o : Option A) (a : A) → given_or (refused code message) o ≡ gives a → o ≡ Some a
or_gives code message None a e = absurd (cc e)
or_gives code message (Some x) a e = ap (λ y. Some y) (given x a e)

pub none_refused : {A : Type 0} (o : Option Refused) (more : Said A) (a : A) → or_refused o more ≡ gives a → (o ≡ None) × (more ≡ gives a)
none_refused None more a e = (refl, e)
none_refused (Some why) more a e = absurd (cc e)

pub told_posts : (said : Said Data) (d : Done) → told said ≡ gives d → d.posting ≡ posts_nothing
told_posts said d e =
    let n = next_gives said (λ (x : Data). gives (record { result = x; posting = posts_nothing })) d e in
    ap (λ (x : Done). x.posting) (sym (given _ d n.2))

pub appended_posts : (said : Said What) (d : Done) → appended said ≡ gives d → (w : What) × (said ≡ gives w) × (d.posting ≡ posts w)
appended_posts said d e =
    let n = next_gives said (λ (w : What). gives (record { result = null; posting = posts w })) d e in
    (n.0, n.1, ap (λ (x : Done). x.posting) (sym (given _ d n.2)))

-- ---- what is named stands at its number

some_is : {A : Type 0} (a b : A) → Some a ≡ Some b → a ≡ b
some_is {A} a b e = ap inner e where
  inner : Option A → A
  inner None = a
  inner (Some x) = x

pub first_there : {A : Type 0} (test : A → Bool) (all : List A) (f : ℕ × A) → first_with test all ≡ Some f → (position test all ≡ Some f.0) × (slice_get all f.0 ≡ Some f.1)
first_there {A} test all f e = by_place (position test all) refl where
  by_item : (n : ℕ) (o : Option A) → slice_get all n ≡ o → option_map (λ (a : A). (n, a)) o ≡ Some f → (Some n ≡ Some f.0) × (slice_get all f.0 ≡ Some f.1)
  by_item n None there e = absurd (cc e)
  by_item n (Some a) there e =
      let same : (n, a) ≡ f = some_is (n, a) f e in
      (ap (λ (p : ℕ × A). Some p.0) same, subst (λ (p : ℕ × A). slice_get all p.0 ≡ Some p.1) same there)

  by_place : (o : Option ℕ) → position test all ≡ o → (position test all ≡ Some f.0) × (slice_get all f.0 ≡ Some f.1)
  by_place None at = absurd (let none : None ≡ Some f = sym (ap (numbered all) at) ∙ e in cc none)
  by_place (Some n) at =
      let both = by_item n (slice_get all n) refl (sym (ap (numbered all) at) ∙ e) in
      (at ∙ both.0, both.1)

pub packet_there : (packets : List PacketData) (name : PacketName) (p : ℕ × PacketData) → packet_at packets name ≡ gives p → slice_get packets p.0 ≡ Some p.1
packet_there packets name p e =
    let known = check_gives _ _ _ (given_or (no_such (codes "Unknown packet")) (first_with (is_named name.target name.packet) packets)) p e in
    (first_there (is_named name.target name.packet) packets p (or_gives _ _ (first_with (is_named name.target name.packet) packets) p known.1)).1

pub item_there : (packets : List PacketData) (name : ItemName) (at : ItemAt) → item_at packets name ≡ gives at → (slice_get packets at.packet ≡ Some at.of) × (slice_get at.of.items at.item ≡ Some at.it)
item_there packets name at e =
    let of : PacketName = record { target = name.target; packet = name.packet } in
    let n = next_gives (packet_at packets of) (λ (p : ℕ × PacketData). in_packet p) at e in
    let p = n.0 in
    let there = packet_there packets of p n.1 in
    let o = or_gives _ _ (option_map (λ (i : ℕ × ItemData). made p i) (first_with (is_called name.item) p.1.items)) at n.2 in
    by_item p there (first_with (is_called name.item) p.1.items) refl o
  where
    made : ℕ × PacketData → ℕ × ItemData → ItemAt
    made p i = record { packet = p.0; of = p.1; item = i.0; it = i.1 }

    in_packet : ℕ × PacketData → Said ItemAt
    in_packet p = given_or (no_such (codes "Unknown item")) (option_map (λ (i : ℕ × ItemData). made p i) (first_with (is_called name.item) p.1.items))

    by_item : (p : ℕ × PacketData) → slice_get packets p.0 ≡ Some p.1 → (o : Option (ℕ × ItemData)) → first_with (is_called name.item) p.1.items ≡ o
        → option_map (λ (i : ℕ × ItemData). made p i) o ≡ Some at → (slice_get packets at.packet ≡ Some at.of) × (slice_get at.of.items at.item ≡ Some at.it)
    by_item p there None first e = absurd (cc e)
    by_item p there (Some i) first e =
        let same : made p i ≡ at = some_is (made p i) at e in
        let here = (first_there (is_called name.item) p.1.items i first).1 in
        subst (λ (x : ItemAt). (slice_get packets x.packet ≡ Some x.of) × (slice_get x.of.items x.item ≡ Some x.it)) same (there, here)
