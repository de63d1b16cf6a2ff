-- What is written into a field, and what a command holds.
use Rattle.std.proofs.Common.{◌≡◌, ℕ, zero, suc, ℤ, ◌≤◌, ◌<◌, Bool, true, false, cond, List, [], ◌∷◌, ◌++◌, Option, Some, None, length, take, drop, get_or, refl, sym, ap, ◌∙◌, subst, arith}
use Rattle.std.specs.Prelude.{◌&&◌, not, nat_le, nat_lt, is_none, slice_get, unwrap_or, replicate}
use Rattle.std.specs.Int.{is_negative}
use Rattle.std.specs.List.{find, list_all, list_any, position, position_or_len}
use Rattle.std.proofs.Math.Seq.{take-append_seam}
use Rattle.std.proofs.lemmas.Bool.{and_from, and_parts}
use Rattle.std.proofs.lemmas.Bool.Decides.{nat_tests}
use Rattle.std.proofs.lemmas.List.{length-append, take-append-drop}
use Rattle.std.proofs.lemmas.List.Folds.{find_at}
use Rattle.std.proofs.lemmas.List.Quantifiers.{position-Some}
use Rattle.std.proofs.lemmas.Option.{get_or_from_slice_get, slice_get-get_or, slice_get_past, slice_get_within}
use Rattle.cts_bits.specs.declared.place.Place.{Place}
use Rattle.cts_bits.specs.Fields.{KeepsOtherBits, reach}
use Rattle.cts_def.specs.declared.item_kind.Preset.{Preset}
use Rattle.cts_def.specs.declared.item_kind.Preset.TheVariants.{Whole}
use Rattle.cts_def.specs.Beginnings.{number_at}
use Rattle.cts_def.specs.Items.{ItemData, has_color, has_default_of, has_range_of_its_kind, is_from_start, is_parameter, is_plain, span_of}
use Rattle.cts_def.specs.Packets.{DefinitionsData, PacketData, are_before_the_end, is_command, is_named, length_of}
use Rattle.cts_def.specs.Spans.{bytes_needed, is_signed}
use Rattle.cts_def.specs.Starts.{PlaceData, place_data}
use Rattle.cts_cmd.specs.declared.request.Checks.{Checks}
use Rattle.cts_cmd.specs.declared.request.Given.{Given}
use Rattle.cts_cmd.specs.declared.request.Request.{Request}
use Rattle.cts_cmd.specs.Builds.{IsBuilt, IsNamedAt, Writes, WritesAll, WritesNumber, lies_within, place_of}
use Rattle.cts_cmd.specs.Checks.{has_target, refusal_among, refusal_at}
use Rattle.cts_cmd.specs.Contents.{content}
use Rattle.cts_cmd.specs.Injects.{WritesFrom, base, from_base}
use Rattle.cts_cmd.proofs.Behind.{base_start, same_start}

pub writes_number : (i : ItemData) (z : ℤ) (p : Place) (signed : Bool) (old new : List ℕ) → place_data p ≡ place_of i → signed ≡ is_signed i.kind → reach p ≤ length old
    → number_at (place_data p) signed new ≡ z → KeepsOtherBits p old new → ((k : ℕ) → get_or new k 0 < 256) → WritesNumber i z old new
writes_number i z p signed old new there same within value others bytes =
    record {
      place = p;
      there = there;
      within = within;
      value = ap (λ (q : PlaceData). number_at q (is_signed i.kind) new) (sym there) ∙ ap (λ (b : Bool). number_at (place_data p) b new) (sym same) ∙ value;
      others = others;
      bytes = bytes;
    }

back : (xs ys : List ℕ) (n : ℕ) → length xs ≡ n → take n (xs ++ ys) ≡ xs
back xs ys n e = subst (λ m. take m (xs ++ ys) ≡ xs) e (take-append_seam xs ys)

-- a number does not change how many bytes there are
number_long : (i : ItemData) (z : ℤ) (old new : List ℕ) → WritesFrom i (Whole z) old new → length new ≡ length old
number_long i z old new w =
    let at = base (length old) i in
    let parts = length-append (take at old) w.0 in
    let whole = length-append (take at old) (drop at old) in
    let old_is = ap (λ (x : List ℕ). length x) (take-append-drop at old) in
    let new_is = ap (λ (x : List ℕ). length x) w.2 in
    omega (arith, w.1.others.len, parts, whole, old_is, new_is)

pub number_back : (i : ItemData) (held : Preset) (z y : ℤ) (old lent new rest : List ℕ) (n : ℕ) → held ≡ Whole z → y ≡ z → lent ≡ old → length lent ≡ n → WritesFrom i (Whole y) lent new
    → WritesFrom i held old (take n (new ++ rest))
number_back i held z y old lent new rest n holds same stood count w =
    subst (λ h. WritesFrom i h old (take n (new ++ rest))) (sym holds)
    (subst (λ b. WritesFrom i (Whole z) old b) (sym (back new rest n (number_long i y lent new w ∙ count)))
    (subst (λ b. WritesFrom i (Whole z) b new) stood (subst (λ x. WritesFrom i (Whole x) lent new) same w)))

-- what is written from the start, where the item is counted from there
pub from_the_start : (i : ItemData) (held : Preset) (old new : List ℕ) → is_negative i.offset ≡ false → WritesFrom i held old new → Writes i held old new
from_the_start i held old new start w =
    let at = base_start (length old) i start in
    let part : new ≡ w.0 = w.2 ∙ ap (λ (n : ℕ). take n old ++ w.0) at in
    let one : Writes (from_base i) held old w.0 = subst (λ (n : ℕ). Writes (from_base i) held (drop n old) w.0) at w.1 in
    subst (λ b. Writes i held old b) (sym part) (subst (λ j. Writes j held old w.0) (same_start i start) one)

-- ---- a command holds its fields

starts_so : (i : ItemData) → is_parameter i ≡ true → is_from_start i ≡ true
starts_so i h =
    let five = and_parts (is_from_start i && is_none i.limits && is_plain i.conversion && not (list_any has_color i.states) && has_range_of_its_kind i) (has_default_of i.id i.preset) h in
    let four = and_parts (is_from_start i && is_none i.limits && is_plain i.conversion && not (list_any has_color i.states)) (has_range_of_its_kind i) five.0 in
    let three = and_parts (is_from_start i && is_none i.limits && is_plain i.conversion) (not (list_any has_color i.states)) four.0 in
    let two = and_parts (is_from_start i && is_none i.limits) (is_plain i.conversion) three.0 in
    (and_parts (is_from_start i) (is_none i.limits) two.0).0

all_start : (items : List ItemData) → list_all is_parameter items ≡ true → list_all is_from_start items ≡ true
all_start [] h = refl
all_start (i ∷ items) h =
    let both = and_parts (is_parameter i) (list_all is_parameter items) h in
    and_from (is_from_start i) (list_all is_from_start items) (starts_so i both.0) (all_start items both.1)

pub command_starts : (c : PacketData) → is_command c ≡ true → list_all is_from_start c.items ≡ true
command_starts c h = all_start c.items (and_parts (list_all is_parameter c.items) (are_before_the_end c.items) h).0

pub all_within : (items : List ItemData) (n : ℕ) → length_of items ≤ n → list_all (lies_within n) items ≡ true
all_within [] n h = refl
all_within (i ∷ items) n h =
    let one : bytes_needed (span_of i) ≤ n = grind arith in
    let more : length_of items ≤ n = grind arith in
    let test : nat_le (bytes_needed (span_of i)) n ≡ true = grind (arith, nat_tests) in
    and_from (lies_within n i) (list_all (lies_within n) items) test (all_within items n more)

-- ---- the command that a request names

some_is : (b : Bool) (m n : ℕ) → cond b (Some m) None ≡ Some n → m ≡ n
some_is true m n e = ap (λ (o : Option ℕ). unwrap_or o m) e
some_is false m n e = cc

none_is : (b : Bool) (m : ℕ) → cond b (Some m) None ≡ None → b ≡ false
none_is true m e = cc
none_is false m e = refl

pub found_there : (test : PacketData → Bool) (commands : List PacketData) (n : ℕ) (it : PacketData) → position test commands ≡ Some n → it ≡ get_or commands n it
    → (slice_get commands n ≡ Some it) × (test it ≡ true) × (find test commands ≡ Some it)
found_there test commands n it e is =
    let at = position-Some test commands n it e in
    let got : slice_get commands n ≡ Some it = slice_get-get_or commands n it at.0 ∙ ap (λ (p : PacketData). Some p) (sym is) in
    let place : position_or_len test commands ≡ n = some_is (nat_lt (position_or_len test commands) (length commands)) (position_or_len test commands) n e in
    (got, ap test is ∙ at.1, find_at test commands ∙ ap (slice_get commands) place ∙ got)

pub found_nowhere : (test : PacketData → Bool) (commands : List PacketData) → position test commands ≡ None → find test commands ≡ None
found_nowhere test commands e =
    let not : nat_lt (position_or_len test commands) (length commands) ≡ false = none_is (nat_lt (position_or_len test commands) (length commands)) (position_or_len test commands) e in
    let past : length commands ≤ position_or_len test commands = grind (arith, nat_tests) in
    find_at test commands ∙ slice_get_past commands (position_or_len test commands) past

pub place_known : (commands : List PacketData) (r : Request) (k : Checks) (target name : List ℕ) (known : Bool) (o : Option PacketData) → target ≡ r.target → name ≡ r.command
    → known ≡ true → known ≡ list_any (has_target target) commands → find (is_named target name) commands ≡ o → refusal_among commands r k ≡ refusal_at o r k
place_known commands r k target name known o t n is e f =
    let at : list_any (has_target r.target) commands ≡ true = ap (λ (x : List ℕ). list_any (has_target x) commands) (sym t) ∙ sym e ∙ is in
    let found : find (is_named r.target r.command) commands ≡ o = ap (λ (x : List ℕ). find (is_named x r.command) commands) (sym t) ∙ ap (λ (x : List ℕ). find (is_named target x) commands) (sym n) ∙ f in
    rw at (ap (λ (x : Option PacketData). refusal_at x r k) found)

pub named_at : (commands : List PacketData) (r : Request) (target name : List ℕ) (n : ℕ) (it : PacketData) → target ≡ r.target → name ≡ r.command → slice_get commands n ≡ Some it → is_named target name it ≡ true
    → position (is_named target name) commands ≡ Some n → IsNamedAt commands r n
named_at commands r target name n it t m number named at =
    record { it = it; first = ap (λ (x : List ℕ). position (is_named x r.command) commands) (sym t) ∙ ap (λ (x : List ℕ). position (is_named target x) commands) (sym m) ∙ at; number = number; named = ap (λ (x : List ℕ). is_named x r.command it) (sym t) ∙ ap (λ (x : List ℕ). is_named target x it) (sym m) ∙ named }

all_at : (p : PacketData → Bool) (xs : List PacketData) (n : ℕ) (d : PacketData) → list_all p xs ≡ true → n < length xs → p (get_or xs n d) ≡ true
all_at p [] n d all lt = absurd (omega arith)
all_at p (x ∷ xs) zero d all lt = (and_parts (p x) (list_all p xs) all).0
all_at p (x ∷ xs) (suc n) d all lt = all_at p xs n d (and_parts (p x) (list_all p xs) all).1 (omega arith)

pub in_commands : (commands : List PacketData) (r : Request) (n : ℕ) (it : PacketData) → list_all is_command commands ≡ true → IsNamedAt commands r n → it ≡ get_or commands n it → is_command it ≡ true
in_commands commands r n it all named is = ap is_command is ∙ all_at is_command commands n it all (slice_get_within commands n named.it named.number)

pub built_of : (d : DefinitionsData) (r : Request) (n : ℕ) (bytes : List ℕ) (commands : List PacketData) (it : PacketData) (params : List (List ℕ × Given)) → commands ≡ d.commands → it ≡ get_or commands n it → IsNamedAt commands r n
    → params ≡ r.params → WritesAll (content params) it.items (replicate it.length 0) bytes → IsBuilt d r (record { command = n; bytes = bytes })
built_of d r n bytes commands it params same is named given w =
    let that : it ≡ named.it = is ∙ get_or_from_slice_get commands n named.it it named.number in
    record {
      command = record { it = named.it; first = subst (λ cs. position (is_named r.target r.command) cs ≡ Some n) same named.first; number = subst (λ cs. slice_get cs n ≡ Some named.it) same named.number; named = named.named };
      bytes = subst (λ ps. WritesAll (content ps) named.it.items (replicate named.it.length 0) bytes) given (subst (λ p. WritesAll (content params) p.items (replicate p.length 0) bytes) that w);
    }
