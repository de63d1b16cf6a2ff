-- The names and the number of packets and commands, and what all definitions keep.
use Rattle.std.proofs.Common.{◌≡◌, ℕ, ◌+◌, Bool, true, false, cond, ◌||◌, ◌&&◌, List, [], ◌∷◌, ◌++◌, map, length, refl, sym, ap, ◌∙◌, subst, arith}
use Rattle.std.specs.Cmp.{IsEquivalence}
use Rattle.std.specs.List.{list_any, filter, IsDistinct}
use Rattle.std.proofs.lemmas.Bool.{and_parts}
use Rattle.std.proofs.lemmas.Cmp.{nat_list_eq_equiv}
use Rattle.std.proofs.lemmas.List.{map-append, length-map}
use Rattle.std.proofs.lemmas.List.Elements.{filter-append}
use Rattle.std.proofs.lemmas.Map.Keys.{IsDistinct-push}
use Rattle.cts_def.specs.Items.{is_same}
use Rattle.cts_def.specs.Packets.{PacketData, have_same_names}
use Rattle.cts_defstatement.specs.declared.open.PacketKind.{PacketKind}
use Rattle.cts_defread.specs.declared.drafted.Drafted.{Drafted}
use Rattle.cts_defread.specs.Causes.{has_names, count_items}
use Rattle.cts_defread.specs.Drafts.{names_of}
use Rattle.cts_defread.specs.Standing.{are_same_kind, packets_of}
use Rattle.cts_defread.proofs.Lists.{map_on_last, distinct_map_to, distinct_map_from}
use Rattle.cts_words.specs.Blocks.{on_last}

-- ---- packets by their kind

abbrev Key : Type 0
Key = PacketKind × List ℕ × List ℕ

abbrev key_of : Drafted → Key
key_of d = (d.kind, d.packet.target, d.packet.name)

abbrev names_in : PacketKind → List Key → List (List ℕ × List ℕ)
names_in kind [] = []
names_in kind (k ∷ ks) = cond (are_same_kind kind k.0) ((k.1, k.2) ∷ names_in kind ks) (names_in kind ks)

mapped_cond : {X Y : Type 0} (g : X → Y) (b : Bool) (x : X) (xs : List X) → map g (cond b (x ∷ xs) xs) ≡ cond b (g x ∷ map g xs) (map g xs)
mapped_cond g true x xs = refl
mapped_cond g false x xs = refl

names_by_keys : (kind : PacketKind) (ps : List Drafted) → names_of kind ps ≡ names_in kind (map key_of ps)
names_by_keys kind [] = refl
names_by_keys kind (d ∷ ps) =
    ap (map (λ (p : PacketData). (p.target, p.name))) (mapped_cond (λ (e : Drafted). e.packet) (are_same_kind kind d.kind) d (filter (λ (e : Drafted). are_same_kind kind e.kind) ps))
    ∙ mapped_cond (λ (p : PacketData). (p.target, p.name)) (are_same_kind kind d.kind) d.packet (packets_of kind ps)
    ∙ ap (λ (ks : List (List ℕ × List ℕ)). cond (are_same_kind kind d.kind) ((d.packet.target, d.packet.name) ∷ ks) ks) (names_by_keys kind ps)

-- Where the last definition keeps its kind and names, all do.
pub names_on_last : (kind : PacketKind) (f : Drafted → Drafted) (ps : List Drafted) → ((d : Drafted) → key_of (f d) ≡ key_of d) → names_of kind (on_last f ps) ≡ names_of kind ps
names_on_last kind f ps same = names_by_keys kind (on_last f ps) ∙ ap (names_in kind) (map_on_last key_of f ps same) ∙ sym (names_by_keys kind ps)

pub packets-append : (kind : PacketKind) (ps qs : List Drafted) → packets_of kind (ps ++ qs) ≡ packets_of kind ps ++ packets_of kind qs
packets-append kind ps qs =
    ap (map (λ (d : Drafted). d.packet)) (filter-append (λ (d : Drafted). are_same_kind kind d.kind) ps qs)
    ∙ map-append (λ (d : Drafted). d.packet) (filter (λ (d : Drafted). are_same_kind kind d.kind) ps) (filter (λ (d : Drafted). are_same_kind kind d.kind) qs)

pub names-append : (kind : PacketKind) (ps qs : List Drafted) → names_of kind (ps ++ qs) ≡ names_of kind ps ++ names_of kind qs
names-append kind ps qs =
    ap (map (λ (p : PacketData). (p.target, p.name))) (packets-append kind ps qs) ∙ map-append (λ (p : PacketData). (p.target, p.name)) (packets_of kind ps) (packets_of kind qs)

pub length_names : (kind : PacketKind) (ps : List Drafted) → length (names_of kind ps) ≡ length (packets_of kind ps)
length_names kind ps = length-map (packets_of kind ps) (λ (p : PacketData). (p.target, p.name))

pub same_count : (kind : PacketKind) (ps qs : List Drafted) → names_of kind ps ≡ names_of kind qs → length (packets_of kind qs) ≡ length (packets_of kind ps)
same_count kind ps qs e = sym (length_names kind qs) ∙ sym (ap (λ (ns : List (List ℕ × List ℕ)). length ns) e) ∙ length_names kind ps

-- ---- names without doubles

abbrev same_pair : List ℕ × List ℕ → List ℕ × List ℕ → Bool
same_pair a b = is_same a.0 b.0 && is_same a.1 b.1

same_pair_equiv : IsEquivalence same_pair
same_pair_equiv = record {
  refl = λ x. ap (λ (b : Bool). b && is_same x.1 x.1) (nat_list_eq_equiv.refl x.0) ∙ nat_list_eq_equiv.refl x.1;
  symm = λ x y. ap (λ (b : Bool). b && is_same x.1 y.1) (nat_list_eq_equiv.symm x.0 y.0) ∙ ap (λ (b : Bool). is_same y.0 x.0 && b) (nat_list_eq_equiv.symm x.1 y.1);
  congr = λ x y z e.
      ap (λ (b : Bool). b && is_same x.1 z.1) (nat_list_eq_equiv.congr x.0 y.0 z.0 (and_parts (is_same x.0 y.0) (is_same x.1 y.1) e).0)
      ∙ ap (λ (b : Bool). is_same y.0 z.0 && b) (nat_list_eq_equiv.congr x.1 y.1 z.1 (and_parts (is_same x.0 y.0) (is_same x.1 y.1) e).1);
}

pub distinct_kept : (kind : PacketKind) (ps qs : List Drafted) → names_of kind ps ≡ names_of kind qs → IsDistinct have_same_names (packets_of kind qs) → IsDistinct have_same_names (packets_of kind ps)
distinct_kept kind ps qs e h =
    distinct_map_from same_pair (λ (p : PacketData). (p.target, p.name)) (packets_of kind ps)
    (subst (λ (ns : List (List ℕ × List ℕ)). IsDistinct same_pair ns) (sym e) (distinct_map_to same_pair (λ (p : PacketData). (p.target, p.name)) (packets_of kind qs) h))

any_cond : (p : List ℕ × List ℕ → Bool) (b : Bool) (x : List ℕ × List ℕ) (xs : List (List ℕ × List ℕ)) (r : Bool) → list_any p xs ≡ r → list_any p (cond b (x ∷ xs) xs) ≡ (b && p x) || r
any_cond p true x xs r e = ap (λ (c : Bool). p x || c) e
any_cond p false x xs r e = e

any_names_in : (kind : PacketKind) (target name : List ℕ) (ps : List Drafted) → list_any (same_pair (target, name)) (names_in kind (map key_of ps)) ≡ list_any (has_names kind target name) ps
any_names_in kind target name [] = refl
any_names_in kind target name (d ∷ ps) =
    any_cond (same_pair (target, name)) (are_same_kind kind d.kind) (d.packet.target, d.packet.name) (names_in kind (map key_of ps)) (list_any (has_names kind target name) ps) (any_names_in kind target name ps)

-- One more packet, whose names no other has.
pub distinct_more : (kind : PacketKind) (ps qs : List Drafted) (target name : List ℕ) → names_of kind qs ≡ names_of kind ps ++ (target, name) ∷ [] → list_any (has_names kind target name) ps ≡ false
    → IsDistinct have_same_names (packets_of kind ps) → IsDistinct have_same_names (packets_of kind qs)
distinct_more kind ps qs target name e single h =
    let apart : list_any (same_pair (target, name)) (names_of kind ps) ≡ false =
    ap (list_any (same_pair (target, name))) (names_by_keys kind ps) ∙ any_names_in kind target name ps ∙ single in
    distinct_map_from same_pair (λ (p : PacketData). (p.target, p.name)) (packets_of kind qs)
    (subst (λ (ns : List (List ℕ × List ℕ)). IsDistinct same_pair ns) (sym e)
    (IsDistinct-push same_pair_equiv (names_of kind ps) (target, name) (distinct_map_to same_pair (λ (p : PacketData). (p.target, p.name)) (packets_of kind ps) h) apart))

-- ---- the number of items

pub count_more : (ps : List Drafted) (d : Drafted) → count_items (ps ++ d ∷ []) ≡ count_items ps + length d.packet.items
count_more [] d = omega arith
count_more (p ∷ ps) d = omega (arith, count_more ps d)

pub count_on_last : (f : Drafted → Drafted) (ps : List Drafted) → ((d : Drafted) → length (f d).packet.items ≡ length d.packet.items) → count_items (on_last f ps) ≡ count_items ps
count_on_last f [] same = refl
count_on_last f (d ∷ []) same = ap (λ (n : ℕ). n + 0) (same d)
count_on_last f (d ∷ e ∷ ps) same = ap (λ (n : ℕ). length d.packet.items + n) (count_on_last f (e ∷ ps) same)
