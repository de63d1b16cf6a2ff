-- The upper case of a name is a name, and its own upper case.
use Rattle.std.proofs.Common.{◌≡◌, ◌≤◌, ℕ, true, List, [], ◌∷◌, ◌&&◌, length, map, refl, ap, ap₂, ◌∙◌, arith, nat_le}
use Rattle.std.proofs.lemmas.List.{length-map}
use Rattle.std.specs.Prelude.{IsTrue}
use Rattle.std.specs.List.{list_all}
use Rattle.std.proofs.lemmas.Bool.{and_parts}
use Rattle.std.proofs.lemmas.Bool.Decides.{nat_tests}
use Rattle.cts_base.specs.Names.{is_name_byte, upper, is_name, IsUpperName}

upper-twice : (c : ℕ) → upper (upper c) ≡ upper c
upper-twice c = grind (arith, nat_tests)

upper-byte : (c : ℕ) → is_name_byte c ≡ true → is_name_byte (upper c) ≡ true
upper-byte c h = grind (arith, nat_tests)

upper-bytes : (text : List ℕ) → list_all is_name_byte text ≡ true → list_all is_name_byte (map upper text) ≡ true
upper-bytes [] h = refl
upper-bytes (c ∷ text) h =
    let both = and_parts (is_name_byte c) (list_all is_name_byte text) h in
    ap₂ ◌&&◌ (upper-byte c both.0) (upper-bytes text both.1)

uppers-twice : (text : List ℕ) → map upper (map upper text) ≡ map upper text
uppers-twice [] = refl
uppers-twice (c ∷ text) = ap₂ ◌∷◌ (upper-twice c) (uppers-twice text)

pub upper_name : (text : List ℕ) → IsTrue (is_name text) → IsUpperName (map upper text)
upper_name text h =
    let parts = and_parts (nat_le 1 (length text) && nat_le (length text) 255) (list_all is_name_byte text) h in
    record {
      name = ap₂ ◌&&◌ (ap (λ n. nat_le 1 n && nat_le n 255) (length-map text upper) ∙ parts.0) (upper-bytes text parts.1);
      kept = uppers-twice text;
    }

pub name_length : (text : List ℕ) → IsUpperName text → (1 ≤ length text) × (length text ≤ 255)
name_length text h =
    let parts = and_parts (nat_le 1 (length text) && nat_le (length text) 255) (list_all is_name_byte text) h.name in
    let ends = and_parts (nat_le 1 (length text)) (nat_le (length text) 255) parts.0 in
    (grind (arith, nat_tests, ends.0), grind (arith, nat_tests, ends.1))
