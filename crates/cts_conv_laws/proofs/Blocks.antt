-- Blocks and texts are read back.
use Rattle.std.proofs.Common.{◌≡◌, ℕ, suc, ◌<◌, true, List, [], ◌∷◌, ◌++◌, refl, ap, ◌∙◌, arith, inl, inr}
use Rattle.std.specs.Prelude.{nat_lt}
use Rattle.std.specs.Char.{encode_utf8}
use Rattle.std.specs.List.{flat_map, list_all}
use Rattle.std.proofs.lemmas.Bool.{and_from, cases_lt, le-ltb, lt-ltb}
use Rattle.hex.specs.Hex.{encode_lower}
use Rattle.hex.proofs.HexLemmas.{decode_of-encode_lower}
use Rattle.cts_def.specs.Characters.{or_characters}
use Rattle.cts_def.specs.Utf8.{as_utf8}
use Rattle.cts_def.proofs.Utf8.{characters_are_utf8}
use Rattle.cts_conv.specs.Raws.{characters_of}
use Rattle.cts_conv_laws.specs.Blocks.{AreBytes, PlainTextsMeanTheirBytes}

as_encoded : (b : ℕ) → b < 256 → encode_utf8 b ≡ as_utf8 b
unfolding encode_utf8
as_encoded b h = elim (cases_lt b 128) [
  | inl low ↦ rw (lt-ltb b 128 low) refl
  | inr high ↦ rw (le-ltb b 128 high, lt-ltb b 2048 (omega (arith, h))) refl
]

all_encoded : (bytes : List ℕ) → AreBytes bytes → characters_of bytes ≡ flat_map as_utf8 bytes
all_encoded [] all = refl
all_encoded (b ∷ bytes) all = ap (λ (front : List ℕ). front ++ characters_of bytes) (as_encoded b (all 0)) ∙ ap (λ (rest : List ℕ). as_utf8 b ++ rest) (all_encoded bytes (λ k. all (suc k)))

all_tested : (bytes : List ℕ) → AreBytes bytes → list_all (λ (b : ℕ). nat_lt b 256) bytes ≡ true
all_tested [] all = refl
all_tested (b ∷ bytes) all = and_from (nat_lt b 256) (list_all (λ (c : ℕ). nat_lt c 256) bytes) (lt-ltb b 256 (all 0)) (all_tested bytes (λ k. all (suc k)))

pub plain_texts_mean_their_bytes : PlainTextsMeanTheirBytes
plain_texts_mean_their_bytes bytes all = record {
  block = ap (or_characters (48 ∷ 120 ∷ encode_lower bytes)) (decode_of-encode_lower bytes all);
  text = (characters_are_utf8 (characters_of bytes) bytes).1 (all_encoded bytes all, all_tested bytes all);
}
