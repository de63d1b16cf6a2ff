use Rattle.std.proofs.Common.{rules, refl, ◌≡◌, ◌∙◌, ap, ◌++◌, ◌∷◌, [], ◌/◌, ◌%◌, ℕ, true, List}
use Rattle.std.specs.Prelude.{slice_index}
use Rattle.hex.specs.Hex.{encode_with, upper_digits}
use Rattle.cts_extract.specs.Columns.{is_hidden, shown_byte}
use Rattle.cts_extract.proofs.cells.put_byte.Goals as goal

hidden : (b : ℕ) → is_hidden b ≡ true → 92 ∷ 120 ∷ slice_index upper_digits (b / 16) ∷ slice_index upper_digits (b % 16) ∷ [] ≡ shown_byte b
unfolding encode_with
hidden b h = rw h refl

pub returns : goal.returns
returns c =
    let h : is_hidden c.args.byte ≡ true = search rules in
    let high : c.digit.result ≡ slice_index upper_digits (c.args.byte / 16) = search rules in
    let low : c.digit-2.result ≡ slice_index upper_digits (c.args.byte % 16) = search rules in
    let put : c.extend_from_slice.new.self.items ≡ c.args.out.now.items ++ 92 ∷ 120 ∷ c.digit.result ∷ c.digit-2.result ∷ [] = search rules in
    put ∙ ap (λ (v : List ℕ). c.args.out.now.items ++ v) ((λ i. 92 ∷ 120 ∷ high i ∷ low i ∷ []) ∙ hidden c.args.byte h)
