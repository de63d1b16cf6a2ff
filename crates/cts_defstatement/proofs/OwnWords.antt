-- Each thing that a statement says is said by its own word.
use Rattle.std.proofs.Common.{◌≡◌, ℕ, Bool, true, false, List, ◌∷◌, Option, Some, ap, ◌∙◌}
use Rattle.std.specs.Prelude.{option_map, if◌then◌else◌}
use Rattle.cts_defstatement.specs.declared.keyword.Keyword.{Keyword}
use Rattle.cts_defstatement.specs.declared.keyword.Keyword.TheVariants as keyword
use Rattle.cts_defstatement.specs.declared.line.Line.TheVariants as line
use Rattle.cts_defstatement.specs.Forms.{keyword_of}
use Rattle.cts_defstatement.specs.Lines.{line_in, line_of, number_parameter, text_parameter}
use Rattle.cts_defstatement.specs.Words.{DetailsAreOfTheirWords, ItemsAreOfTheirWords}

said : (word : List ℕ) (words : List (List ℕ)) (k : Keyword) → keyword_of word ≡ Some k → line_in (word ∷ words) ≡ Some (line_of k words)
said word words k e = ap (λ (o : Option Keyword). option_map (λ (j : Keyword). line_of j words) o) e

chosen : (append number own : Bool) (words : List (List ℕ)) → own ≡ number
    → Some (line.Item (if own then number_parameter append false words else text_parameter append words)) ≡ Some (line.Item (if number then number_parameter append false words else text_parameter append words))
chosen append number own words e = ap (λ (b : Bool). Some (line.Item (if b then number_parameter append false words else text_parameter append words))) e

pub items_of_words : ItemsAreOfTheirWords
items_of_words = record {
  item = λ word name offset size kind more e. said word _ (keyword.Item false false) e;
  appended_item = λ word name size kind more e. said word _ (keyword.Item true false) e;
  id_item = λ word name offset size kind id more e. said word _ (keyword.Item false true) e;
  appended_id_item = λ word name size kind id more e. said word _ (keyword.Item true true) e;
  parameter = λ word name offset size kind least greatest default more e n.
      let words : List (List ℕ) = name ∷ offset ∷ size ∷ kind ∷ least ∷ greatest ∷ default ∷ more in
      said word words (keyword.Parameter false false) e ∙ chosen false true _ words n;
  appended_parameter = λ word name size kind least greatest default more e n.
      let words : List (List ℕ) = name ∷ size ∷ kind ∷ least ∷ greatest ∷ default ∷ more in
      said word words (keyword.Parameter true false) e ∙ chosen true true _ words n;
  text_parameter = λ word name offset size kind default more e n.
      let words : List (List ℕ) = name ∷ offset ∷ size ∷ kind ∷ default ∷ more in
      said word words (keyword.Parameter false false) e ∙ chosen false false _ words n;
  appended_text_parameter = λ word name size kind default more e n.
      let words : List (List ℕ) = name ∷ size ∷ kind ∷ default ∷ more in
      said word words (keyword.Parameter true false) e ∙ chosen true false _ words n;
  id_parameter = λ word name offset size kind least greatest id more e. said word _ (keyword.Parameter false true) e;
  appended_id_parameter = λ word name size kind least greatest id more e. said word _ (keyword.Parameter true true) e;
}

pub details_of_words : DetailsAreOfTheirWords
details_of_words = record {
  state = λ word name value more e. said word _ keyword.State e;
  limits = λ word set samples enabled red_low yellow_low yellow_high red_high e. said word _ keyword.Limits e;
  green_limits = λ word set samples enabled red_low yellow_low yellow_high red_high green_low green_high e. said word _ keyword.Limits e;
  polynomial = λ word coefficients e. said word coefficients keyword.Poly e;
  segment = λ word bound coefficients e. said word _ keyword.Segment e;
  units = λ word full short e. said word _ keyword.Units e;
  format = λ word text e. said word _ keyword.Format e;
  overflow = λ word choice e. said word _ keyword.Overflow e;
}
