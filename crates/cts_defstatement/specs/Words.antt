-- Which word of a statement says what.
use Rattle.std.specs.Prelude.{◌≡◌, ℕ, ℤ, true, false, List, [], ◌∷◌, map, codes, Option, Some, None, option_map, unwrap_or}
use Rattle.std.specs.List.{slice_get}
use Rattle.cts_base.specs.Names.{in_upper_case}
use Rattle.cts_base.specs.declared.decimal.Decimal.{Decimal}
use Rattle.cts_def.specs.declared.item_kind.ItemKind.{ItemKind}
use Rattle.cts_def.specs.declared.item_kind.ItemKind.TheVariants.{Uint}
use Rattle.cts_def.specs.declared.item_kind.Preset.{Preset}
use Rattle.cts_def.specs.declared.item_kind.Preset.TheVariants.{Whole, Raw}
use Rattle.cts_def.specs.Items.{is_same}
use Rattle.cts_def.specs.Spans.{is_number}
use Rattle.cts_defstatement.specs.declared.details.Detail.TheVariants as detail
use Rattle.cts_defstatement.specs.declared.keyword.Keyword.TheVariants as keyword
use Rattle.cts_defstatement.specs.declared.line.Line.{Line}
use Rattle.cts_defstatement.specs.declared.line.Line.TheVariants as line
use Rattle.cts_defstatement.specs.Forms.{keyword_of}
use Rattle.cts_reader.specs.Words.{word_at}
use Rattle.cts_defstatement.specs.Lines.{color_of, line_in, no_value, or_big, overflow_of}
use Rattle.cts_def.specs.Characters.{text_bytes}
use Rattle.cts_defstatement.specs.Numbers.{bound, decimal, kind_of, persistence, whole}

-- ---- items and parameters

abbrev pub kind_said : List ℕ → ItemKind
kind_said word = unwrap_or (kind_of word) Uint

-- the number that a bound's word says for an item, by the words for its size and type
abbrev pub bound_said : List ℕ → List ℕ → List ℕ → ℤ
bound_said size kind word = bound (kind_said kind) (whole size) word

-- an item by the words for its name, offset, size, type and order, with an id, range and default
abbrev pub item_said : List ℕ → Option (List ℕ) → List ℕ → List ℕ → Option (List ℕ) → Option ℤ → Option (ℤ × ℤ) → Option Preset → Option Line
item_said name offset size kind order id range preset = Some (line.Item (record {
  name = in_upper_case name;
  offset = option_map whole offset;
  size = whole size;
  kind = kind_said kind;
  order = or_big order;
  id = id;
  range = range;
  preset = preset;
}))

abbrev pub range_said : List ℕ → List ℕ → List ℕ → List ℕ → Option (ℤ × ℤ)
range_said size kind least greatest = Some (bound_said size kind least, bound_said size kind greatest)

-- the statements of items and parameters, each with the words in their order; after them stand a description and the order
pub record ItemsAreOfTheirWords : Type 0 where
  pub item : (word name offset size kind : List ℕ) (more : List (List ℕ)) → keyword_of word ≡ Some (keyword.Item false false)
      → line_in (word ∷ name ∷ offset ∷ size ∷ kind ∷ more) ≡ item_said name (Some offset) size kind
      (slice_get more 1) None None (Some (no_value (kind_said kind)))
  pub appended_item : (word name size kind : List ℕ) (more : List (List ℕ)) → keyword_of word ≡ Some (keyword.Item true false)
      → line_in (word ∷ name ∷ size ∷ kind ∷ more) ≡ item_said name None size kind (slice_get more 1) None None (Some (no_value (kind_said kind)))
  pub id_item : (word name offset size kind id : List ℕ) (more : List (List ℕ)) → keyword_of word ≡ Some (keyword.Item false true)
      → line_in (word ∷ name ∷ offset ∷ size ∷ kind ∷ id ∷ more)
      ≡ item_said name (Some offset) size kind (slice_get more 1) (Some (bound_said size kind id)) None (Some (no_value (kind_said kind)))
  pub appended_id_item : (word name size kind id : List ℕ) (more : List (List ℕ)) → keyword_of word ≡ Some (keyword.Item true true)
      → line_in (word ∷ name ∷ size ∷ kind ∷ id ∷ more) ≡ item_said name None size kind (slice_get more 1)
      (Some (bound_said size kind id)) None (Some (no_value (kind_said kind)))
  pub parameter : (word name offset size kind least greatest default : List ℕ) (more : List (List ℕ)) → keyword_of word ≡ Some (keyword.Parameter false false)
      → is_number (kind_said kind) ≡ true
      → line_in (word ∷ name ∷ offset ∷ size ∷ kind ∷ least ∷ greatest ∷ default ∷ more)
      ≡ item_said name (Some offset) size kind (slice_get more 1) None (range_said size kind least greatest) (Some (Whole (bound_said size kind default)))
  pub appended_parameter : (word name size kind least greatest default : List ℕ) (more : List (List ℕ)) → keyword_of word ≡ Some (keyword.Parameter true false)
      → is_number (kind_said kind) ≡ true
      → line_in (word ∷ name ∷ size ∷ kind ∷ least ∷ greatest ∷ default ∷ more)
      ≡ item_said name None size kind (slice_get more 1) None (range_said size kind least greatest) (Some (Whole (bound_said size kind default)))
  pub text_parameter : (word name offset size kind default : List ℕ) (more : List (List ℕ)) → keyword_of word ≡ Some (keyword.Parameter false false)
      → is_number (kind_said kind) ≡ false
      → line_in (word ∷ name ∷ offset ∷ size ∷ kind ∷ default ∷ more)
      ≡ item_said name (Some offset) size kind (slice_get more 1) None None (option_map Raw (text_bytes (kind_said kind) default))
  pub appended_text_parameter : (word name size kind default : List ℕ) (more : List (List ℕ)) → keyword_of word ≡ Some (keyword.Parameter true false)
      → is_number (kind_said kind) ≡ false
      → line_in (word ∷ name ∷ size ∷ kind ∷ default ∷ more) ≡ item_said name None size kind
      (slice_get more 1) None None (option_map Raw (text_bytes (kind_said kind) default))
  pub id_parameter : (word name offset size kind least greatest id : List ℕ) (more : List (List ℕ)) → keyword_of word ≡ Some (keyword.Parameter false true)
      → line_in (word ∷ name ∷ offset ∷ size ∷ kind ∷ least ∷ greatest ∷ id ∷ more)
      ≡ item_said name (Some offset) size kind (slice_get more 1) (Some (bound_said size kind id)) (range_said size kind least greatest)
      (Some (Whole (bound_said size kind id)))
  pub appended_id_parameter : (word name size kind least greatest id : List ℕ) (more : List (List ℕ)) → keyword_of word ≡ Some (keyword.Parameter true true)
      → line_in (word ∷ name ∷ size ∷ kind ∷ least ∷ greatest ∷ id ∷ more)
      ≡ item_said name None size kind (slice_get more 1) (Some (bound_said size kind id)) (range_said size kind least greatest)
      (Some (Whole (bound_said size kind id)))

-- ---- details

-- limits of the words, with green ones
abbrev pub limits_said : List ℕ → List ℕ → List ℕ → List ℕ → List ℕ → List ℕ → List ℕ → Option (Decimal × Decimal) → Option Line
limits_said set samples enabled red_low yellow_low yellow_high red_high green = Some (line.Detail (detail.Limits (record {
  set = in_upper_case set;
  persistence = persistence samples;
  enabled = is_same enabled (codes "ENABLED");
  limits = record {
    red_low = decimal red_low;
    yellow_low = decimal yellow_low;
    yellow_high = decimal yellow_high;
    red_high = decimal red_high;
    green = green;
  };
})))

-- the statements of details, each with the words in their order
pub record DetailsAreOfTheirWords : Type 0 where
  pub state : (word name value : List ℕ) (more : List (List ℕ)) → keyword_of word ≡ Some keyword.State
      → line_in (word ∷ name ∷ value ∷ more)
      ≡ Some (line.Detail (detail.State (record {
        name = in_upper_case name;
        value = whole value;
        color = color_of (word_at more 0);
        hazardous = is_same (word_at more 0) (codes "HAZARDOUS");
      })))
  pub limits : (word set samples enabled red_low yellow_low yellow_high red_high : List ℕ) → keyword_of word ≡ Some keyword.Limits
      → line_in (word ∷ set ∷ samples ∷ enabled ∷ red_low ∷ yellow_low ∷ yellow_high ∷ red_high ∷ [])
      ≡ limits_said set samples enabled red_low yellow_low yellow_high red_high None
  pub green_limits : (word set samples enabled red_low yellow_low yellow_high red_high green_low green_high : List ℕ) → keyword_of word ≡ Some keyword.Limits
      → line_in (word ∷ set ∷ samples ∷ enabled ∷ red_low ∷ yellow_low ∷ yellow_high ∷ red_high ∷ green_low ∷ green_high ∷ [])
      ≡ limits_said set samples enabled red_low yellow_low yellow_high red_high (Some (decimal green_low, decimal green_high))
  pub polynomial : (word : List ℕ) (coefficients : List (List ℕ)) → keyword_of word ≡ Some keyword.Poly
      → line_in (word ∷ coefficients) ≡ Some (line.Detail (detail.Poly (map decimal coefficients)))
  pub segment : (word bound : List ℕ) (coefficients : List (List ℕ)) → keyword_of word ≡ Some keyword.Segment
      → line_in (word ∷ bound ∷ coefficients) ≡ Some (line.Detail (detail.Segment (record { bound = decimal bound; coefficients = map decimal coefficients })))
  pub units : (word full short : List ℕ) → keyword_of word ≡ Some keyword.Units → line_in (word ∷ full ∷ short ∷ [])
      ≡ Some (line.Detail (detail.Units full short))
  pub format : (word text : List ℕ) → keyword_of word ≡ Some keyword.Format → line_in (word ∷ text ∷ []) ≡ Some (line.Detail (detail.Format text))
  pub overflow : (word choice : List ℕ) → keyword_of word ≡ Some keyword.Overflow → line_in (word ∷ choice ∷ [])
      ≡ Some (line.Detail (detail.Overflow (overflow_of choice)))
