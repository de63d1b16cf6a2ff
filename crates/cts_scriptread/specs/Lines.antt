-- What a line says, read from its event: each event is said by the words of its own row, and by no others.
use Rattle.std.specs.Prelude.{ℕ, ◌≡◌, ◌⊎◌, ◌+◌, ◌*◌, ◌<◌, ◌≤◌, pos, List, [], ◌∷◌, ◌++◌, codes, Some, Ok, IsTrue, length, slice_get}
use Rattle.hex.specs.Hex.{decode_of}
use Rattle.cts_base.specs.Names.{in_upper_case}
use Rattle.cts_base.specs.Wholes.{WritesWhole}
use Rattle.cts_def.specs.Makers.{first_slot}
use Rattle.cts_def.specs.Sites.{InterfaceData, RouterData, SiteData}
use Rattle.cts_entry.specs.declared.event.Event.{Event}
use Rattle.cts_entry.specs.declared.event.Event.TheVariants as event
use Rattle.cts_entry.specs.declared.why.Why.{Why}
use Rattle.cts_entry.specs.declared.why.Why.TheVariants as why
use Rattle.cts_scriptread.specs.Words.{is_piece_size}

-- ---- words

-- the line is this keyword, in any case, and the given words after it
pub record IsLine (keyword : List ℕ) (after words : List (List ℕ)) : Type 0 where
  pub first : List ℕ
  pub parts : words ≡ first ∷ after
  pub spelled : in_upper_case first ≡ keyword

-- the interface of this number has the name, in any case
pub record NamesInterface (site : SiteData) (word : List ℕ) (number : ℕ) : Type 0 where
  pub interface : InterfaceData
  pub there : slice_get site.interfaces number ≡ Some interface
  pub spelled : in_upper_case word ≡ interface.name

-- the router of this number has the name that stands before `/0` or `/1`
pub record NamesSlot (site : SiteData) (word : List ℕ) (number : ℕ) : Type 0 where
  pub router : RouterData
  pub place : ℕ
  pub side : ℕ
  pub there : slice_get site.routers place ≡ Some router
  pub two : side < 2
  pub number_is : number ≡ first_slot + 2 * place + side
  pub spelled : in_upper_case word ≡ router.name ++ (47 ∷ (48 + side) ∷ [])

abbrev pub NamesMaker : SiteData → List ℕ → ℕ → Type 0
NamesMaker site word number = NamesInterface site word number ⊎ NamesSlot site word number

-- the word writes this number, within 32 bits or within 64
abbrev pub WritesNumber : List ℕ → ℕ → Type 0
WritesNumber word number = WritesWhole word (pos number) × (number ≤ 4294967295)

abbrev pub WritesCount : List ℕ → ℕ → Type 0
WritesCount word number = WritesWhole word (pos number) × (number ≤ 18446744073709551615)

-- the word for why a connection ends
abbrev pub EndsBy : Why → List ℕ → Type 0
EndsBy why.PeerEnded word = word ≡ codes "PEER"
EndsBy why.ReadFault word = word ≡ codes "READ"
EndsBy why.WriteFault word = word ≡ codes "WRITE"
EndsBy why.Stopped word = word ≡ codes "STOP"
EndsBy _ word = ⊥

-- ---- rows

abbrev pub Says : SiteData → List (List ℕ) → Event → Type 0
Says site words (event.SetTime t) =
    (seconds : List ℕ) × (micros : List ℕ) × IsLine (codes "TIME") (seconds ∷ micros ∷ []) words × WritesNumber seconds t.seconds × WritesNumber micros t.micros
Says site words (event.Opens by) = (who : List ℕ) × IsLine (codes "OPEN") (who ∷ []) words × NamesMaker site who by
Says site words (event.Piece by bytes) =
    (who : List ℕ) × (digits : List ℕ) × IsLine (codes "BYTES") (who ∷ digits ∷ []) words × NamesMaker site who by
    × (decode_of digits ≡ Ok bytes) × IsTrue (is_piece_size (length bytes))
Says site words (event.Finish by end) =
    (who : List ℕ) × (reason : List ℕ) × IsLine (codes "CLOSE") (who ∷ reason ∷ []) words × NamesMaker site who by × EndsBy end reason
Says site words (event.Write interface count) =
    (who : List ℕ) × (number : List ℕ) × IsLine (codes "WRITE") (who ∷ number ∷ []) words × NamesInterface site who interface × WritesCount number count
Says site words (event.Call desk text) = (number : List ℕ) × IsLine (codes "CALL") (number ∷ text ∷ []) words × WritesNumber number desk
Says site words (event.DrainLog count) = (number : List ℕ) × IsLine (codes "DRAIN") (codes "LOG" ∷ number ∷ []) words × WritesCount number count
Says site words (event.DrainSlot slot count) =
    (who : List ℕ) × (number : List ℕ) × IsLine (codes "DRAIN") (who ∷ number ∷ []) words × NamesSlot site who slot × WritesCount number count
Says site words event.Stop = IsLine (codes "STOP") [] words
