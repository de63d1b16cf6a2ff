-- The definitions of statements, said of the whole.
use Rattle.std.specs.Prelude.{◌≡◌, ◌↔◌, ℕ, ℤ, List, ◌∷◌, ◌++◌, length, map, Option, Some, None, Ok, Err}
use Rattle.std.specs.List.{filter_map}
use Rattle.cts_def.specs.declared.item_kind.ItemKind.{ItemKind}
use Rattle.cts_def.specs.Items.{ItemData, span_of}
use Rattle.cts_def.specs.Packets.{greatest}
use Rattle.cts_def.specs.Spans.{end_of}
use Rattle.cts_defstatement.specs.declared.cause.DefCause.{DefCause}
use Rattle.cts_defstatement.specs.declared.line.ItemLine.{ItemLine}
use Rattle.cts_defstatement.specs.declared.line.Line.{Line}
use Rattle.cts_defstatement.specs.declared.line.PacketLine.{PacketLine}
use Rattle.cts_defstatement.specs.Lines.{line_in}
use Rattle.cts_defread.specs.declared.drafted.Drafted.{Drafted}
use Rattle.cts_defread.specs.Definitions.{cause, refusal, lines_of, definitions_of}
use Rattle.cts_defread.specs.Standing.{packet_in, item_in, items_of, offset_or, standing, definitions_at}
use Rattle.cts_words.specs.declared.statement.Statement.{Statement}
use Rattle.cts_words.specs.Refusals.{Refusal, NoneRefused, IsRefusedFirst}

-- Statements are refused exactly where one of them has a cause, and by the first of them.
abbrev pub RefusesTheFirst : Type 0
RefusesTheFirst = (all : List Statement) (r : Refusal DefCause) → (definitions_of all ≡ Err r) ↔ IsRefusedFirst refusal all r

-- Where none has a cause, they define what their lines say.
abbrev pub TakesTheOthers : Type 0
TakesTheOthers = (all : List Statement) → NoneRefused refusal all → definitions_of all ≡ Ok (definitions_at (lines_of all))

-- A statement without a cause says a line.
abbrev pub StatementsSayLines : Type 0
StatementsSayLines = (before : List Statement) (s : Statement) → cause before s ≡ None → (l : Line) × (line_in s.words ≡ Some l)

-- the statement that opened a definition
abbrev pub head_of : Drafted → PacketLine
head_of d = record { kind = d.kind; target = d.packet.target; name = d.packet.name; order = d.order }

abbrev pub OneForEachHead : Type 0
OneForEachHead = (lines : List Line) → map head_of (standing lines) ≡ filter_map packet_in lines

-- what a line says of its item alone
pub record Said : Type 0 where
  pub name : List ℕ
  pub kind : ItemKind
  pub size : ℤ
  pub id : Option ℤ
  pub range : Option (ℤ × ℤ)

abbrev pub said_of : ItemLine → Said
said_of l = record { name = l.name; kind = l.kind; size = l.size; id = l.id; range = l.range }

abbrev pub said_in : ItemData → Said
said_in i = record { name = i.name; kind = i.kind; size = i.size; id = i.id; range = i.range }

-- The items of a definition by the lines that belong to it.
abbrev pub OneForEachItem : Type 0
OneForEachItem = (head : PacketLine) (body : List Line) → map said_in (items_of (head, body)) ≡ map said_of (filter_map item_in body)

-- the greatest end of the items
abbrev pub end_after : List ItemData → ℕ
end_after items = greatest (map (λ (i : ItemData). end_of (span_of i)) items)

-- An item begins at the offset of its line, or at the greatest end of the items before it where its line has none.
abbrev pub ItemsHaveTheirOffsets : Type 0
ItemsHaveTheirOffsets = (head : PacketLine) (body : List Line) (front rest : List ItemData) (i : ItemData) (before after : List ItemLine) (l : ItemLine)
    → items_of (head, body) ≡ front ++ i ∷ rest → filter_map item_in body ≡ before ++ l ∷ after → length front ≡ length before
    → i.offset ≡ offset_or (end_after front) l.offset
