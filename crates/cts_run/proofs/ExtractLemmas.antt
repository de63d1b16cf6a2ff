-- How far the rows of columns have come, and what was put when they end.
use Rattle.std.proofs.Common.{◌≡◌, ℕ, ◌<◌, Bool, true, false, List, [], ◌∷◌, ◌++◌, length, map, nat_eq, Option, Some, None, Result, Ok, Err, refl, sym, ◌∙◌, ap, subst, arith, inl, inr}
use Rattle.std.specs.Prelude.{if◌then◌else◌, is_some, min, option_to_list}
use Rattle.std.specs.List.{flat_map}
use Rattle.std.proofs.lemmas.Bool.Decides.{nat_tests}
use Rattle.std.proofs.lemmas.Grind.{flat_map-append}
use Rattle.std.proofs.lemmas.List.{append-nil}
use Rattle.cts_conv.specs.declared.value.ValueKind.{ValueKind}
use Rattle.cts_def.specs.Items.{ItemData}
use Rattle.cts_def.specs.Packets.{DefinitionsData, PacketData}
use Rattle.cts_extract.specs.Columns.{AreAsked, AreOf, ColumnsData, IsRow, item_called, packet_named, row_text}
use Rattle.cts_extract.specs.Words.{texts_of}
use Rattle.cts_log.specs.Files.{kind_of, log_head_len}
use Rattle.cts_log.specs.Logged.{Logged, entry_bytes}
use Rattle.cts_log.specs.Reading.{HasRead, IsLogRead, ReaderData, flagged}
use Rattle.cts_log.specs.declared.kind.LogKind.{LogKind}
use Rattle.cts_log.proofs.LogHeads.{heads_are_exact}
use Rattle.cts_log.proofs.ReadOnce.{begins_to_read}
use Rattle.cts_outside.specs.Seen.{SinkSeen, VaultSeen}
use Rattle.cts_outside.proofs.Putting.{appended-nil}
use Rattle.cts_run.specs.Acts.{Act, AreDone, DoesActs, DoesAll, Outside, PutFails, is_put, outside, puts}
use Rattle.cts_run.specs.Causes.{put_answer}
use Rattle.cts_run.specs.Dump.{dump_answer}
use Rattle.cts_run.specs.Extract.{IsExtract, PutsLines, PutsRows, has_commands, heading_line, items_called, lines_of, row_line, row_puts, table_of}
use Rattle.cts_run.specs.Putting.{PutsText}
use Rattle.cts_run.specs.Wanted.{WantedData}
use Rattle.cts_run.specs.declared.halt.Halt.{Halt}
use Rattle.cts_run.specs.declared.halt.Halt.TheVariants as halt
use Rattle.cts_run.specs.declared.putting.Undone.{Undone}
use Rattle.cts_run.proofs.ActLemmas.{all_first, all_then, done_then, fails_first, fails_then, put_done, wants_whole}
use Rattle.cts_run.proofs.DumpLemmas.{ahead, no_head}

-- ---- rows one after another

-- The reader has read these entries of the file, and their rows were put.
pub record IsThere (rows : Logged → List Act) (file : List ℕ) (r : ReaderData) (old new : Outside) : Type 0 where
  pub file_is : r.file ≡ file
  pub entries : List Logged
  pub read : HasRead r entries
  pub done : AreDone (flat_map rows entries) old new

module _ (rows : Logged → List Act) where
  rows_then : (es fs : List Logged) → flat_map rows (es ++ fs) ≡ flat_map rows es ++ flat_map rows fs
  rows_then es fs = flat_map-append rows es fs

  one_row : (es : List Logged) (e : Logged) → flat_map rows (es ++ e ∷ []) ≡ flat_map rows es ++ rows e
  one_row es e = rows_then es (e ∷ []) ∙ ap (λ (t : List Act). flat_map rows es ++ t) (append-nil (rows e))

  pub begun : (r : ReaderData) (o : Outside) → HasRead r [] → IsThere rows r.file r o o
  begun r o h = record { file_is = refl; entries = []; read = h; done = refl }

  pub goes_on : (file : List ℕ) (r s : ReaderData) (e : Logged) (old mid new : Outside) (f : IsThere rows file r old mid) → s.file ≡ r.file → HasRead s (f.entries ++ e ∷ [])
      → AreDone (rows e) mid new → IsThere rows file s old new
  goes_on file r s e old mid new f same more put = record {
    file_is = same ∙ f.file_is;
    entries = f.entries ++ e ∷ [];
    read = more;
    done = subst (λ (t : List Act). AreDone t old new) (sym (one_row f.entries e)) (done_then old mid new (flat_map rows f.entries) (rows e) f.done put);
  }

  -- memory was wanted
  pub wants : (file : List ℕ) (r : ReaderData) (old new : Outside) → IsThere rows file r old new → PutsRows rows file (Err halt.Memory) old new
  wants file r old new f =
      let a = ahead r f.entries f.read in
      record {
        kind = a.kind;
        flagged = flagged r;
        entries = f.entries ++ a.entries;
        place = a.place;
        read = subst (λ (t : List ℕ). IsLogRead t a.kind (flagged r) (f.entries ++ a.entries) a.place) f.file_is a.read;
        does = subst (λ (t : List Act). DoesAll t (dump_answer a.place (length file)) (Err halt.Memory) old new) (sym (rows_then f.entries a.entries))
            (wants_whole old new (flat_map rows f.entries) (flat_map rows a.entries) f.done);
      }

  -- a put failed within the row of an entry
  pub faulted : (file : List ℕ) (r s : ReaderData) (e : Logged) (old mid new : Outside) (f : IsThere rows file r old mid) → s.file ≡ r.file → HasRead s (f.entries ++ e ∷ [])
      → PutFails (rows e) mid new → PutsRows rows file (Err halt.WriteFault) old new
  faulted file r s e old mid new f same more fails =
      let a = ahead s (f.entries ++ e ∷ []) more in
      let all : flat_map rows ((f.entries ++ e ∷ []) ++ a.entries) ≡ (flat_map rows f.entries ++ rows e) ++ flat_map rows a.entries =
      rows_then (f.entries ++ e ∷ []) a.entries ∙ ap (λ (t : List Act). t ++ flat_map rows a.entries) (one_row f.entries e) in
      record {
        kind = a.kind;
        flagged = flagged s;
        entries = (f.entries ++ e ∷ []) ++ a.entries;
        place = a.place;
        read = subst (λ (t : List ℕ). IsLogRead t a.kind (flagged s) ((f.entries ++ e ∷ []) ++ a.entries) a.place) (same ∙ f.file_is) a.read;
        does = subst (λ (t : List Act). DoesAll t (dump_answer a.place (length file)) (Err halt.WriteFault) old new) (sym all)
            (fails_first is_put old new (flat_map rows f.entries ++ rows e) (flat_map rows a.entries) (fails_then is_put old mid new (flat_map rows f.entries) (rows e) f.done fails));
      }

  at_end : (n : ℕ) → Ok tt ≡ dump_answer n n
  at_end n = let e : nat_eq n n ≡ true = grind (arith, nat_tests) in rw e refl

  before_end : (place n : ℕ) → place < n → Err (halt.LogRefused place) ≡ dump_answer place n
  before_end place n h = let e : nat_eq place n ≡ false = grind (arith, nat_tests) in rw e refl

  pub ends_well : (file : List ℕ) (r : ReaderData) (old new : Outside) (f : IsThere rows file r old new) → (kind : LogKind) × IsLogRead r.file kind (flagged r) f.entries (length r.file) → PutsRows rows file (Ok tt) old new
  ends_well file r old new f h = record {
    kind = h.0;
    flagged = flagged r;
    entries = f.entries;
    place = length file;
    read = subst (λ (t : List ℕ). IsLogRead t h.0 (flagged r) f.entries (length t)) f.file_is h.1;
    does = (at_end (length file), f.done);
  }

  pub ends_cut : (file : List ℕ) (r : ReaderData) (place : ℕ) (old new : Outside) (f : IsThere rows file r old new) → (kind : LogKind) × IsLogRead r.file kind (flagged r) f.entries place × (place < length r.file)
      → PutsRows rows file (Err (halt.LogRefused place)) old new
  ends_cut file r place old new f h = record {
    kind = h.0;
    flagged = flagged r;
    entries = f.entries;
    place = place;
    read = subst (λ (t : List ℕ). IsLogRead t h.0 (flagged r) f.entries place) f.file_is h.1;
    does = (before_end place (length file) (omega (arith, h.2, ap length f.file_is)), f.done);
  }

-- ---- the heading in front of them

pub headed : (kind : ValueKind) (p : PacketData) (items : List ItemData) (file : List ℕ) (answer : Result (Unit {0}) Halt) (old mid new : Outside)
    → AreDone (puts (heading_line (map (λ (i : ItemData). i.name) items))) old mid → PutsRows (row_puts kind p items) file answer mid new → PutsLines kind p items file answer old new
headed kind p items file answer old mid new front k = record {
  log = k.kind;
  flagged = k.flagged;
  entries = k.entries;
  place = k.place;
  read = k.read;
  does = all_then old mid new (puts (heading_line (map (λ (i : ItemData). i.name) items))) (flat_map (row_puts kind p items) k.entries) (dump_answer k.place (length file)) answer front k.does;
}

-- it was not put
pub unheaded : (kind : ValueKind) (p : PacketData) (items : List ItemData) (r : ReaderData) (why : Undone) (old new : Outside) → HasRead r []
    → DoesActs (puts (heading_line (map (λ (i : ItemData). i.name) items))) (Err why) old new → PutsLines kind p items r.file (put_answer (Err why)) old new
unheaded kind p items r why old new h d =
    let a = ahead r [] h in
    record {
      log = a.kind;
      flagged = flagged r;
      entries = a.entries;
      place = a.place;
      read = a.read;
      does = all_first old new (puts (heading_line (map (λ (i : ItemData). i.name) items))) (flat_map (row_puts kind p items) a.entries) (dump_answer a.place (length r.file)) why d;
    }

-- ---- rows by whatever packet and items these columns are of

-- The reader has read these entries of the file, and their rows were put.
pub record HasPut (d : DefinitionsData) (c : ColumnsData) (file : List ℕ) (r : ReaderData) (old new : SinkSeen) : Type 0 where
  pub file_is : r.file ≡ file
  pub entries : List Logged
  pub read : HasRead r entries
  pub rows : (p : PacketData) (items : List ItemData) (vault : VaultSeen) → AreOf d p items c → AreDone (flat_map (row_puts c.kind p items) entries) (outside old vault) (outside new vault)

-- the row of an entry was put, or why not, if these are columns of a packet
abbrev pub ArePut : DefinitionsData → ColumnsData → Logged → Result (Unit {0}) Undone → SinkSeen → SinkSeen → Type 0
ArePut d c e answer old new = (p : PacketData) (items : List ItemData) → AreOf d p items c → PutsText (row_line c.kind p items e) answer old new

module _ (d : DefinitionsData) (c : ColumnsData) where
  pub none_put : (r : ReaderData) (o : SinkSeen) → HasRead r [] → HasPut d c r.file r o o
  none_put r o h = record { file_is = refl; entries = []; read = h; rows = λ p items vault are. refl }

  abbrev pub there : (file : List ℕ) (r : ReaderData) (old new : SinkSeen) (p : PacketData) (items : List ItemData) (vault : VaultSeen) → AreOf d p items c → HasPut d c file r old new → IsThere (row_puts c.kind p items) file r (outside old vault) (outside new vault)
  there file r old new p items vault are f = record { file_is = f.file_is; entries = f.entries; read = f.read; done = f.rows p items vault are }

  pub more_put : (file : List ℕ) (r s : ReaderData) (e : Logged) (old mid new : SinkSeen) (f : HasPut d c file r old mid) → s.file ≡ r.file → HasRead s (f.entries ++ e ∷ []) → ArePut d c e (Ok tt) mid new → HasPut d c file s old new
  unfolding goes_on
  more_put file r s e old mid new f same more put = record {
    file_is = same ∙ f.file_is;
    entries = f.entries ++ e ∷ [];
    read = more;
    rows = λ p items vault are. (goes_on (row_puts c.kind p items) file r s e (outside old vault) (outside mid vault) (outside new vault) (there file r old mid p items vault are f) same more (put_done (row_line c.kind p items e) (Ok tt) mid new vault (put p items are))).done;
  }

-- the line of a row is its text, and of an entry of another packet there is none
pub row_put : (kind : ValueKind) (p : PacketData) (items : List ItemData) (e : Logged) (row : List ℕ) (answer : Result (Unit {0}) Undone) (old new : SinkSeen) → IsRow kind p items e (Some row) → PutsText (row ++ 10 ∷ []) answer old new
    → PutsText (row_line kind p items e) answer old new
row_put kind p items e row answer old new h k =
    let named : row_line kind p items e ≡ row_text kind p items e ++ 10 ∷ [] = ap (λ (b : Bool). if b then row_text kind p items e ++ 10 ∷ [] else []) h.0 in
    subst (λ (t : List ℕ). PutsText t answer old new) (ap (λ (t : List ℕ). t ++ 10 ∷ []) h.1 ∙ sym named) k

pub no_row : (kind : ValueKind) (p : PacketData) (items : List ItemData) (e : Logged) (o : SinkSeen) → IsRow kind p items e None → PutsText (row_line kind p items e) (Ok tt) o o
no_row kind p items e o h =
    let other : row_line kind p items e ≡ [] = ap (λ (b : Bool). if b then row_text kind p items e ++ 10 ∷ [] else []) h in
    subst (λ (t : List ℕ). PutsText t (Ok tt) o o) (sym other) (refl, sym (appended-nil o.told))

-- ---- the columns that are asked for

items_found : (p : PacketData) (words : List (List ℕ)) (items : List ItemData) → map (item_called p) words ≡ map Some items → items_called p words ≡ items
items_found p [] [] h = refl
items_found p [] (i ∷ items) h = absurd (cc h)
items_found p (word ∷ words) [] h = absurd (cc h)
items_found p (word ∷ words) (i ∷ items) h =
    let first : item_called p word ≡ Some i = cc h in
    let later : map (item_called p) words ≡ map Some items = cc h in
    ap (λ (o : Option ItemData). option_to_list o ++ items_called p words) first ∙ ap (λ (t : List ItemData). i ∷ t) (items_found p words items later)

pub asked_table : (d : DefinitionsData) (commands : Bool) (w : WantedData) (c : ColumnsData) (entries : List Logged) (a : AreAsked d commands w.target w.packet (texts_of w.items) w.kind c)
    → lines_of c.kind a.of a.items entries ≡ table_of w entries (packet_named d commands w.target w.packet)
asked_table d commands w c entries a =
    ap (λ (k : ValueKind). lines_of k a.of a.items entries) a.kind_is
    ∙ (ap (λ (t : List ItemData). lines_of w.kind a.of t entries) (sym (items_found a.of (texts_of w.items) a.items a.called))
    ∙ ap (table_of w entries) (sym a.named))

-- ---- each file has a table

-- a file that was read so is a log of this kind
pub kind_read : (file : List ℕ) (kind : LogKind) (fl : Bool) (es : List Logged) (place : ℕ) → IsLogRead file kind fl es place → kind_of file ≡ Some kind
kind_read file kind fl es place r = ((heads_are_exact file kind fl).1 (r.head, flat_map (entry_bytes fl) es ++ r.rest, r.is_head, r.file_is)).0

module _ (d : DefinitionsData) (w : WantedData) where
  table_by : (file : List ℕ) (kind : Option LogKind) → kind_of file ≡ kind → (acts : List Act) × (due : Result (Unit {0}) Halt) × IsExtract d w file acts due
  table_by file None e = ([], Err (halt.LogRefused 0), inr (record { none = no_head file e; nothing = refl; refused = refl }))
  table_by file (Some kind) e =
      let start : ReaderData = record { file = file; place = min log_head_len (length file) } in
      let a = ahead start [] (begins_to_read file (ap is_some e)) in (
        table_of w a.entries (packet_named d (has_commands a.kind) w.target w.packet),
        dump_answer a.place (length file),
        inl (record { kind = a.kind; flagged = flagged start; entries = a.entries; place = a.place; read = a.read; acts_are = refl; due_is = refl }),
      )

  pub some_table : (file : List ℕ) → (acts : List Act) × (due : Result (Unit {0}) Halt) × IsExtract d w file acts due
  some_table file = table_by file (kind_of file) refl
