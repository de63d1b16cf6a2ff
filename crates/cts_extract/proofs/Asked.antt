-- Words that name items of a packet.
use Rattle.std.proofs.Common.{◌≡◌, ℕ, cond, List, [], ◌∷◌, ◌++◌, map, refl, sym, ◌∙◌, ap, append_assoc, append-nil, Option, Some, None}
use Rattle.std.specs.Prelude.{slice_get, is_none, Result, Ok, Err}
use Rattle.cts_def.specs.Items.{ItemData}
use Rattle.cts_def.specs.Packets.{PacketData}
use Rattle.cts_extract.specs.Columns.{IsUnknown, ItemsAre, Takes, TakesAll, first_stranger, item_called}
use Rattle.cts_extract.specs.declared.fault.ColumnFault.{ColumnFault}
use Rattle.cts_extract.specs.declared.fault.ColumnFault.TheVariants.{Unknown, Memory}

stranger_here : (p : PacketData) (word : List ℕ) (later : List (List ℕ)) → item_called p word ≡ None → first_stranger p (word ∷ later) ≡ Some word
stranger_here p word later h = ap (λ (o : Option ItemData). cond (is_none o) (Some word) (first_stranger p later)) h

known_here : (p : PacketData) (word : List ℕ) (i : ItemData) (later : List (List ℕ)) → item_called p word ≡ Some i → first_stranger p (word ∷ later) ≡ first_stranger p later
known_here p word i later h = ap (λ (o : Option ItemData). cond (is_none o) (Some word) (first_stranger p later)) h

-- where all words name items there is no stranger
pub no_stranger : (p : PacketData) (words : List (List ℕ)) (items : List ItemData) → map (item_called p) words ≡ map Some items → first_stranger p words ≡ None
no_stranger p [] items h = refl
no_stranger p (word ∷ words) [] h = cc
no_stranger p (word ∷ words) (i ∷ items) h =
    let first : item_called p word ≡ Some i = cc in
    let later : map (item_called p) words ≡ map Some items = cc in
    known_here p word i words first ∙ no_stranger p words items later

-- a word that names nothing
pub no_item : (p : PacketData) (word : List ℕ) (numbers more : List ℕ) (names others : List (List ℕ)) (e : ColumnFault) → item_called p word ≡ None → IsUnknown word e
    → Takes p word numbers names (Err e) more others
no_item p word numbers more names others (Unknown other) none u = (none, u)
no_item p word numbers more names others Memory none u = tt

pub no_words : (p : PacketData) (numbers : List ℕ) (names : List (List ℕ)) (u : Unit {0}) → TakesAll p [] numbers names (Ok u) numbers names
no_words p numbers names u = ([], [], refl, refl, sym (append-nil numbers), sym (append-nil names))

-- the first word names nothing
pub first_unnamed : (p : PacketData) (word : List ℕ) (later : List (List ℕ)) (numbers more end : List ℕ) (names others ends : List (List ℕ)) (e : ColumnFault)
    → Takes p word numbers names (Err e) more others → TakesAll p (word ∷ later) numbers names (Err e) end ends
first_unnamed p word later numbers more end names others ends (Unknown other) t = stranger_here p word later t.0 ∙ ap Some (sym t.1)
first_unnamed p word later numbers more end names others ends Memory t = tt

-- the first word names an item, and so it is with the later ones
pub and_later : (p : PacketData) (word : List ℕ) (later : List (List ℕ)) (numbers more end : List ℕ) (names others ends : List (List ℕ)) (u : Unit {0}) (r : Result (Unit {0}) ColumnFault)
    → Takes p word numbers names (Ok u) more others → TakesAll p later more others r end ends → TakesAll p (word ∷ later) numbers names r end ends
and_later p word later numbers more end names others ends u (Ok v) t r = (
  t.1 ∷ r.0,
  t.0 ∷ r.1,
  (λ i. t.2 i ∷ r.2 i),
  (λ i. t.3 i ∷ r.3 i),
  r.4 ∙ (ap (λ (ns : List ℕ). ns ++ r.1) t.4 ∙ append_assoc numbers (t.0 ∷ []) r.1),
  r.5 ∙ (ap (λ (ns : List (List ℕ)). ns ++ map (λ (i : ItemData). i.name) r.0) t.5 ∙ append_assoc names (t.1.name ∷ []) (map (λ (i : ItemData). i.name) r.0)),
)
and_later p word later numbers more end names others ends u (Err (Unknown w)) t r = known_here p word t.1 later t.2 ∙ r
and_later p word later numbers more end names others ends u (Err Memory) t r = tt

pub found_all : (p : PacketData) (words : List (List ℕ)) (numbers : List ℕ) (names : List (List ℕ)) (u : Unit {0}) → TakesAll p words [] [] (Ok u) numbers names → ItemsAre p words (Ok (numbers, names))
found_all p words numbers names u t = (t.0, t.2, ap (map (slice_get p.items)) t.4 ∙ t.3, t.5)

pub none_found : (p : PacketData) (words : List (List ℕ)) (numbers more : List ℕ) (names others : List (List ℕ)) (e : ColumnFault) → TakesAll p words numbers names (Err e) more others → ItemsAre p words (Err e)
none_found p words numbers more names others (Unknown word) t = t
none_found p words numbers more names others Memory t = tt
