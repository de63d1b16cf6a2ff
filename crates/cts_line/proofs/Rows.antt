-- The packets of each piece stand side by side, when entries follow.
use Rattle.std.proofs.Common.{◌≡◌, ℕ, ◌<◌, ◌≤◌, ◌&&◌, Bool, true, false, List, [], ◌∷◌, ◌++◌, length, refl, sym, ◌∙◌, ap, subst, arith, append-nil, append_assoc, eq-eqb, Option, Some, None, inl, inr}
use Rattle.std.specs.Prelude.{◌⊎◌, take}
use Rattle.std.specs.List.{flat_map}
use Rattle.std.proofs.lemmas.Bool.{cases_lt}
use Rattle.std.proofs.lemmas.Grind.{flat_map-append}
use Rattle.std.proofs.lemmas.List.{length_push, take_at, take-append-le}
use Rattle.cts_def.specs.declared.time.Time.{Time}
use Rattle.cts_entry.specs.declared.entry.Entry.{Entry}
use Rattle.cts_entry.specs.Histories.{has_own, is_of_connection, is_own}
use Rattle.cts_entry.specs.Places.{Posts, Stays}
use Rattle.cts_entry.specs.Room.{Capacity}
use Rattle.cts_entry.proofs.Queuing.{stays_more, stays_snoc}
use Rattle.cts_framing.specs.Framing.{Output}
use Rattle.cts_outside.specs.Lines.{Connection, Line}
use Rattle.cts_trace.specs.Connections.{Shows}
use Rattle.cts_trace.specs.Lines.{Looked}
use Rattle.cts_trace.specs.Makers.{of_maker}
use Rattle.cts_trace.specs.Routing.{Routing, posted_entries, said_of, time_in}
use Rattle.cts_trace.specs.Told.{Said, ToldBy}
use Rattle.cts_trace.proofs.Looking.{looked_found, unopened_more}
use Rattle.cts_trace.proofs.Others.{nothing_own, strange_own}
use Rattle.cts_trace.proofs.Stretches.{stays_each}
use Rattle.cts_trace.proofs.Walks.{said}
use Rattle.cts_line.specs.Rows.{Gives, InRows, LookedInRows, Row, SaidInRows, SettledInRows, ToldInRows, in_line}

-- ---- one row

module _ (g : Routing) (m : ℕ) where
  -- each is the maker's own
  abbrev AllOwn : List Entry → Type 0
  AllOwn [] = Unit {0}
  AllOwn (e ∷ es) = (is_own m e ≡ true) × AllOwn es

  packets_own : (history : List Entry) (now : Time) (packets : List Output) → AllOwn (posted_entries g history now m packets)
  packets_own history now [] = tt
  packets_own history now (o ∷ packets) =
      let e : Entry = record { by = m; time = time_in o.heading now; what = said_of g history m o } in
      (ap (λ (b : Bool). b && is_of_connection e.what) (eq-eqb m m refl) ∙ (said g history m o).kind, packets_own history now packets)

  row_of : (before entries : List Entry) (packets : List Output) → AllOwn entries → Posts m (Shows g m) before entries packets → Row g m before packets entries
  row_of before [] packets own posts = posts
  row_of before (e ∷ es) packets own posts =
      let p = posts.0 own.0 in
      (own.0, (p.0, p.1, p.2, p.3, row_of (before ++ e ∷ []) es p.1 own.1 p.4))

  -- the entries of a piece's packets, all said of the history as it stood
  pub packets_row : (before history entries : List Entry) (now : Time) (packets : List Output) → entries ≡ posted_entries g history now m packets
      → Posts m (Shows g m) before entries packets → Row g m before packets entries
  packets_row before history entries now packets is posts = row_of before entries packets (subst AllOwn (sym is) (packets_own history now packets)) posts

-- ---- one row after another

in_line_more : (rows : List (List Output)) (row : List Output) → in_line (rows ++ row ∷ []) ≡ in_line rows ++ row
in_line_more rows row =
    flat_map-append (λ (x : List Output). x) rows (row ∷ []) ∙ ap (λ (l : List Output). flat_map (λ (x : List Output). x) rows ++ l) (append-nil row)

pub no_rows : (g : Routing) (m : ℕ) (before : List Entry) → InRows g m [] [] before []
no_rows g m before = record {
  rows = [];
  count = refl;
  posted_is = refl;
  each = λ n lt. absurd (let none : n < 0 = lt in omega arith);
  stand = refl;
}

module _ (g : Routing) (m : ℕ) (fed : List (List ℕ)) (posted : List Output) (before entries : List Entry) (r : InRows g m fed posted before entries) where
  -- entries of others follow
  pub rows_others : (others : List Entry) → has_own m others ≡ false → InRows g m fed posted before (entries ++ others)
  rows_others others none = record {
    rows = r.rows;
    count = r.count;
    posted_is = r.posted_is;
    each = r.each;
    stand = stays_more m (Row g m) before r.rows entries others r.stand none;
  }

  -- and the row of the next piece
  pub rows_next : (others added : List Entry) (piece : List ℕ) (packets : List Output) → has_own m others ≡ false → Gives (g.chain m) fed posted
      → Row g m (before ++ (entries ++ others)) packets added → InRows g m (fed ++ piece ∷ []) (posted ++ packets) before (entries ++ (others ++ added))
  rows_next others added piece packets none gives row = record {
    rows = r.rows ++ packets ∷ [];
    count = (let a = length_push r.rows packets in let b = length_push fed piece in let c = r.count in omega (arith, a, b, c));
    posted_is = ap (λ (l : List Output). l ++ packets) r.posted_is ∙ sym (in_line_more r.rows packets);
    each = λ n lt. by_place n (let a = length_push r.rows packets in omega (arith, a, lt)) (cases_lt n (length r.rows));
    stand = subst (Stays m (Row g m) before (r.rows ++ packets ∷ [])) (append_assoc entries others added)
        (stays_snoc m (Row g m) before r.rows (entries ++ others) added packets (stays_more m (Row g m) before r.rows entries others r.stand none) row);
  }
    where
      by_place : (n : ℕ) → n ≤ length r.rows → (n < length r.rows) ⊎ (length r.rows ≤ n)
          → Gives (g.chain m) (take n (fed ++ piece ∷ [])) (in_line (take n (r.rows ++ packets ∷ [])))
      by_place n le (inl lt) =
          let long = r.count in
          subst (λ (ps : List (List ℕ)). Gives (g.chain m) ps (in_line (take n (r.rows ++ packets ∷ [])))) (sym (take-append-le n fed (piece ∷ []) (omega (arith, le, long))))
          (subst (λ (rs : List (List Output)). Gives (g.chain m) (take n fed) (in_line rs)) (sym (take-append-le n r.rows (packets ∷ []) le)) (r.each n lt))
      by_place n le (inr more) =
          let long = r.count in
          subst (λ (ps : List (List ℕ)). Gives (g.chain m) ps (in_line (take n (r.rows ++ packets ∷ [])))) (sym (take_at fed (piece ∷ []) n (omega (arith, le, more, long))))
          (subst (λ (rs : List (List Output)). Gives (g.chain m) fed (in_line rs)) (sym (take_at r.rows (packets ∷ []) n (omega (arith, le, more))))
          (subst (Gives (g.chain m) fed) r.posted_is gives))

-- ---- all connections

module _ (g : Routing) (room : Capacity) (m : ℕ) where
  -- a further hold
  pub rows_found : (found : List ℕ) (n : ℕ) (past : List Connection) (history : List Entry) → length history ≤ n → SaidInRows g room m found past history
      → SaidInRows g room m (found ++ n ∷ []) past history
  rows_found found n past history le s =
      stays_each m n (LookedInRows g room m found) (LookedInRows g room m (found ++ n ∷ [])) (λ b c mine l k. (looked_found g room m found n b c mine l k.0, k.1)) [] past history le s

  -- and further entries
  pub rows_more : (found : List ℕ) (past : List Connection) (history more : List Entry) → has_own m more ≡ false → SaidInRows g room m found past history
      → SaidInRows g room m found past (history ++ more)
  rows_more found past history more none s = stays_more m (LookedInRows g room m found) [] past history more s none

  pub told_rows_more : (found : List ℕ) (history more : List Entry) (told : Option Line) → has_own m more ≡ false → ToldInRows g room m found history told
      → ToldInRows g room m found (history ++ more) told
  told_rows_more found history more None none t = tt
  told_rows_more found history more (Some line) none t = (t.0, t.1, t.2, t.3, rows_more found t.0 history more none t.4, unopened_more history more t.1 t.5)

  -- those of others
  pub rows_of_others : (found : List ℕ) (history more : List Entry) (told : Option Line) → of_maker m (history ++ more) ≡ of_maker m history
      → ToldInRows g room m found history told → ToldInRows g room m found (history ++ more) told
  rows_of_others found history more told same t =
      told_rows_more found history more told (strange_own m more (nothing_own m (history ++ more) history more refl same)) t

  -- where every connection has its entries, all of them are told
  pub settles_rows : (found : List ℕ) (history : List Entry) (told : Option Line) → SettledInRows g room m found history told → ToldInRows g room m found history told
  settles_rows found history None t = tt
  settles_rows found history (Some line) t = (line.past, [], t.0, sym (append-nil line.past), t.1, tt)

  -- ---- what is said without the rows

  pub said_of_rows : (found : List ℕ) (past : List Connection) (history : List Entry) → SaidInRows g room m found past history → Said g room m found past history
  said_of_rows found past history s =
      stays_each m (length history) (LookedInRows g room m found) (Looked g room m found) (λ b c mine le l. l.0) [] past history (omega arith) s

  pub told_of_rows : (found : List ℕ) (history : List Entry) (told : Option Line) → ToldInRows g room m found history told → ToldBy g room m found history told
  told_of_rows found history None t = tt
  told_of_rows found history (Some line) t = (t.0, t.1, t.2, t.3, said_of_rows found t.0 history t.4, t.5)
