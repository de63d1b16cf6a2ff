-- What the replies of a desk that reads from a snapshot are over.
use Rattle.std.proofs.Common.{◌≡◌, ℕ, ◌≤◌, ◌⊎◌, inl, inr, List, [], ◌∷◌, ◌++◌, length, take, sym, ap, ◌∙◌, subst, append_assoc}
use Rattle.std.proofs.lemmas.List.{take_at}
use mathlib.Core.List.{IsPrefix}
use Rattle.cts_book.proofs.Fronts.{prefix_length, prefix_trans}
use Rattle.cts_entry.specs.declared.entry.Entry.{Entry}
use Rattle.cts_table.specs.declared.basis.Basis.{Basis}
use Rattle.cts_worker.specs.Lasts.{first_moment}
use Rattle.cts_api.specs.Points.{point_of}
use Rattle.cts_api.specs.Replies.{IsReply}
use Rattle.cts_desk.specs.Exchanges.{Exchange, IsAnswered}
use Rattle.cts_snap_desk.specs.Given.{Given, ByHold, ByRead, Lacks, Place, ReadsOver, SnapExchanges, held_at, lacks_at, read_at}
use Rattle.cts_snap_server.specs.Replied.{AreOver, IsLacking, IsOver}

-- the first entries of a list that begins so
begins_take : (stood list : List Entry) (n : ℕ) → IsPrefix stood list → n ≡ length stood → take n list ≡ stood
begins_take stood list n p e = ap (take n) (sym p.1) ∙ take_at stood p.0 n (sym e)

begins_within : (stood list : List Entry) (n : ℕ) → IsPrefix stood list → n ≡ length stood → n ≤ length list
begins_within stood list n p e = subst (λ k. k ≤ length list) (sym e) (prefix_length stood list p)

-- up to a hold, and past it
pub up_to : (before rest gap added later : List Entry) → rest ≡ gap ++ (added ++ later) → before ++ rest ≡ (before ++ gap) ++ (added ++ later)
up_to before rest gap added later is = ap (λ l. before ++ l) is ∙ sym (append_assoc before gap (added ++ later))

pub past : (before rest gap added later : List Entry) → rest ≡ gap ++ (added ++ later) → before ++ rest ≡ (before ++ (gap ++ added)) ++ later
past before rest gap added later is =
    ap (λ l. before ++ l) (is ∙ sym (append_assoc gap added later)) ∙ sym (append_assoc before (gap ++ added) later)

pub begins_hold : (before rest gap added later history : List Entry) → rest ≡ gap ++ (added ++ later) → IsPrefix (before ++ rest) history
    → IsPrefix (before ++ gap) history
begins_hold before rest gap added later history is p =
    prefix_trans (before ++ gap) (before ++ rest) history (added ++ later, sym (up_to before rest gap added later is)) p

pub begins_past : (before rest gap added later history : List Entry) → rest ≡ gap ++ (added ++ later) → IsPrefix (before ++ rest) history
    → IsPrefix ((before ++ (gap ++ added)) ++ later) history
begins_past before rest gap added later history is p = subst (λ l. IsPrefix l history) (past before rest gap added later is) p

module _ (b : Basis) (by : ℕ) where
  -- in a hold
  held_over : (stood history : List Entry) (x : Exchange) (added : List Entry) → IsPrefix stood history → x.front ≡ length stood
      → IsAnswered b by stood x added → IsOver b by history x ⊎ IsLacking x
  held_over stood history x added p e (inl r) = inl (record {
    within = begins_within stood history x.front p e;
    time = r.time;
    reply = r.reply;
    is = subst (λ l. IsReply (point_of b l) by r.time x.body r.reply) (sym (begins_take stood history x.front p e)) r.is;
    text = r.text;
  })
  held_over stood history x added p e (inr m) = inr m.0

  -- read
  read_over : (list history : List Entry) (x : Exchange) → IsPrefix list history → ReadsOver b list x → IsOver b by history x
  read_over list history x q r =
      let p = prefix_trans r.0 list history r.1 q in
      let t = r.3 by first_moment in record {
        within = begins_within r.0 history x.front p r.2;
        time = first_moment;
        reply = t.0;
        is = subst (λ l. IsReply (point_of b l) by first_moment x.body t.0) (sym (begins_take r.0 history x.front p r.2)) t.1;
        text = t.2;
      }

  -- each of them
  pub are_over : (list read history : List Entry) (at : Place) (before : List Entry) (gs : List Given) (end : Place) (last rest : List Entry)
      → IsPrefix (before ++ rest) history → IsPrefix list read → SnapExchanges b by b list at before gs end last rest → AreOver b by history read gs
  are_over list read history at before [] end last rest p q s = tt
  are_over list read history at before (ByHold x ∷ gs) end last rest p q s = (
    held_over (before ++ s.1) history x s.2 (begins_hold before rest s.1 s.2 s.3 history s.4 p) s.6 s.7,
    are_over list read history (held_at x.front (length (before ++ (s.1 ++ s.2)))) (before ++ (s.1 ++ s.2)) gs end last s.3
        (begins_past before rest s.1 s.2 s.3 history s.4 p) q s.8,
  )
  are_over list read history at before (ByRead x ∷ gs) end last rest p q s =
      let over = s.1 in (read_over list read x q over, are_over list read history (read_at x.front) before gs end last rest p q s.2)
  are_over list read history at before (Lacks x ∷ gs) end last rest p q s =
      (s.0, are_over list read history (lacks_at x.front at) before gs end last rest p q s.2)
