-- What a slot put on its last connection is what is routed to it.
use Rattle.std.proofs.Common.{◌≡◌, ℕ, ◌+◌, inl, inr, false, List, [], ◌∷◌, ◌++◌, length, refl, sym, ◌∙◌, ap, subst, arith, append_assoc, append-nil, length-append, Option, Some, None}
use Rattle.std.specs.Prelude.{◌⊎◌}
use Rattle.cts_entry.specs.Places.{Stays}
use Rattle.cts_entry.specs.declared.entry.Entry.{Entry}
use Rattle.cts_outside.specs.Lines.{Connection}
use Rattle.cts_trace_laws.proofs.Slotted.{put_begins_routed, put_is_routed_so_far}
use Rattle.cts_trace.specs.Connections.{Stay, Talks}
use Rattle.cts_trace.specs.Routing.{Routing, spell}
use Rattle.cts_trace.specs.Streams.{routed}
use Rattle.cts_trace.specs.Told.{IsStay, Tells}
use Rattle.cts_play_laws.specs.Putting.{BeginsRouted, LastPutIsRouted, last_of, put_last}

module _ (g : Routing) (m : ℕ) (slot : g.is_interface m ≡ false) where
  -- a stay somewhere in a history
  stay_begins : (before entries later : List Entry) (c : Connection) → Stay g m before c.pieces c.put entries → BeginsRouted g m (before ++ (entries ++ later)) c.put
  stay_begins before entries later c s =
      let r = put_begins_routed g m before c.pieces c.put entries later slot s in
      let long : length entries ≡ 1 + (length s.between + 1) = ap length s.entries_are ∙ omega (arith, length-append s.between (s.closed ∷ [])) in
      record {
        before = before;
        opened = s.opened;
        later = (s.between ++ s.closed ∷ []) ++ later;
        history_is = ap (λ (es : List Entry). before ++ (es ++ later)) s.entries_are;
        opens = s.opens;
        end = length before + 1 + length s.between;
        within = omega (arith, long, length-append before (entries ++ later), length-append entries later);
        more = r.0;
        all = r.1;
      }

  talk_begins : (before entries : List Entry) (c : Connection) → Talks g m before c.pieces c.put entries → BeginsRouted g m (before ++ entries) c.put
  talk_begins before entries c s =
      let r = put_is_routed_so_far g m before c.pieces c.put entries [] slot s in
      let long : length entries ≡ 1 + length s.between = ap length s.entries_are ∙ omega arith in
      let same : before ++ (entries ++ []) ≡ before ++ entries = ap (λ (es : List Entry). before ++ es) (append-nil entries) in
      record {
        before = before;
        opened = s.opened;
        later = s.between;
        history_is = ap (λ (es : List Entry). before ++ es) s.entries_are;
        opens = s.opens;
        end = length before + 1 + r.0;
        within = omega (arith, long, r.1, length-append before entries);
        more = [];
        all = append-nil c.put ∙ (r.2 ∙ ap (λ (es : List Entry). routed (spell g m) (g.routes m) es (length before + 1) (length before + 1 + r.0)) same);
      }

  past_begins : (before : List Entry) (cs : List Connection) (entries : List Entry) → Stays m (IsStay g m) before cs entries → (last_of cs ≡ []) ⊎ BeginsRouted g m (before ++ entries) (last_of cs)
  past_begins before [] entries s = inl refl
  past_begins before (c ∷ []) entries s =
      let r = stay_begins (before ++ s.0) s.1 s.2 c s.5 in
      let same : (before ++ s.0) ++ (s.1 ++ s.2) ≡ before ++ entries = append_assoc before s.0 (s.1 ++ s.2) ∙ ap (λ (es : List Entry). before ++ es) (sym s.3) in
      inr (subst (λ (h : List Entry). BeginsRouted g m h c.put) same r)
  past_begins before (c ∷ d ∷ cs) entries s =
      let same : (before ++ (s.0 ++ s.1)) ++ s.2 ≡ before ++ entries =
      append_assoc before (s.0 ++ s.1) s.2 ∙ ap (λ (es : List Entry). before ++ es) (append_assoc s.0 s.1 s.2 ∙ sym s.3) in
      subst (λ (h : List Entry). (last_of (d ∷ cs) ≡ []) ⊎ BeginsRouted g m h (last_of (d ∷ cs))) same (past_begins (before ++ (s.0 ++ s.1)) (d ∷ cs) s.2 s.6)

  tells_begin : (history : List Entry) (past : List Connection) (now : Option Connection) → Tells g m history past now → (put_last past now ≡ []) ⊎ BeginsRouted g m history (put_last past now)
  tells_begin history past None t = past_begins [] past history t
  tells_begin history past (Some c) t = inr (subst (λ (h : List Entry). BeginsRouted g m h c.put) (sym t.2) (talk_begins t.0 t.1 c t.4))

pub last_put_is_routed : LastPutIsRouted
last_put_is_routed g m history line slot told = tells_begin g m slot history line.past line.now told
