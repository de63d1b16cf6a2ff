-- The worked examples.
use Rattle.std.proofs.Common.{◌≡◌, ℕ, ◌+◌, ◌<◌, ◌≤◌, ◌||◌, Bool, true, false, List, [], ◌∷◌, ◌++◌, length, Some, None, refl, sym, ◌∙◌, ap, subst, arith, append-nil, length-append, inl, inr}
use Rattle.std.specs.Prelude.{sum_by}
use Rattle.std.proofs.lemmas.List.{nil_from_length}
use Rattle.std.proofs.lemmas.List.Elements.{All-nil}
use Rattle.cts_def.specs.declared.loss.Loss.{Loss}
use Rattle.cts_bits.specs.Bits.{bits_of}
use Rattle.cts_bits.specs.Fields.{field_at}
use Rattle.cts_def.specs.Protocols.{LengthData, Length}
use Rattle.cts_entry.specs.declared.entry.Entry.{Entry}
use Rattle.cts_entry.specs.declared.what.What.{What}
use Rattle.cts_entry.specs.declared.what.What.TheVariants.{Closed, Command, Unrouted}
use Rattle.cts_entry.specs.declared.what.NotSent.TheVariants.{NotConnected}
use Rattle.cts_entry.specs.declared.why.Why.{Why}
use Rattle.cts_entry.specs.declared.why.Why.TheVariants.{PeerEnded, WriteFault, Stopped, NoMemory, Full}
use Rattle.cts_entry.specs.Histories.{is_stop, is_stopped}
use Rattle.cts_entry.specs.Places.{Posts}
use Rattle.cts_entry.proofs.Appending.{stopped-append}
use Rattle.cts_framing.specs.Cuts.{Ends, IsCut, Pieces}
use Rattle.cts_framing.specs.Framing.{Framing, Output, plain}
use Rattle.cts_framing.specs.Packets.{IsPackets}
use Rattle.cts_framing.specs.Rows.{framing_of, length_states}
use Rattle.cts_framing.specs.WorkedCuts.{length_at}
use Rattle.cts_framing.proofs.Endings.{part_ends}
use Rattle.cts_framing.proofs.Framings.{taken_none, ends_nil}
use Rattle.cts_framing.proofs.LengthSteady.{length_steady}
use Rattle.cts_framing.proofs.Sound.{is_sound}
use Rattle.cts_framing.proofs.Stagings.{has_one_packets}
use Rattle.cts_outside.specs.Lines.{Connection, fresh, no_connections}
use Rattle.cts_trace.specs.Connections.{Carries, Fed, NoneLate, Says, Shows, Stay, Talks}
use Rattle.cts_entry.specs.Room.{has_room}
use Rattle.cts_trace.specs.Lines.{Causes, Looked, TellsWhy, looks}
use Rattle.cts_trace.specs.Told.{ToldBy, Said, Unopened}
use Rattle.cts_trace.proofs.Lateness.{late_blank, late_more}
use Rattle.cts_trace.proofs.Looking.{few_looks, looks_below}
use Rattle.cts_trace.specs.Worked.{WorkedTold, example, entry, opened, packet, command, closed, stop, most, ended_after}

-- ---- what the frames are

abbrev lengths : LengthData
lengths = length_at 0 8 []

abbrev framing : Framing
framing = framing_of (Length lengths)

abbrev cut_so : List (List ℕ) → List ℕ → Pieces
cut_so [] rest = record { outs = []; skipped = 0; empty = 0; rest = rest; bad = None }
cut_so (frame ∷ frames) rest = record (cut_so frames rest) { outs = plain frame ∷ (cut_so frames rest).outs }

nil_ends : Ends framing [] None
nil_ends = ends_nil framing (is_sound (Length lengths))

five_ends : Ends framing (5 ∷ []) None
unfolding field_at bits_of
five_ends = part_ends [] (length_states lengths) framing.output (length_steady lengths) (5 ∷ []) 5 tt refl (omega arith)

no_cut : IsCut framing [] (cut_so [] [])
no_cut = record { taken = taken_none framing []; ends = nil_ends }

two_cut : IsCut framing (2 ∷ 1 ∷ []) (cut_so ((2 ∷ 1 ∷ []) ∷ []) [])
unfolding field_at bits_of
two_cut = record {
  taken = record { parts = record { gap = []; frame = 2 ∷ 1 ∷ [] } ∷ []; gap = []; cut = ([], refl, refl, tt, refl); clear = tt; outs_are = refl; skipped_is = refl; empty_is = refl };
  ends = nil_ends;
}

held_cut : IsCut framing (3 ∷ 17 ∷ 34 ∷ 5 ∷ []) (cut_so ((3 ∷ 17 ∷ 34 ∷ []) ∷ []) (5 ∷ []))
unfolding field_at bits_of
held_cut = record {
  taken = record { parts = record { gap = []; frame = 3 ∷ 17 ∷ 34 ∷ [] } ∷ []; gap = []; cut = (5 ∷ [], refl, refl, tt, refl); clear = tt; outs_are = refl; skipped_is = refl; empty_is = refl };
  ends = five_ends;
}

short_ends : Ends framing (3 ∷ 17 ∷ []) None
unfolding field_at bits_of
short_ends = part_ends [] (length_states lengths) framing.output (length_steady lengths) (3 ∷ 17 ∷ []) 3 tt refl (omega arith)

short_cut : IsCut framing (3 ∷ 17 ∷ []) (cut_so [] (3 ∷ 17 ∷ []))
short_cut = record { taken = taken_none framing (3 ∷ 17 ∷ []); ends = short_ends }

-- ---- no piece comes late

late_one : (chain : List Framing) → chain ≡ framing ∷ [] → NoneLate chain ((2 ∷ 1 ∷ []) ∷ [])
late_one chain is = subst (λ (fs : List Framing). NoneLate fs ((2 ∷ 1 ∷ []) ∷ [])) (sym is) (late_more (framing ∷ []) [] (2 ∷ 1 ∷ []) (cut_so [] [] ∷ []) [] (is_sound (Length lengths), tt) (no_cut, refl) refl)

late_held : NoneLate (example.chain 0) ((3 ∷ 17 ∷ []) ∷ (34 ∷ 5 ∷ []) ∷ [])
late_held = late_more (framing ∷ []) ((3 ∷ 17 ∷ []) ∷ []) (34 ∷ 5 ∷ []) (cut_so [] (3 ∷ 17 ∷ []) ∷ []) [] (is_sound (Length lengths), tt) (short_cut, refl) refl

-- ---- what entries say

says : (by : ℕ) (what : What) → Says by (entry by what) what
says by what = record { maker = refl; what_is = refl }

unsent : Stay example 0 [] [] (0 ∷ 7 ∷ []) (opened 0 ∷ command (7 ∷ []) ∷ command (8 ∷ []) ∷ closed 0 PeerEnded 0 0 1 ∷ [])
unsent = record {
  opened = opened 0;
  between = command (7 ∷ []) ∷ command (8 ∷ []) ∷ [];
  closed = closed 0 PeerEnded 0 0 1;
  entries_are = refl;
  opens = says 0 _;
  why = PeerEnded;
  fed = [];
  left = [];
  done = command (7 ∷ []) ∷ [];
  rest = command (8 ∷ []) ∷ [];
  tail = [];
  carries = record {
    cuts = cut_so [] [] ∷ [];
    posted = [];
    packets = (no_cut, refl);
    posts = (λ h. absurd (cc h), λ h. (λ k. absurd (cc k), λ k. refl));
    queue_is = refl;
  };
  blames = refl;
  late = late_blank (example.chain 0);
  fed_is = inl refl;
  left_is = inl refl;
  put = refl;
  tail_is = inl refl;
  closes = says 0 _;
}

refused : Stay example 0 [] [] (0 ∷ 8 ∷ []) (opened 0 ∷ command [] ∷ command (8 ∷ []) ∷ closed 0 PeerEnded 0 0 1 ∷ [])
refused = record {
  opened = opened 0;
  between = command [] ∷ command (8 ∷ []) ∷ [];
  closed = closed 0 PeerEnded 0 0 1;
  entries_are = refl;
  opens = says 0 _;
  why = PeerEnded;
  fed = [];
  left = [];
  done = command [] ∷ command (8 ∷ []) ∷ [];
  rest = [];
  tail = [];
  carries = record {
    cuts = cut_so [] [] ∷ [];
    posted = [];
    packets = (no_cut, refl);
    posts = (λ h. absurd (cc h), λ h. (λ k. absurd (cc k), λ k. refl));
    queue_is = refl;
  };
  blames = refl;
  late = late_blank (example.chain 0);
  fed_is = inl refl;
  left_is = inl refl;
  put = refl;
  tail_is = inl refl;
  closes = says 0 _;
}

held_posts : Posts 0 (Shows example 0) (opened 0 ∷ []) (packet (3 ∷ 17 ∷ 34 ∷ []) ∷ []) (plain (3 ∷ 17 ∷ 34 ∷ []) ∷ [])
held_posts = (λ h. (plain (3 ∷ 17 ∷ 34 ∷ []), [], refl, (refl, tt), refl), λ h. absurd (cc h))

abbrev held_carries : Carries example 0 (opened 0 ∷ []) ((3 ∷ 17 ∷ []) ∷ (34 ∷ 5 ∷ []) ∷ []) [] [] [] (packet (3 ∷ 17 ∷ 34 ∷ []) ∷ [])
held_carries = record {
  cuts = cut_so ((3 ∷ 17 ∷ 34 ∷ []) ∷ []) (5 ∷ []) ∷ [];
  posted = plain (3 ∷ 17 ∷ 34 ∷ []) ∷ [];
  packets = (held_cut, refl);
  posts = held_posts;
  queue_is = refl;
}

held : Stay example 0 [] ((3 ∷ 17 ∷ []) ∷ (34 ∷ 5 ∷ []) ∷ []) [] (opened 0 ∷ packet (3 ∷ 17 ∷ 34 ∷ []) ∷ closed 0 PeerEnded 1 0 0 ∷ [])
held = record {
  opened = opened 0;
  between = packet (3 ∷ 17 ∷ 34 ∷ []) ∷ [];
  closed = closed 0 PeerEnded 1 0 0;
  entries_are = refl;
  opens = says 0 _;
  why = PeerEnded;
  fed = (3 ∷ 17 ∷ []) ∷ (34 ∷ 5 ∷ []) ∷ [];
  left = [];
  done = [];
  rest = [];
  tail = [];
  carries = held_carries;
  blames = refl;
  late = late_held;
  fed_is = inl refl;
  left_is = inl refl;
  put = refl;
  tail_is = inl refl;
  closes = says 0 _;
}

stands : Talks example 0 [] ((3 ∷ 17 ∷ []) ∷ (34 ∷ 5 ∷ []) ∷ []) [] (opened 0 ∷ packet (3 ∷ 17 ∷ 34 ∷ []) ∷ [])
stands = record {
  opened = opened 0;
  between = packet (3 ∷ 17 ∷ 34 ∷ []) ∷ [];
  entries_are = refl;
  opens = says 0 _;
  done = [];
  rest = [];
  carries = held_carries;
  sound = refl;
  put = refl;
}

routed : Stay example 8 (opened 0 ∷ []) ((2 ∷ 1 ∷ []) ∷ []) [] (opened 8 ∷ entry 8 (Command 0 0 (2 ∷ 1 ∷ [])) ∷ closed 8 PeerEnded 0 0 0 ∷ [])
routed = record {
  opened = opened 8;
  between = entry 8 (Command 0 0 (2 ∷ 1 ∷ [])) ∷ [];
  closed = closed 8 PeerEnded 0 0 0;
  entries_are = refl;
  opens = says 8 _;
  why = PeerEnded;
  fed = (2 ∷ 1 ∷ []) ∷ [];
  left = [];
  done = [];
  rest = [];
  tail = [];
  carries = record {
    cuts = cut_so ((2 ∷ 1 ∷ []) ∷ []) [] ∷ [];
    posted = plain (2 ∷ 1 ∷ []) ∷ [];
    packets = (two_cut, refl);
    posts = (λ h. (plain (2 ∷ 1 ∷ []), [], refl, (refl, tt), refl), λ h. absurd (cc h));
    queue_is = refl;
  };
  blames = refl;
  late = late_one (example.chain 8) refl;
  fed_is = inl refl;
  left_is = inl refl;
  put = refl;
  tail_is = inl refl;
  closes = says 8 _;
}

unrouted : Stay example 8 [] ((2 ∷ 1 ∷ []) ∷ []) [] (opened 8 ∷ entry 8 (Unrouted NotConnected (2 ∷ 1 ∷ [])) ∷ closed 8 PeerEnded 0 0 0 ∷ [])
unrouted = record {
  opened = opened 8;
  between = entry 8 (Unrouted NotConnected (2 ∷ 1 ∷ [])) ∷ [];
  closed = closed 8 PeerEnded 0 0 0;
  entries_are = refl;
  opens = says 8 _;
  why = PeerEnded;
  fed = (2 ∷ 1 ∷ []) ∷ [];
  left = [];
  done = [];
  rest = [];
  tail = [];
  carries = record {
    cuts = cut_so ((2 ∷ 1 ∷ []) ∷ []) [] ∷ [];
    posted = plain (2 ∷ 1 ∷ []) ∷ [];
    packets = (two_cut, refl);
    posts = (λ h. (plain (2 ∷ 1 ∷ []), [], refl, (refl, tt), refl), λ h. absurd (cc h));
    queue_is = refl;
  };
  blames = refl;
  late = late_one (example.chain 8) refl;
  fed_is = inl refl;
  left_is = inl refl;
  put = refl;
  tail_is = inl refl;
  closes = says 8 _;
}

-- ---- what a line tells

-- holds at a history without entries are before any look
few_after : (found : List ℕ) (limit above most : ℕ) → length found ≤ limit → looks (0 ∷ found) above most ≤ limit
few_after found limit above most few = let rest = looks_below 0 above most found (omega arith) in let all = few_looks found above most in omega (arith, few, rest, all)

line_looked : Looked example (most 9) 0 (0 ∷ 2 ∷ 2 ∷ []) [] (ended_after [] (0 ∷ 7 ∷ [])) (opened 0 ∷ command (7 ∷ []) ∷ closed 0 PeerEnded 0 0 0 ∷ [])
line_looked = record {
  stay = record {
    opened = opened 0;
    between = command (7 ∷ []) ∷ [];
    closed = closed 0 PeerEnded 0 0 0;
    entries_are = refl;
    opens = says 0 _;
    why = PeerEnded;
    fed = [];
    left = [];
    done = command (7 ∷ []) ∷ [];
    rest = [];
    tail = [];
    carries = record { cuts = cut_so [] [] ∷ []; posted = []; packets = (no_cut, refl); posts = (λ h. absurd (cc h), λ h. refl); queue_is = refl };
    blames = refl;
    late = late_blank (example.chain 0);
    fed_is = inl refl;
    left_is = inl refl;
    put = refl;
    tail_is = inl refl;
    closes = says 0 _;
  };
  looked = command (7 ∷ []) ∷ [];
  since = [];
  between_is = refl;
  look_is = inr (record { earlier = 0 ∷ []; between = []; close = 2; later = []; found_are = refl; close_within = omega arith });
  cause = (refl, refl);
  tells = (refl, refl, refl);
  waits = [];
  saw = refl;
  tail_is = inl refl;
  put_all = refl;
  posted_none = refl;
  often = omega arith;
  last = (2, record { earlier = 0 ∷ []; later = []; found_are = refl; close_within = omega arith; later_beyond = All-nil (λ (n : ℕ). 2 < n) });
  soon = λ earlier later are stop. few_after (2 ∷ 2 ∷ []) 3 (0 + length earlier) 2 (omega arith);
}

write_fault : Looked example (most 9) 0 (0 ∷ 2 ∷ 2 ∷ []) [] (record { pieces = []; put = 0 ∷ []; takes = 0; ended = false; take_failed = false; put_failed = true })
    (opened 0 ∷ command (7 ∷ []) ∷ closed 0 WriteFault 0 0 1 ∷ [])
write_fault = record {
  stay = record {
    opened = opened 0;
    between = command (7 ∷ []) ∷ [];
    closed = closed 0 WriteFault 0 0 1;
    entries_are = refl;
    opens = says 0 _;
    why = WriteFault;
    fed = [];
    left = [];
    done = [];
    rest = command (7 ∷ []) ∷ [];
    tail = 0 ∷ [];
    carries = record { cuts = cut_so [] [] ∷ []; posted = []; packets = (no_cut, refl); posts = (λ h. absurd (cc h), λ h. refl); queue_is = refl };
    blames = refl;
    late = late_blank (example.chain 0);
    fed_is = inl refl;
    left_is = inl refl;
    put = refl;
    tail_is = inr (refl, (command (7 ∷ []), [], 7 ∷ [], refl, refl));
    closes = says 0 _;
  };
  looked = command (7 ∷ []) ∷ [];
  since = [];
  between_is = refl;
  look_is = inr (record { earlier = 0 ∷ []; between = []; close = 2; later = []; found_are = refl; close_within = omega arith });
  cause = refl;
  tells = (refl, refl, refl);
  waits = command (7 ∷ []) ∷ [];
  saw = refl;
  tail_is = inr (refl, (command (7 ∷ []), [], 7 ∷ [], refl, refl));
  put_all = tt;
  posted_none = tt;
  often = omega arith;
  last = tt;
  soon = λ earlier later are stop. few_after (2 ∷ 2 ∷ []) 3 (0 + length earlier) 2 (omega arith);
}

stopped : Looked example (most 9) 0 (0 ∷ 1 ∷ 2 ∷ 3 ∷ []) [] (record { pieces = []; put = []; takes = 1; ended = false; take_failed = false; put_failed = false })
    (opened 0 ∷ stop ∷ command (7 ∷ []) ∷ closed 0 Stopped 0 0 1 ∷ [])
stopped = record {
  stay = record {
    opened = opened 0;
    between = stop ∷ command (7 ∷ []) ∷ [];
    closed = closed 0 Stopped 0 0 1;
    entries_are = refl;
    opens = says 0 _;
    why = Stopped;
    fed = [];
    left = [];
    done = [];
    rest = command (7 ∷ []) ∷ [];
    tail = [];
    carries = record { cuts = cut_so [] [] ∷ []; posted = []; packets = (no_cut, refl); posts = (λ h. absurd (cc h), λ h. (λ k. absurd (cc k), λ k. refl)); queue_is = refl };
    blames = refl;
    late = late_blank (example.chain 0);
    fed_is = inl refl;
    left_is = inl refl;
    put = refl;
    tail_is = inl refl;
    closes = says 0 _;
  };
  looked = stop ∷ [];
  since = command (7 ∷ []) ∷ [];
  between_is = refl;
  look_is = inr (record { earlier = 0 ∷ 1 ∷ []; between = []; close = 3; later = []; found_are = refl; close_within = omega arith });
  cause = refl;
  tells = (refl, refl, refl);
  waits = [];
  saw = refl;
  tail_is = inl refl;
  put_all = refl;
  posted_none = refl;
  often = omega arith;
  last = (3, record { earlier = 0 ∷ 1 ∷ []; later = []; found_are = refl; close_within = omega arith; later_beyond = All-nil (λ (n : ℕ). 3 < n) });
  soon = λ earlier later are stop. few_after (1 ∷ 2 ∷ 3 ∷ []) 3 (0 + length earlier) 3 (omega arith);
}

full : Looked example (most 1) 0 (0 ∷ 1 ∷ 1 ∷ 1 ∷ []) [] (record { pieces = (2 ∷ 1 ∷ []) ∷ []; put = []; takes = 1; ended = false; take_failed = false; put_failed = false })
    (opened 0 ∷ closed 0 Full 0 1 0 ∷ [])
full = record {
  stay = record {
    opened = opened 0;
    between = [];
    closed = closed 0 Full 0 1 0;
    entries_are = refl;
    opens = says 0 _;
    why = Full;
    fed = (2 ∷ 1 ∷ []) ∷ [];
    left = plain (2 ∷ 1 ∷ []) ∷ [];
    done = [];
    rest = [];
    tail = [];
    carries = record { cuts = cut_so ((2 ∷ 1 ∷ []) ∷ []) [] ∷ []; posted = []; packets = (two_cut, refl); posts = refl; queue_is = refl };
    blames = refl;
    late = late_one (example.chain 0) refl;
    fed_is = inl refl;
    left_is = inr ([], 2 ∷ 1 ∷ [], cut_so [] [] ∷ [], [], [], refl, (no_cut, refl), refl, inl (refl, refl));
    put = refl;
    tail_is = inl refl;
    closes = says 0 _;
  };
  looked = [];
  since = [];
  between_is = refl;
  look_is = inl refl;
  cause = ((λ h. absurd (cc h)), refl);
  tells = (refl, refl, refl);
  waits = [];
  saw = refl;
  tail_is = inl refl;
  put_all = tt;
  posted_none = tt;
  often = omega arith;
  last = tt;
  soon = λ earlier later are stop. few_after (1 ∷ 1 ∷ 1 ∷ []) 3 (0 + length earlier) 1 (omega arith);
}

-- ---- what may not be told

none_told : (c : Connection) (cs : List Connection) → Said example (most 9) 0 (0 ∷ []) (c ∷ cs) [] → ⊥
none_told c cs s =
    let stay = s.5.stay in
    let mine = ap length stay.entries_are in
    let whole = ap length s.3 ∙ length-append s.0 (s.1 ++ s.2) in
    let inner = length-append s.1 s.2 in
    omega (arith, mine, whole, inner)

not_unopened : ToldBy example (most 9) 0 (0 ∷ []) [] (Some (record no_connections { past = fresh ∷ [] })) → ⊥
not_unopened t = by_cases t.0 t.1 t.3 t.4 t.5
  where
    by_cases : (said last : List Connection) → fresh ∷ [] ≡ said ++ last → Said example (most 9) 0 (0 ∷ []) said [] → Unopened [] last → ⊥
    by_cases (c ∷ said) last e s u = none_told c said s
    by_cases [] [] e s u = absurd (cc e)
    by_cases [] (c ∷ []) e s u = absurd (let no = u.1 in cc)
    by_cases [] (c ∷ d ∷ cs) e s u = u

not_looked : Looked example (most 9) 0 (0 ∷ 1 ∷ []) [] (ended_after [] []) (opened 0 ∷ closed 0 PeerEnded 0 0 0 ∷ []) → ⊥
not_looked l =
    let s = l.stay in
    let whole = ap length s.entries_are in
    let inner = length-append s.between (s.closed ∷ []) in
    let none : 0 + 1 + length s.between ≡ 1 = omega (arith, whole, inner) in
    let few : 1 < 1 = subst (λ (n : ℕ). 1 < looks (0 ∷ 1 ∷ []) 0 n) none l.often in
    omega (arith, few)

abbrev took : Connection
took = record { pieces = (2 ∷ 1 ∷ []) ∷ []; put = []; takes = 1; ended = false; take_failed = false; put_failed = false }

two_parts : (a b c d : Entry) → a ∷ b ∷ [] ≡ c ∷ d ∷ [] → (a ≡ c) × (b ≡ d)
two_parts a b c d same =
    let first : a ≡ c = cc in
    let second : b ≡ d = cc in
    (first, second)

why_of : (w v : Why) (loss gain : Loss) (p q r t : ℕ) → Closed w loss p r ≡ Closed v gain q t → w ≡ v
why_of w v loss gain p q r t same = cc

all_fed : (why : Why) (fed : List (List ℕ)) → why ≡ Full → Fed why ((2 ∷ 1 ∷ []) ∷ []) fed → fed ≡ (2 ∷ 1 ∷ []) ∷ []
all_fed why fed is (inl all) = all
all_fed why fed is (inr (memory, some)) = absurd (let f : Full ≡ NoMemory = sym is ∙ memory in cc)

-- the reason that such entries state
why_stated : (c : Connection) (found : List ℕ) (w : Why) (held unposted unsent : ℕ) → (l : Looked example (most 9) 0 found [] c (opened 0 ∷ closed 0 w held unposted unsent ∷ [])) → l.stay.why ≡ w
why_stated c found w held unposted unsent l =
    let s = l.stay in
    let whole = ap length s.entries_are in
    let inner = length-append s.between (s.closed ∷ []) in
    let few : length s.between ≡ 0 = omega (arith, whole, inner) in
    let none : s.between ≡ [] = nil_from_length s.between few in
    let ends : opened 0 ∷ closed 0 w held unposted unsent ∷ [] ≡ s.opened ∷ s.closed ∷ [] = s.entries_are ∙ ap (λ (b : List Entry). s.opened ∷ (b ++ s.closed ∷ [])) none in
    let parts = two_parts (opened 0) (closed 0 w held unposted unsent) s.opened s.closed ends in
    why_of _ _ _ _ _ _ _ _ (sym s.closes.what_is ∙ ap (λ (e : Entry). e.what) (sym parts.1))

not_passed_over : Looked example (most 9) 0 (0 ∷ 1 ∷ 1 ∷ 1 ∷ []) [] (record { pieces = []; put = []; takes = 2; ended = true; take_failed = true; put_failed = false })
    (opened 0 ∷ closed 0 PeerEnded 0 0 0 ∷ []) → ⊥
not_passed_over l =
    let c : Connection = record { pieces = []; put = []; takes = 2; ended = true; take_failed = true; put_failed = false } in
    let tells : TellsWhy PeerEnded c = subst (λ (w : Why). TellsWhy w c) (why_stated c (0 ∷ 1 ∷ 1 ∷ 1 ∷ []) PeerEnded 0 0 0 l) l.tells in
    let f : true ≡ false = tells.1 in cc

stopped_front : (a b : Bool) → (a || b) ≡ true → b ≡ false → a ≡ true
stopped_front true b h k = refl
stopped_front false b h k = absurd (cc h)

not_soon : Looked example (most 9) 0 (0 ∷ 2 ∷ 2 ∷ 2 ∷ 2 ∷ []) [] (record { pieces = []; put = []; takes = 2; ended = false; take_failed = false; put_failed = false })
    (opened 0 ∷ stop ∷ closed 0 Stopped 0 0 0 ∷ []) → ⊥
not_soon l =
    let s = l.stay in
    let found : List ℕ = 0 ∷ 2 ∷ 2 ∷ 2 ∷ 2 ∷ [] in
    let whole = ap length s.entries_are in
    let inner = length-append s.between (s.closed ∷ []) in
    let one : length s.between ≡ 1 = omega (arith, whole, inner) in
    let last : is_stopped (s.closed ∷ []) ≡ false = ap (λ (w : What). is_stop w || false) s.closes.what_is in
    let all : (is_stopped (s.opened ∷ s.between) || is_stopped (s.closed ∷ [])) ≡ true = sym (stopped-append (s.opened ∷ s.between) (s.closed ∷ [])) ∙ ap is_stopped (sym s.entries_are) in
    let stops = stopped_front (is_stopped (s.opened ∷ s.between)) (is_stopped (s.closed ∷ [])) all last in
    let few : looks found (0 + length s.between) (0 + 1 + length s.between) ≤ 3 = l.soon s.between [] (sym (append-nil s.between)) stops in
    let four : looks found 1 2 ≤ 3 = subst (λ (n : ℕ). looks found (0 + n) (0 + 1 + n) ≤ 3) one few in
    omega (arith, four)

not_full : Looked example (most 2) 0 (0 ∷ 1 ∷ 1 ∷ 1 ∷ []) [] (record { pieces = (2 ∷ 1 ∷ []) ∷ []; put = []; takes = 1; ended = false; take_failed = false; put_failed = false })
    (opened 0 ∷ closed 0 Full 0 1 0 ∷ []) → ⊥
not_full l =
    let s = l.stay in
    let whole = ap length s.entries_are in
    let inner = length-append s.between (s.closed ∷ []) in
    let few : length s.between ≡ 0 = omega (arith, whole, inner) in
    let none : s.between ≡ [] = nil_from_length s.between few in
    let ends : opened 0 ∷ closed 0 Full 0 1 0 ∷ [] ≡ s.opened ∷ s.closed ∷ [] = s.entries_are ∙ ap (λ (b : List Entry). s.opened ∷ (b ++ s.closed ∷ [])) none in
    let parts = two_parts (opened 0) (closed 0 Full 0 1 0) s.opened s.closed ends in
    let why : s.why ≡ Full = why_of _ _ _ _ _ _ _ _ (sym s.closes.what_is ∙ ap (λ (e : Entry). e.what) (sym parts.1)) in
    let fed : s.fed ≡ (2 ∷ 1 ∷ []) ∷ [] = all_fed s.why s.fed why s.fed_is in
    let one = has_one_packets (example.chain 0) ((2 ∷ 1 ∷ []) ∷ []) s.carries.cuts (cut_so ((2 ∷ 1 ∷ []) ∷ []) [] ∷ []) (s.carries.posted ++ s.left) (plain (2 ∷ 1 ∷ []) ∷ []) (is_sound (Length lengths), tt)
    (subst (λ (p : List (List ℕ)). IsPackets (example.chain 0) p s.carries.cuts (s.carries.posted ++ s.left)) fed s.carries.packets) (two_cut, refl) in
    let posted : s.carries.posted ≡ [] = subst (λ (b : List Entry). Posts 0 (Shows example 0) ([] ++ s.opened ∷ []) b s.carries.posted) none s.carries.posts in
    let left : s.left ≡ plain (2 ∷ 1 ∷ []) ∷ [] = ap (λ (p : List Output). p ++ s.left) (sym posted) ∙ one.1 in
    let lacks = subst (λ (w : Why). Causes (most 2) w (record { connection = took; looked = [] ++ s.opened ∷ l.looked; whole = [] ++ s.opened ∷ s.between; left = s.left })) why l.cause in
    let room : true ≡ false = subst (λ (b : List Entry). has_room (most 2) (opened 0 ∷ b) 1 2 ≡ false) none
    (subst (λ (o : Entry). has_room (most 2) (o ∷ s.between) 1 2 ≡ false) (sym parts.0)
    (subst (λ (p : List Output). has_room (most 2) (s.opened ∷ s.between) (length p) (sum_by (λ o. length o.bytes) p) ≡ false) left lacks.1)) in cc

pub worked_told : WorkedTold
worked_told = record {
  unsent = unsent;
  refused = refused;
  held = held;
  stands = stands;
  routed = routed;
  unrouted = unrouted;
  looked = line_looked;
  write_fault = write_fault;
  stopped = stopped;
  full = full;
  unopened = ([], fresh ∷ [], refl, refl, refl, (refl, refl));
  not_unopened = not_unopened;
  not_looked = not_looked;
  not_passed_over = not_passed_over;
  not_soon = not_soon;
  not_full = not_full;
}
