-- What one choice makes happen is enabled, and leaves the core on its way.
use Rattle.std.proofs.Common.{◌≡◌, ◌∙◌, ℕ, ◌+◌, ◌-◌, ◌*◌, ◌/◌, ◌%◌, ◌≤◌, Bool, true, false, List, [], ◌∷◌, ◌++◌, length, take, drop, replicate, refl, sym, ap, subst, arith, le-leb, append-nil, length-append}
use Rattle.std.specs.Prelude.{◌&&◌, ◌||◌, ◌==◌, not, nat_le, nat_lt, if◌then◌else◌}
use Rattle.std.proofs.lemmas.Bool.Decides.{nat_tests}
use Rattle.std.proofs.lemmas.List.{length-drop, length-replicate, length-take-le, take-append-drop}
use Rattle.cts_api.specs.Made.{built}
use Rattle.cts_def.specs.Sites.{SiteData}
use Rattle.cts_entry.specs.Histories.{bytes_in, entries_in, is_connected, is_stopped, since}
use Rattle.cts_entry.specs.declared.entry.Entry.{Entry}
use Rattle.cts_entry.specs.declared.event.Effect.TheVariants.{Posted}
use Rattle.cts_entry.specs.declared.event.Event.{Event}
use Rattle.cts_entry.specs.declared.event.Event.TheVariants.{Opens, Piece, Finish, Write, Call}
use Rattle.cts_entry.specs.declared.what.What.TheVariants.{Opened}
use Rattle.cts_entry.specs.declared.why.Why.TheVariants.{PeerEnded}
use Rattle.cts_entry.proofs.Appending.{bytes-append, connected-append, entries-append, stopped-append}
use Rattle.cts_framing.specs.Cuts.{IsCut, Pieces}
use Rattle.cts_framing.specs.Framing.{plain}
use Rattle.cts_framing.specs.Rows.{framing_of}
use Rattle.cts_trace.specs.Routing.{packet_entries, walk}
use Rattle.cts_trace.proofs.Walks.{connected_kept, enough_of}
use Rattle.cts_core.specs.Environments.{site_environment}
use Rattle.cts_core.specs.Runs.{Closes, Did, Does, Receives, after, closed_entry}
use Rattle.cts_core.specs.States.{State, ahead, has_room, is_line, is_piece, unsent}
use Rattle.cts_core.specs.Sendings.{command_entry}
use Rattle.cts_rehearsal.specs.Generated.{duration, events_of, frame, frame_cut, look_up, order, text_line}
use Rattle.cts_rehearsal_laws.specs.Orders.{order_request}
use Rattle.cts_rehearsal_laws.specs.Sent.{MaySend}
use Rattle.cts_rehearsal_laws.proofs.Sending.{orders_are_sent, refused_order_leaves_nothing}
use Rattle.cts_rehearsal_laws.proofs.Writing.{writes_are_enabled}
use Rattle.cts_rehearsal_runs.specs.Cut.{given, kept}
use Rattle.cts_rehearsal_runs.specs.Protocols.{frames, lines}
use Rattle.cts_rehearsal_runs.specs.Sites.{IsDemoSite}
use Rattle.cts_rehearsal_runs.proofs.Standing.{Holds, IsOnTheWay}
use Rattle.cts_rehearsal_runs.proofs.Asked.{looks_up, three_bytes}
use Rattle.cts_rehearsal_runs.proofs.Cutting.{frames_are_cut, lines_are_cut}
use Rattle.cts_rehearsal_runs.proofs.Going.{Can, Finishes, cursor_after_is, goes, nothing_held, on_again, pieces_after_are, room_for, with_entries}
use Rattle.cts_rehearsal_runs.proofs.Pieces.{holds_more, received}
use Rattle.cts_rehearsal_runs.proofs.Places.{chain_0, chain_1, desk_0, interface_0, interface_1, line_0, line_1}
use Rattle.cts_rehearsal_runs.proofs.Quiet.{IsQuiet, command_bytes, packet_bytes, packet_entry, quiet_command, quiet_none, quiet_packets}

all_three : (a b c : Bool) → a ≡ true → b ≡ true → c ≡ true → (a && (b && c)) ≡ true
all_three a b c x y z = rw (x, y, z) refl

the_third : (a b c : Bool) → (a && (b && c)) ≡ true → c ≡ true
the_third true true c h = h
the_third true false c h = absurd (cc h)
the_third false b c h = absurd (cc h)

piece_fits : (piece : List ℕ) → 1 ≤ length piece → length piece ≤ 65536 → is_piece piece ≡ true
piece_fits piece some few = two (nat_le 1 (length piece)) (nat_le (length piece) 65536) (le-leb 1 (length piece) some) (le-leb (length piece) 65536 few)
  where
    two : (a b : Bool) → a ≡ true → b ≡ true → (a && b) ≡ true
    two a b x y = rw (x, y) refl

-- a write that is enabled leaves what it left, with one command more passed
written : (site : SiteData) (s : State) (did : Did) (choices : ℕ) → IsOnTheWay site s choices [] → Does (site_environment site) s (Write 0 1) did → IsOnTheWay site (after s (Write 0 1) did) choices []
written site s did choices way does =
    let none : did.entries ≡ [] = does.appends in
    let quiet : IsQuiet did.entries = subst IsQuiet (sym none) quiet_none in
    let same : s.history ++ did.entries ≡ s.history = ap (λ (l : List Entry). s.history ++ l) none ∙ append-nil s.history in
    let some : 1 ≤ length (ahead (site_environment site) s 0) = enough_of 1 (length (ahead (site_environment site) s 0)) (the_third ((site_environment site).routing.is_interface 0) (is_connected 0 s.history) (nat_le 1 (length (ahead (site_environment site) s 0))) does.enabled) in
    let left = length-drop (s.cursor 0) (walk (site_environment site).routing 0 (since 0 s.history)) in
    let passes : (after s (Write 0 1) did).cursor 0 ≡ s.cursor 0 + 1 = cursor_after_is s (Write 0 1) did quiet 0 in
    record {
      first = ap (is_connected 0) same ∙ way.first;
      second = ap (is_connected 1) same ∙ way.second;
      running = ap is_stopped same ∙ way.running;
      frame = subst (λ (ps : List (List ℕ)). Holds frames ps []) (sym (pieces_after_are s (Write 0 1) did quiet 0 ∙ append-nil (s.pieces 0))) way.frame;
      line = subst (λ (ps : List (List ℕ)). Holds lines ps []) (sym (pieces_after_are s (Write 0 1) did quiet 1 ∙ append-nil (s.pieces 1))) way.line;
      passed = subst (λ (h : List Entry). (after s (Write 0 1) did).cursor 0 ≤ length (walk (site_environment site).routing 0 (since 0 h))) (sym same) (omega (arith, passes, some, left));
      entries = subst (λ (h : List Entry). entries_in h ≤ 3 + choices) (sym same) way.entries;
      bytes = subst (λ (h : List Entry). bytes_in h ≤ 41 * choices) (sym same) way.bytes;
    }

-- the state is on the way, and after the events of a choice each run of the rest comes to its end
module _ (site : SiteData) (demo : IsDemoSite site) (more : List Event) (choices : ℕ) (few : choices ≤ 999999)
    (rest : (s : State) → IsOnTheWay site s (choices + 1) [] → Finishes (site_environment site) s more) where
  -- ---- a frame

  abbrev front : ℕ → List ℕ
  front r = take (frame_cut r) (frame r)

  abbrev back : ℕ → List ℕ
  back r = drop (frame_cut r) (frame r)

  whole : (r : ℕ) → front r ++ back r ≡ frame r
  whole r = take-append-drop (frame_cut r) (frame r)

  back_is_cut : (r : ℕ) → IsCut (framing_of frames) (front r ++ back r) (given (drop 2 (frame r)))
  back_is_cut r = subst (λ (t : List ℕ). IsCut (framing_of frames) t (given (drop 2 (frame r)))) (sym (whole r)) (frames_are_cut r).1

  module _ (r : ℕ) (s : State) where
    front_entries : IsOnTheWay site s choices [] → (entries : List Entry) → Receives (site_environment site) s 0 (front r) entries → entries ≡ []
    front_entries way entries receives =
        received frames refl (site_environment site) s 0 [] (front r) entries (kept (front r)) (interface_0 site demo) (chain_0 site demo) way.frame (frames_are_cut r).0 refl receives

    back_entries : IsOnTheWay site s choices (front r) → (entries : List Entry) → Receives (site_environment site) s 0 (back r) entries
        → entries ≡ packet_entries (site_environment site).routing s.time 0 (plain (drop 2 (frame r)) ∷ [])
    back_entries way entries receives =
        received frames refl (site_environment site) s 0 (front r) (back r) entries (given (drop 2 (frame r))) (interface_0 site demo) (chain_0 site demo) way.frame (back_is_cut r) refl receives

    front_long : length (front r) ≡ frame_cut r
    front_long = length-take-le (frame_cut r) (frame r) (omega arith)

    back_long : length (back r) ≡ 6 - frame_cut r
    back_long = length-drop (frame_cut r) (frame r)

    cut_few : frame_cut r ≤ 5
    cut_few = omega arith

    front_can : IsOnTheWay site s choices [] → Can (site_environment site) s (Piece 0 (front r))
    front_can way = record {
      enabled = all_three (is_line (site_environment site) 0) (is_connected 0 s.history) (is_piece (front r)) (line_0 site demo) way.first (piece_fits (front r) (omega (arith, front_long)) (omega (arith, front_long, cut_few)));
      room = λ takes entries receives.
          let none : entries ≡ [] = front_entries way entries receives in
          subst (λ (es : List Entry). has_room (site_environment site) s es ≡ true) (sym none) (room_for site s [] (omega (arith, way.entries, few)) (omega (arith, way.bytes, few)));
    }

    front_on : (did : Did) → IsOnTheWay site s choices [] → Does (site_environment site) s (Piece 0 (front r)) did → IsOnTheWay site (after s (Piece 0 (front r)) did) choices (front r)
    front_on did way does =
        let none : did.entries ≡ [] = front_entries way did.entries does.appends in
        let quiet : IsQuiet did.entries = subst IsQuiet (sym none) quiet_none in
        let no_more : entries_in did.entries ≡ 0 = ap entries_in none in
        let no_bytes : bytes_in did.entries ≡ 0 = ap bytes_in none in
        on_again site s (Piece 0 (front r)) did choices choices [] (front r) way quiet refl (omega (arith, no_more)) (omega (arith, no_bytes))
        (holds_more frames refl (s.pieces 0) [] (front r) (kept (front r)) way.frame (frames_are_cut r).0 refl)
        (subst (λ (ps : List (List ℕ)). Holds lines ps []) (sym (append-nil (s.pieces 1))) way.line)

    back_can : IsOnTheWay site s choices (front r) → Can (site_environment site) s (Piece 0 (back r))
    back_can way = record {
      enabled = all_three (is_line (site_environment site) 0) (is_connected 0 s.history) (is_piece (back r)) (line_0 site demo) way.first (piece_fits (back r) (omega (arith, back_long, cut_few)) (omega (arith, back_long)));
      room = λ takes entries receives.
          let one = back_entries way entries receives in
          let es = packet_entries (site_environment site).routing s.time 0 (plain (drop 2 (frame r)) ∷ []) in
          let size : bytes_in es ≡ 4 = packet_bytes (site_environment site).routing s.time 0 (drop 2 (frame r)) in
          let count : entries_in es ≡ 1 = packet_entry (site_environment site).routing s.time 0 (drop 2 (frame r)) in
          subst (λ (l : List Entry). has_room (site_environment site) s l ≡ true) (sym one) (room_for site s es (omega (arith, way.entries, few, count)) (omega (arith, way.bytes, few, size)));
    }

    back_on : (did : Did) → IsOnTheWay site s choices (front r) → Does (site_environment site) s (Piece 0 (back r)) did → IsOnTheWay site (after s (Piece 0 (back r)) did) (choices + 1) []
    back_on did way does =
        let one = back_entries way did.entries does.appends in
        let quiet : IsQuiet did.entries = subst IsQuiet (sym one) (quiet_packets (site_environment site).routing s.time 0 (plain (drop 2 (frame r)) ∷ []) (interface_0 site demo)) in
        let count : entries_in did.entries ≡ 1 = ap entries_in one ∙ packet_entry (site_environment site).routing s.time 0 (drop 2 (frame r)) in
        let size : bytes_in did.entries ≡ 4 = ap bytes_in one ∙ packet_bytes (site_environment site).routing s.time 0 (drop 2 (frame r)) in
        on_again site s (Piece 0 (back r)) did choices (choices + 1) (front r) [] way quiet refl (omega (arith, count)) (omega (arith, size))
        (holds_more frames refl (s.pieces 0) (front r) (back r) (given (drop 2 (frame r))) way.frame (back_is_cut r) refl)
        (subst (λ (ps : List (List ℕ)). Holds lines ps []) (sym (append-nil (s.pieces 1))) way.line)

  frame_finishes : (r : ℕ) (s : State) → IsOnTheWay site s choices [] → Finishes (site_environment site) s ((Piece 0 (front r) ∷ Piece 0 (back r) ∷ []) ++ more)
  frame_finishes r s way =
      goes (site_environment site) s (Piece 0 (front r)) (Piece 0 (back r) ∷ more) (front_can r s way) (λ did does.
      let later : State = after s (Piece 0 (front r)) did in
      let on = front_on r s did way does in
      goes (site_environment site) later (Piece 0 (back r)) more (back_can r later on) (λ did' does'. rest (after later (Piece 0 (back r)) did') (back_on r later did' on does')))

  -- ---- a line

  module _ (r : ℕ) (s : State) (way : IsOnTheWay site s choices []) where
    abbrev letters : List ℕ
    letters = replicate (1 + r / 8 % 40) 65

    line_entries : (entries : List Entry) → Receives (site_environment site) s 1 (text_line r) entries → entries ≡ packet_entries (site_environment site).routing s.time 1 (plain letters ∷ [])
    line_entries entries receives =
        received lines refl (site_environment site) s 1 [] (text_line r) entries (given letters) (interface_1 site demo) (chain_1 site demo) way.line (lines_are_cut r) refl receives

    letters_few : length letters ≤ 40
    letters_few = omega (arith, length-replicate {A = ℕ} (1 + r / 8 % 40) 65)

    line_long : length (text_line r) ≡ 1 + r / 8 % 40 + 1
    line_long = omega (arith, length-append {A = ℕ} letters (10 ∷ []), length-replicate {A = ℕ} (1 + r / 8 % 40) 65)

    line_can : Can (site_environment site) s (Piece 1 (text_line r))
    line_can = record {
      enabled = all_three (is_line (site_environment site) 1) (is_connected 1 s.history) (is_piece (text_line r)) (line_1 site demo) way.second (piece_fits (text_line r) (omega (arith, line_long)) (omega (arith, line_long)));
      room = λ takes entries receives.
          let one = line_entries entries receives in
          let es = packet_entries (site_environment site).routing s.time 1 (plain letters ∷ []) in
          let size : bytes_in es ≡ length letters = packet_bytes (site_environment site).routing s.time 1 letters in
          let count : entries_in es ≡ 1 = packet_entry (site_environment site).routing s.time 1 letters in
          subst (λ (l : List Entry). has_room (site_environment site) s l ≡ true) (sym one) (room_for site s es (omega (arith, way.entries, few, count)) (omega (arith, way.bytes, few, size, letters_few)));
    }

    line_on : (did : Did) → Does (site_environment site) s (Piece 1 (text_line r)) did → IsOnTheWay site (after s (Piece 1 (text_line r)) did) (choices + 1) []
    line_on did does =
        let one = line_entries did.entries does.appends in
        let quiet : IsQuiet did.entries = subst IsQuiet (sym one) (quiet_packets (site_environment site).routing s.time 1 (plain letters ∷ []) (interface_1 site demo)) in
        let count : entries_in did.entries ≡ 1 = ap entries_in one ∙ packet_entry (site_environment site).routing s.time 1 letters in
        let size : bytes_in did.entries ≡ length letters = ap bytes_in one ∙ packet_bytes (site_environment site).routing s.time 1 letters in
        on_again site s (Piece 1 (text_line r)) did choices (choices + 1) [] [] way quiet refl (omega (arith, count)) (omega (arith, size, letters_few))
        (subst (λ (ps : List (List ℕ)). Holds frames ps []) (sym (append-nil (s.pieces 0))) way.frame)
        (holds_more lines refl (s.pieces 1) [] (text_line r) (given letters) way.line (lines_are_cut r) refl)

    line_finishes : Finishes (site_environment site) s ((Piece 1 (text_line r) ∷ []) ++ more)
    line_finishes = goes (site_environment site) s (Piece 1 (text_line r)) more line_can (λ did does. rest (after s (Piece 1 (text_line r)) did) (line_on did does))

  -- ---- requests

  call_can : (s : State) (body : List ℕ) → Can (site_environment site) s (Call 0 body)
  call_can s body = record { enabled = desk_0 site demo; room = λ takes entries appends. absurd (cc takes) }

  -- a request that leaves nothing
  left_on : (s : State) (body : List ℕ) (did : Did) → IsOnTheWay site s choices [] → did.entries ≡ [] → IsOnTheWay site (after s (Call 0 body) did) (choices + 1) []
  left_on s body did way none =
      let quiet : IsQuiet did.entries = subst IsQuiet (sym none) quiet_none in
      let no_more : entries_in did.entries ≡ 0 = ap entries_in none in
      let no_bytes : bytes_in did.entries ≡ 0 = ap bytes_in none in
      on_again site s (Call 0 body) did choices (choices + 1) [] [] way quiet refl (omega (arith, no_more)) (omega (arith, no_bytes))
      (subst (λ (ps : List (List ℕ)). Holds frames ps []) (sym (append-nil (s.pieces 0))) way.frame)
      (subst (λ (ps : List (List ℕ)). Holds lines ps []) (sym (append-nil (s.pieces 1))) way.line)

  look_up_finishes : (s : State) → IsOnTheWay site s choices [] → Finishes (site_environment site) s ((Call 0 look_up ∷ []) ++ more)
  look_up_finishes s way =
      goes (site_environment site) s (Call 0 look_up) more (call_can s look_up) (λ did does. rest (after s (Call 0 look_up) did) (left_on s look_up did way (looks_up site s did does)))

  -- ---- commands

  module _ (v : ℕ) (low : v ≤ 10) (s : State) (way : IsOnTheWay site s choices []) where
    size_is : length (built site.definitions (order_request v)).bytes ≡ 3
    size_is = three_bytes site demo.command v (omega (arith, low))

    may : MaySend site s v
    may = record {
      connected = way.first;
      room = two (nat_le (entries_in s.history + 1) 4000000) (nat_le (bytes_in s.history + length (built site.definitions (order_request v)).bytes) 1073741824)
          (le-leb (entries_in s.history + 1) 4000000 (omega (arith, way.entries, few))) (le-leb (bytes_in s.history + length (built site.definitions (order_request v)).bytes) 1073741824 (omega (arith, way.bytes, few, size_is)));
    }
      where
        two : (a b : Bool) → a ≡ true → b ≡ true → (a && b) ≡ true
        two a b x y = rw (x, y) refl

    module _ (did : Did) (does : Does (site_environment site) s (Call 0 (order v)) did) where
      abbrev later : State
      later = after s (Call 0 (order v)) did

      sent_is : did.entries ≡ command_entry site s 0 0 (order_request v) ∷ []
      sent_is = orders_are_sent site demo.command s v did low may does

      sent_on : IsOnTheWay site later (choices + 1) []
      sent_on =
          let quiet : IsQuiet did.entries = subst IsQuiet (sym sent_is) (quiet_command 24 s.time 0 (built site.definitions (order_request v)).command (built site.definitions (order_request v)).bytes) in
          let count : entries_in did.entries ≡ 1 = ap entries_in sent_is in
          let size : bytes_in did.entries ≡ length (built site.definitions (order_request v)).bytes = ap bytes_in sent_is ∙ command_bytes 24 s.time 0 (built site.definitions (order_request v)).command (built site.definitions (order_request v)).bytes in
          on_again site s (Call 0 (order v)) did choices (choices + 1) [] [] way quiet refl (omega (arith, count)) (omega (arith, size, size_is))
          (subst (λ (ps : List (List ℕ)). Holds frames ps []) (sym (append-nil (s.pieces 0))) way.frame)
          (subst (λ (ps : List (List ℕ)). Holds lines ps []) (sym (append-nil (s.pieces 1))) way.line)

      write_can : Can (site_environment site) later (Write 0 1)
      write_can = record { enabled = writes_are_enabled site demo.command s v did low may way.passed does; room = λ takes entries appends. absurd (cc takes) }

    order_finishes : Finishes (site_environment site) s ((Call 0 (order v) ∷ Write 0 1 ∷ []) ++ more)
    order_finishes =
        goes (site_environment site) s (Call 0 (order v)) (Write 0 1 ∷ more) (call_can s (order v)) (λ did does.
        goes (site_environment site) (later did does) (Write 0 1) more (write_can did does) (λ did' does'.
        rest (after (later did does) (Write 0 1) did') (written site (later did does) did' (choices + 1) (sent_on did does) does')))

  refused_finishes : (s : State) → IsOnTheWay site s choices [] → Finishes (site_environment site) s ((Call 0 (order 11) ∷ []) ++ more)
  refused_finishes s way =
      goes (site_environment site) s (Call 0 (order 11)) more (call_can s (order 11)) (λ did does.
      rest (after s (Call 0 (order 11)) did) (left_on s (order 11) did way (refused_order_leaves_nothing site demo.command s did does)))

  orders_finish : (v : ℕ) (fits : Bool) → nat_le v 10 ≡ fits → v ≤ 11 → (s : State) → IsOnTheWay site s choices [] → Finishes (site_environment site) s ((Call 0 (order v) ∷ (if fits then Write 0 1 ∷ [] else [])) ++ more)
  orders_finish v true e most s way = order_finishes v (enough_of v 10 e) s way
  orders_finish v false e most s way =
      let last : v ≡ 11 = grind (arith, nat_tests, e, most) in
      subst (λ (k : ℕ). Finishes (site_environment site) s ((Call 0 (order k) ∷ []) ++ more)) (sym last) (refused_finishes s way)

  -- ---- a connection that ends and opens again

  module _ (s : State) (way : IsOnTheWay site s choices []) where
    finish_can : Can (site_environment site) s (Finish 0 PeerEnded)
    finish_can = record { enabled = all_three (is_line (site_environment site) 0) (is_connected 0 s.history) true (line_0 site demo) way.first refl; room = λ takes entries appends. absurd (cc takes) }

    module _ (cuts : List Pieces) where
      abbrev closed : Entry
      closed = closed_entry s.time 0 PeerEnded (unsent (site_environment site) s 0) cuts

      -- after it is closed
      abbrev shut : State
      shut = after s (Finish 0 PeerEnded) (record { entries = closed ∷ []; effect = Posted })

      abbrev opened : Entry
      opened = record { by = 0; time = s.time; what = Opened }

      -- after it is opened again
      abbrev again : State
      again = after shut (Opens 0) (record { entries = opened ∷ []; effect = Posted })

      apart : is_connected 0 shut.history ≡ false
      apart = connected-append 0 s.history (closed ∷ [])

      shut_runs : is_stopped shut.history ≡ false
      shut_runs = stopped-append s.history (closed ∷ []) ∙ ap (λ (b : Bool). b || false) way.running

      shut_entries : entries_in shut.history ≡ entries_in s.history
      shut_entries = entries-append s.history (closed ∷ []) ∙ omega arith

      shut_bytes : bytes_in shut.history ≡ bytes_in s.history
      shut_bytes = bytes-append s.history (closed ∷ []) ∙ omega arith

      open_can : Can (site_environment site) shut (Opens 0)
      open_can = record {
        enabled = all_three (is_line (site_environment site) 0) (not (is_connected 0 shut.history)) (not (is_stopped shut.history)) (line_0 site demo) (ap not apart) (ap not shut_runs);
        room = λ takes entries appends.
            subst (λ (l : List Entry). has_room (site_environment site) shut l ≡ true) (sym appends) (room_for site shut (opened ∷ []) (omega (arith, way.entries, few, shut_entries)) (omega (arith, way.bytes, few, shut_bytes)));
      }

      again_on : IsOnTheWay site again (choices + 1) []
      again_on = record {
        first = connected-append 0 shut.history (opened ∷ []);
        second = connected_kept 1 shut.history (opened ∷ []) refl ∙ (connected_kept 1 s.history (closed ∷ []) refl ∙ way.second);
        running = stopped-append shut.history (opened ∷ []) ∙ ap (λ (b : Bool). b || false) shut_runs;
        frame = nothing_held frames;
        line = subst (λ (ps : List (List ℕ)). Holds lines ps []) (sym (append-nil (s.pieces 1 ++ []) ∙ append-nil (s.pieces 1))) way.line;
        passed = omega arith;
        entries = omega (arith, way.entries, shut_entries, entries-append shut.history (opened ∷ []));
        bytes = omega (arith, way.bytes, shut_bytes, bytes-append shut.history (opened ∷ []));
      }

    again_finishes : Finishes (site_environment site) s ((Finish 0 PeerEnded ∷ Opens 0 ∷ []) ++ more)
    again_finishes =
        goes (site_environment site) s (Finish 0 PeerEnded) (Opens 0 ∷ more) finish_can (λ did does.
        let closes : Closes (site_environment site) s 0 PeerEnded did.entries = does.appends in
        with_entries (site_environment site) s (Finish 0 PeerEnded) did (closed closes.cuts ∷ []) (Opens 0 ∷ more) closes.entries_are (
        goes (site_environment site) (shut closes.cuts) (Opens 0) more (open_can closes.cuts) (λ did' does'.
        with_entries (site_environment site) (shut closes.cuts) (Opens 0) did' (opened closes.cuts ∷ []) more does'.appends (rest (again closes.cuts) (again_on closes.cuts)))))

  -- ---- any choice

  pick : (r : ℕ) (s : State) → IsOnTheWay site s choices [] → (a b c d : Bool) → nat_lt (r % 8) 4 ≡ a → (r % 8 == 4) ≡ b → (r % 8 == 5) ≡ c → (r % 8 == 6) ≡ d → Finishes (site_environment site) s (events_of r ++ more)
  pick r s way true b c d ea eb ec ed = rw ea (frame_finishes r s way)
  pick r s way false true c d ea eb ec ed = rw (ea, eb) (line_finishes r s way)
  pick r s way false false true d ea eb ec ed = rw (ea, eb, ec) (look_up_finishes s way)
  pick r s way false false false true ea eb ec ed = rw (ea, eb, ec, ed) (orders_finish (duration r) (nat_le (duration r) 10) refl (omega arith) s way)
  pick r s way false false false false ea eb ec ed = rw (ea, eb, ec, ed) (again_finishes s way)

  pub choice_finishes : (r : ℕ) (s : State) → IsOnTheWay site s choices [] → Finishes (site_environment site) s (events_of r ++ more)
  choice_finishes r s way = pick r s way (nat_lt (r % 8) 4) (r % 8 == 4) (r % 8 == 5) (r % 8 == 6) refl refl refl refl
