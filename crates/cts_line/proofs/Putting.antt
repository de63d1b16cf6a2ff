-- Puts of what the last look saw.
use Rattle.std.proofs.Common.{◌≡◌, ℕ, ◌+◌, false, cond, List, [], ◌∷◌, ◌++◌, length, map, refl, sym, ◌∙◌, ap, subst, arith, append-nil, Option, Some, None, option_map, inr}
use Rattle.std.specs.Prelude.{take, drop}
use Rattle.std.proofs.lemmas.List.{take-append-drop, length-map}
use Rattle.std.proofs.lemmas.List.Sums.{sum_by-cons}
use Rattle.cts_entry.specs.declared.entry.Entry.{Entry}
use Rattle.cts_entry.specs.declared.why.Why.TheVariants.{WriteFault}
use Rattle.cts_entry.specs.Queues.{spelled, refused, is_refused, bytes_or_none}
use Rattle.cts_entry.proofs.Queuing.{spelled-append, refused-append}
use Rattle.cts_outside.specs.Lines.{Connection, Line, at_now, with_put, with_failed_put}
use Rattle.cts_chain.specs.Chains.{StagesStand}
use Rattle.cts_framing.specs.Framing.{Output, plain}
use Rattle.cts_proto.specs.Meaning.{Meaning}
use Rattle.cts_entry.specs.Room.{Capacity}
use Rattle.cts_trace.specs.Connections.{NoneLate}
use Rattle.cts_trace.specs.Lines.{Flags}
use Rattle.cts_trace.specs.Routing.{Routing, spell}
use Rattle.cts_line.specs.Rows.{InRows}
use Rattle.cts_line.specs.Talks.{Caught, Ends, Puts, Talking}
use Rattle.cts_line.proofs.Bodies.{done_body}

map_cons : {A B : Type 0} (f : A → B) (xs : List A) (y : B) (ys : List B) → map f xs ≡ y ∷ ys → (x : A) × (rest : List A) × (xs ≡ x ∷ rest) × (f x ≡ y) × (map f rest ≡ ys)
map_cons f [] y ys e = absurd (cc e)
map_cons f (x ∷ rest) y ys e =
    let head : f x ≡ y = cc in
    let tail : map f rest ≡ ys = cc in
    (x, rest, refl, head, tail)

refused_more : (spelling : Entry → Option (List ℕ)) (done : List Entry) (e : Entry) → refused spelling (done ++ e ∷ []) ≡ refused spelling done + cond (is_refused (spelling e)) 1 0
refused_more spelling done e =
    let a = refused-append spelling done (e ∷ []) in
    let b = sum_by-cons (λ (x : Entry). cond (is_refused (spelling x)) 1 0) e [] in
    omega (arith, a, b)

spelled_more : (spelling : Entry → Option (List ℕ)) (done : List Entry) (e : Entry) → spelled spelling (done ++ e ∷ []) ≡ spelled spelling done ++ bytes_or_none (spelling e)
spelled_more spelling done e = spelled-append spelling done (e ∷ []) ∙ ap (λ (l : List ℕ). spelled spelling done ++ l) (append-nil (bytes_or_none (spelling e)))

abbrev one_if_refused : Option (List ℕ) → ℕ
one_if_refused o = cond (is_refused o) 1 0

module _ (g : Routing) (room : Capacity) (m place : ℕ) (stages : List Meaning) (found : List ℕ) (history : List Entry) (s : Option (List ℕ)) (ss : List (Option (List ℕ))) where
  -- one less to put
  puts_next : (unsent unsent' : ℕ) (line : Line) (f : Connection → Connection) (t : Talking g room m (Puts (s ∷ ss)) stages place unsent found history line)
      → Flags (f t.connection) false false false → (f t.connection).pieces ≡ t.connection.pieces → (f t.connection).takes ≡ t.connection.takes → (f t.connection).put ≡ t.connection.put ++ bytes_or_none s
      → unsent' ≡ unsent + cond (is_refused s) 1 0 → Talking g room m (Puts ss) stages place unsent' found history (at_now f line)
  puts_next unsent unsent' line f t tells pieces takes put more =
      let b = t.body in
      let r = map_cons (spell g m) b.rest s ss t.put_so.0 in
      let u = t.unsent_is in
      let one = refused_more (spell g m) b.done r.0 ∙ ap (λ (o : Option (List ℕ)). refused (spell g m) b.done + cond (is_refused o) 1 0) r.3 in
      let l = t.looked_so.0 in
      record {
        connection = f t.connection;
        stands = ap (option_map f) t.stands;
        body = done_body g m history b r.0 r.1 r.2;
        fed = subst (λ (p : List (List ℕ)). Stood p b.posted) (sym pieces) t.fed;
        rows = subst (λ (p : List (List ℕ)). InRows g m p b.posted (b.before ++ b.opened ∷ []) (b.looked ++ b.ahead)) (sym pieces) t.rows;
        settled = t.settled;
        sound = t.sound;
        past = t.past;
        place_is = t.place_is;
        holds = t.holds;
        soon_so = t.soon_so;
        among = t.among;
        late = subst (NoneLate (g.chain m)) (sym pieces) t.late;
        tells_so = tells;
        saw_so = tt;
        quiet_so = t.quiet_so;
        put_so = (r.4, put ∙ (ap (λ (x : List ℕ). x ++ bytes_or_none s) t.put_so.1 ∙ (ap (λ (o : Option (List ℕ)). spelled (spell g m) b.done ++ bytes_or_none o) (sym r.3) ∙ sym (spelled_more (spell g m) b.done r.0))));
        unsent_is = omega (arith, u, one, more);
        looked_so = (omega (arith, l, takes), t.looked_so.1);
      }
    where
      Stood : List (List ℕ) → List Output → Type 0
      Stood pieces posted = StagesStand stages (map plain pieces) posted

  pub puts_whole : (unsent unsent' : ℕ) (bytes : List ℕ) (line : Line) → s ≡ Some bytes → unsent' ≡ unsent → Talking g room m (Puts (s ∷ ss)) stages place unsent found history line → Talking g room m (Puts ss) stages place unsent' found history (at_now (with_put bytes) line)
  puts_whole unsent unsent' bytes line is same t =
      let none = ap (one_if_refused) is in
      puts_next unsent unsent' line (with_put bytes) t t.tells_so refl refl (ap (λ (o : Option (List ℕ)). t.connection.put ++ bytes_or_none o) (sym is)) (omega (arith, same, none))

  same_line : (line : Line) (connection : Connection) → line.now ≡ Some connection → at_now (λ x. x) line ≡ line
  same_line line connection e = ap (λ (o : Option Connection). record line { now = o }) (ap (option_map (λ x. x)) e ∙ sym e)

  pub puts_refused : (unsent unsent' : ℕ) (line : Line) → s ≡ None → unsent' ≡ unsent + 1
      → Talking g room m (Puts (s ∷ ss)) stages place unsent found history line → Talking g room m (Puts ss) stages place unsent' found history line
  puts_refused unsent unsent' line is more t =
      let one = ap (one_if_refused) is in
      subst (λ (l : Line). Talking g room m (Puts ss) stages place unsent' found history l) (same_line line t.connection t.stands)
      (puts_next unsent unsent' line (λ x. x) t t.tells_so refl refl (sym (append-nil t.connection.put) ∙ ap (λ (o : Option (List ℕ)). t.connection.put ++ bytes_or_none o) (sym is)) (omega (arith, more, one)))

  pub puts_fault : (unsent unsent' n : ℕ) (bytes : List ℕ) (line : Line) → s ≡ Some bytes → unsent' ≡ unsent + length (s ∷ ss)
      → Talking g room m (Puts (s ∷ ss)) stages place unsent found history line → Talking g room m (Ends WriteFault) stages place unsent' found history (at_now (with_failed_put (take n bytes)) line)
  puts_fault unsent unsent' n bytes line is more t =
      let b = t.body in
      let r = map_cons (spell g m) b.rest s ss t.put_so.0 in
      let u = t.unsent_is in
      let all : length b.rest ≡ length (s ∷ ss) = sym (length-map b.rest (spell g m)) ∙ ap length t.put_so.0 in
      let l = t.looked_so.0 in
      record {
        connection = with_failed_put (take n bytes) t.connection;
        stands = ap (option_map (with_failed_put (take n bytes))) t.stands;
        body = b;
        fed = t.fed;
        rows = t.rows;
        settled = t.settled;
        sound = t.sound;
        past = t.past;
        place_is = t.place_is;
        holds = t.holds;
        soon_so = t.soon_so;
        among = t.among;
        late = t.late;
        tells_so = (t.tells_so.0, t.tells_so.1, refl);
        saw_so = refl;
        quiet_so = tt;
        put_so = (
          (
            take n bytes,
            ap (λ (x : List ℕ). x ++ take n bytes) t.put_so.1,
            inr (refl, (r.0, r.1, drop n bytes, r.2, r.3 ∙ (is ∙ ap Some (sym (take-append-drop n bytes))))),
          ),
          tt,
        );
        unsent_is = omega (arith, u, all, more);
        looked_so = (omega (arith, l), tt);
      }

module _ (g : Routing) (room : Capacity) (m place unsent : ℕ) (stages : List Meaning) (found : List ℕ) (history : List Entry) (line : Line) where
  -- all is put
  pub puts_done : Talking g room m (Puts []) stages place unsent found history line → Talking g room m Caught stages place unsent found history line
  puts_done t =
      let none = none_mapped (spell g m) t.body.rest t.put_so.0 in
      let u = t.unsent_is in
      let z = ap length none in
      record {
        connection = t.connection;
        stands = t.stands;
        body = t.body;
        fed = t.fed;
        rows = t.rows;
        settled = t.settled;
        sound = t.sound;
        past = t.past;
        place_is = t.place_is;
        holds = t.holds;
        soon_so = t.soon_so;
        among = t.among;
        late = t.late;
        tells_so = t.tells_so;
        saw_so = tt;
        quiet_so = t.quiet_so;
        put_so = (none, t.put_so.1);
        unsent_is = omega (arith, u, z);
        looked_so = t.looked_so;
      }
    where
      none_mapped : {A B : Type 0} (f : A → B) (xs : List A) → map f xs ≡ [] → xs ≡ []
      none_mapped f [] e = refl
      none_mapped f (x ∷ xs) e = absurd (cc e)
