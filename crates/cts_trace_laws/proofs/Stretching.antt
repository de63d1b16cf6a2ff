-- What was put of a queue is what goes to a peer out of a stretch of the history.
use Rattle.std.proofs.Common.{◌≡◌, ◌⊎◌, inl, inr, ℕ, suc, ◌+◌, ◌≤◌, ◌==◌, Bool, true, false, List, [], ◌∷◌, ◌++◌, length, take, refl, sym, ◌∙◌, ap, subst, arith, append_assoc, length-append, Option, Some, None}
use Rattle.std.specs.Prelude.{slice_range, if◌then◌else◌}
use Rattle.std.specs.List.{AllByRecursion, filter}
use Rattle.cts_entry.specs.declared.entry.Entry.{Entry}
use Rattle.cts_entry.specs.declared.why.Why.{Why}
use Rattle.cts_entry.specs.Histories.{commands_to, packets_from}
use Rattle.cts_entry.specs.Places.{Stays}
use Rattle.cts_entry.specs.Queues.{spelled}
use Rattle.cts_entry.specs.Room.{Capacity}
use Rattle.cts_outside.specs.Lines.{Connection, Line, fresh}
use Rattle.cts_trace.specs.Connections.{Tail}
use Rattle.cts_trace.specs.Lines.{Causes, Looked, Seen}
use Rattle.cts_trace.specs.Routing.{Routing, is_for, queue, spell}
use Rattle.cts_trace.specs.Told.{ToldBy, Unopened}
use Rattle.cts_trace_laws.specs.Stretches.{EndedLinesPutStretches, InterfacesAreSentCommands, LinesPutStretches, PutsStretch, PutsStretches, SlotsAreSentRouted}
use Rattle.cts_trace_laws.proofs.Slotted.{fronts, stretch}

tail_cause : (g : Routing) (room : Capacity) (m : ℕ) (why : Why) (rest : List Entry) (tail : List ℕ) (s : Seen) → Causes room why s → Tail (spell g m) why rest tail
    → (tail ≡ []) ⊎ ((s.connection.put_failed ≡ true) × ((next : Entry) × (more : List ℕ) × (spell g m next ≡ Some (tail ++ more))))
tail_cause g room m why rest tail s cause (inl none) = inl none
tail_cause g room m why rest tail s cause (inr t) = inr (subst (λ w. Causes room w s) t.0 cause, (t.1.0, t.1.2, t.1.4))

puts_stretch : (g : Routing) (room : Capacity) (m : ℕ) (found : List ℕ) (history before later : List Entry) (c : Connection) (entries : List Entry) → history ≡ before ++ (entries ++ later)
    → Looked g room m found before c entries → PutsStretch g m history before c entries
puts_stretch g room m found history before later c entries is l =
    let s = l.stay in
    let front = fronts (is_for g m) s.between s.done s.rest s.carries.queue_is in
    let part : slice_range history (length before + 1) (length before + 1 + front.0) ≡ take front.0 s.between =
    ap (λ h. slice_range h (length before + 1) (length before + 1 + front.0)) (is ∙ ap (λ x. before ++ (x ++ later)) s.entries_are) ∙ stretch before s.between (s.closed ∷ []) later s.opened front.0 front.1 in
    let long : length entries ≡ suc (length (s.between ++ s.closed ∷ [])) = ap length s.entries_are in
    record {
      count = front.0;
      tail = s.tail;
      within = (let w = front.1 in omega (arith, w, long, length-append s.between (s.closed ∷ [])));
      put_is = s.put ∙ ap (λ x. spelled (spell g m) x ++ s.tail) (sym front.2 ∙ ap (queue g m) (sym part));
      tail_is = tail_cause g room m s.why s.rest s.tail (record { connection = c; looked = before ++ s.opened ∷ l.looked; whole = before ++ s.opened ∷ s.between; left = s.left }) l.cause s.tail_is;
    }

stretches : (g : Routing) (room : Capacity) (m : ℕ) (found : List ℕ) (history before : List Entry) (past : List Connection) (entries : List Entry) → history ≡ before ++ entries
    → Stays m (Looked g room m found) before past entries → Stays m (PutsStretch g m history) before past entries
stretches g room m found history before [] entries is s = s
stretches g room m found history before (c ∷ cs) entries is s =
    let here : history ≡ (before ++ s.0) ++ (s.1 ++ s.2) = is ∙ ap (λ l. before ++ l) s.3 ∙ sym (append_assoc before s.0 (s.1 ++ s.2)) in
    let next : history ≡ (before ++ (s.0 ++ s.1)) ++ s.2 = is ∙ ap (λ l. before ++ l) (s.3 ∙ sym (append_assoc s.0 s.1 s.2)) ∙ sym (append_assoc before (s.0 ++ s.1) s.2) in
    (s.0, s.1, s.2, s.3, s.4, puts_stretch g room m found history (before ++ s.0) s.2 c s.1 here s.5, stretches g room m found history (before ++ (s.0 ++ s.1)) cs s.2 next s.6)

pub lines_put_stretches : LinesPutStretches
lines_put_stretches g room m found past history said = stretches g room m found history [] past history refl said

-- nothing was put on a connection without an entry
none_put : (history : List Entry) (cs : List Connection) → Unopened history cs → AllByRecursion (λ (c : Connection). c.put ≡ []) cs
none_put history [] u = tt
none_put history (c ∷ []) u = (ap (λ (d : Connection). d.put) u.0, tt)
none_put history (c ∷ d ∷ cs) u = absurd u

pub ended_lines_put_stretches : EndedLinesPutStretches
ended_lines_put_stretches g room m found history None t = tt
ended_lines_put_stretches g room m found history (Some line) t = (t.0, t.1, t.3, lines_put_stretches g room m found t.0 history t.4, none_put history t.1 t.5)

pub slots_are_sent_routed : SlotsAreSentRouted
slots_are_sent_routed g m history from end slot =
    ap (λ (b : Bool). spelled (spell g m) (filter (λ e. if b then commands_to (λ interface. interface == m) e else packets_from (g.routes m) e) (slice_range history from end))) slot

pub interfaces_are_sent_commands : InterfacesAreSentCommands
interfaces_are_sent_commands g m history from end interface =
    ap (λ (b : Bool). spelled (spell g m) (filter (λ e. if b then commands_to (λ interface. interface == m) e else packets_from (g.routes m) e) (slice_range history from end))) interface
