-- Connections one after another.
use Rattle.std.proofs.Common.{◌≡◌, Bool, true, false, List, [], ◌∷◌, ◌++◌, sym, refl, ap, ◌∙◌, subst, append-nil, append_assoc, Option, Some, None}
use Rattle.std.specs.Prelude.{option_to_list}
use Rattle.cts_outside.specs.Lines.{Connection, Line, told_after, hung_up, after_dial}
use Rattle.cts_outside.specs.declared.link.Dialed.TheVariants.{Linked, Later, Finished, Failed}
use Rattle.cts_http.specs.Readings.{Reading}
use Rattle.cts_desk.specs.Exchanges.{Exchange, fronts_of}
use Rattle.cts_desk.specs.Streams.{Cut, PeerEnded, ReadFault, WriteFault, LastAsked, Refused, NoMemory, Stopped, Served, last_front}
use Rattle.cts_trace.specs.Told.{HasFinished}
use Rattle.cts_desk.specs.Told.{Serves, MayEnd, Settled, past_of, IsIdle}
use Rattle.cts_desk.specs.Serving.{StageSo, TalkingBy, Talks, is_stop_cut, halts_or, Dials}

-- a cut of an earlier connection may stand before more of them
may_end : (stop : Bool) (cut : Cut) (later more : List Connection) → MayEnd false cut later → MayEnd stop cut more
may_end stop PeerEnded later more m = tt
may_end stop ReadFault later more m = tt
may_end stop WriteFault later more m = tt
may_end stop LastAsked later more m = tt
may_end stop (Refused status) later more m = tt
may_end stop NoMemory later more m = tt
may_end stop Stopped later more m = absurd (let e : false ≡ true = m.0 in cc)

may_end_last : (stop : Bool) (cut : Cut) → (is_stop_cut cut ≡ true → stop ≡ true) → MayEnd stop cut []
may_end_last stop PeerEnded m = tt
may_end_last stop ReadFault m = tt
may_end_last stop WriteFault m = tt
may_end_last stop LastAsked m = tt
may_end_last stop (Refused status) m = tt
may_end_last stop NoMemory m = tt
may_end_last stop Stopped m = (m refl, refl)

-- one more connection
pub serves_snoc : (stop : Bool) (earlier : List Exchange) (cs : List Connection) (xs ys : List Exchange) (c : Connection) (cut : Cut)
    → Serves false earlier cs xs → Served cut (last_front (fronts_of (earlier ++ (xs ++ ys)))) c ys → (is_stop_cut cut ≡ true → stop ≡ true) → Serves stop earlier (cs ++ c ∷ []) (xs ++ ys)
serves_snoc stop earlier [] xs ys c cut s one may = (
  ys,
  [],
  cut,
  ap (λ l. l ++ ys) s ∙ sym (append-nil ys),
  subst (λ l. Served cut (last_front (fronts_of (earlier ++ (l ++ ys)))) c ys) s one,
  may_end_last stop cut may,
  refl,
)
serves_snoc stop earlier (d ∷ cs) xs ys c cut s one may = (
  s.0,
  s.1 ++ ys,
  s.2,
  ap (λ l. l ++ ys) s.3 ∙ append_assoc s.0 s.1 ys,
  s.4,
  may_end stop s.2 cs (cs ++ c ∷ []) s.5,
  serves_snoc stop (earlier ++ s.0) cs s.1 ys c cut s.6
      (subst (λ l. Served cut (last_front (fronts_of l)) c ys) (ap (λ l. earlier ++ (l ++ ys)) s.3 ∙ ap (λ l. earlier ++ l) (append_assoc s.0 s.1 ys) ∙ sym (append_assoc earlier s.0 (s.1 ++ ys))) one) may,
)

serves_any : (stop : Bool) (earlier : List Exchange) (cs : List Connection) (xs : List Exchange) → Serves false earlier cs xs → Serves stop earlier cs xs
serves_any stop earlier [] xs s = s
serves_any stop earlier (c ∷ cs) xs s = (s.0, s.1, s.2, s.3, s.4, may_end stop s.2 cs cs s.5, serves_any stop (earlier ++ s.0) cs s.1 s.6)

-- a Stop that stands allows a connection that is cut for one
pub settled_at : (stop now : Bool) (was : List Connection) (xs : List Exchange) (told : Option Line) → (stop ≡ true → now ≡ true) → Settled stop was xs told → Settled now was xs told
settled_at stop now was xs None e s = tt
settled_at true now was xs (Some line) e s = subst (λ b. Settled b was xs (Some line)) (sym (e refl)) s
settled_at false now was xs (Some line) e s = (s.0, s.1, s.2, serves_any now [] s.1 xs s.3)

-- a line that was hung up has no connection
pub idle_hung : (told : Option Line) → IsIdle (told_after hung_up told)
idle_hung None = tt
idle_hung (Some line) = refl

-- at first nothing was served
pub settled_first : (told : Option Line) → IsIdle told → Settled false (past_of told) [] told
settled_first None i = tt
settled_first (Some line) i = (i, [], sym (append-nil line.past), refl)

-- ---- dials

pub dials_linked : (was : List Connection) (xs : List Exchange) (old new : Option Line) → new ≡ told_after (after_dial Linked) old → Settled false was xs old → Dials was xs new
dials_linked was xs None new e s = subst (Dials was xs) (sym e) tt
dials_linked was xs (Some line) new e s = subst (Dials was xs) (sym e) (refl, s.1, s.2, s.3)

pub dials_later : (was : List Connection) (xs : List Exchange) (old new : Option Line) → new ≡ told_after (after_dial Later) old → Settled false was xs old → Settled false was xs new
dials_later was xs None new e s = subst (Settled false was xs) (sym e) tt
dials_later was xs (Some line) new e s = subst (Settled false was xs) (sym e) s

pub dials_failed : (was : List Connection) (xs : List Exchange) (old new : Option Line) → new ≡ told_after (after_dial Failed) old → Settled false was xs old → Settled false was xs new
dials_failed was xs None new e s = subst (Settled false was xs) (sym e) tt
dials_failed was xs (Some line) new e s = subst (Settled false was xs) (sym e) s

pub dials_finished : (was : List Connection) (xs : List Exchange) (old new : Option Line) → new ≡ told_after (after_dial Finished) old → Settled false was xs old → Settled false was xs new
dials_finished was xs None new e s = subst (Settled false was xs) (sym e) tt
dials_finished was xs (Some line) new e s = subst (Settled false was xs) (sym e) s

pub has_finished : (old new : Option Line) → new ≡ told_after (after_dial Finished) old → HasFinished new
has_finished None new e = subst HasFinished (sym e) tt
has_finished (Some line) new e = subst HasFinished (sym e) refl

-- ---- hanging up

is_over : (stop : Bool) (r : Reading) (earlier mine : List Exchange) (c : Connection) → StageSo (halts_or stop) r earlier mine c
    → (cut : Cut) × (is_stop_cut cut ≡ true → stop ≡ true) × Served cut (last_front (fronts_of (earlier ++ mine))) c mine
is_over true r earlier mine c so = (Stopped, (λ e. refl), so)
is_over false r earlier mine c so = (so.0, (λ e. absurd (let f : false ≡ true = sym so.1 ∙ e in cc)), so.2)

hangs_line : (was : List Connection) (stop : Bool) (r : Reading) (earlier mine : List Exchange) (line : Line) → TalkingBy was earlier (StageSo (halts_or stop) r earlier mine) line → Settled stop was (earlier ++ mine) (Some (hung_up line))
hangs_line was stop r earlier mine line t =
    let over = is_over stop r earlier mine t.connection t.so in (
      refl,
      t.gone ++ t.connection ∷ [],
      ap (λ o. line.past ++ option_to_list o) t.stands ∙ ap (λ l. l ++ t.connection ∷ []) t.past ∙ append_assoc was t.gone (t.connection ∷ []),
      serves_snoc stop [] t.gone earlier mine t.connection over.0 t.serves over.2 over.1,
    )

pub hangs_up : (was : List Connection) (stop : Bool) (r : Reading) (earlier mine : List Exchange) (old new : Option Line)
    → new ≡ told_after hung_up old → Talks was (halts_or stop) r earlier mine old → Settled stop was (earlier ++ mine) new
hangs_up was stop r earlier mine None new e t = subst (Settled stop was (earlier ++ mine)) (sym e) tt
hangs_up was stop r earlier mine (Some line) new e t = subst (Settled stop was (earlier ++ mine)) (sym e) (hangs_line was stop r earlier mine line t)
