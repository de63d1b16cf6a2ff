-- Which trouble is told.
use Rattle.std.proofs.Common.{◌≡◌, ◌<◌, Bool, true, false, not, ◌||◌, cond, List, [], ◌∷◌, Option, Some, None, find, refl, subst, arith}
use Rattle.std.specs.List.{AllByRecursion, list_any}
use Rattle.cts_desk.specs.declared.ending.DeskWhy.{DeskWhy}
use Rattle.cts_desk.specs.declared.ending.DeskWhy.TheVariants as desk
use Rattle.cts_line.specs.declared.ending.LineWhy.{LineWhy}
use Rattle.cts_line.specs.declared.ending.LineWhy.TheVariants as line
use Rattle.cts_scribe.specs.declared.ending.ScribeWhy.{ScribeWhy}
use Rattle.cts_scribe.specs.declared.ending.ScribeWhy.TheVariants as scribe
use Rattle.cts_server.specs.declared.worked.DeskNote.{DeskNote}
use Rattle.cts_server.specs.TroubleLaws.{PlainWhereNoneIsTold, TellsTheFirst, is_plain_desk, is_plain_line, number}
use Rattle.cts_server.specs.Troubles.{Left, desk_shows, has_closed, has_desk, line_shows, order, scribe_shows, shows}
use Rattle.cts_server.specs.declared.outcome.trouble.Trouble.{Trouble}
use Rattle.cts_server.specs.declared.outcome.trouble.Trouble.TheVariants.{Memory, WriteFault, HistoryFull, LogFault, NoWorker, DoorFault}

-- ---- the first that passes a test

module _ {X : Type 0} (test : X → Bool) where
  cons_shown : (y : X) (ys : List X) (x : X) (b : Bool) → test y ≡ b → (find test ys ≡ Some x → test x ≡ true) → cond b (Some y) (find test ys)
      ≡ Some x → test x ≡ true
  cons_shown y ys x true h more e = subst (λ (z : X). test z ≡ true) (cc e) h
  cons_shown y ys x false h more e = more e

  found_shown : (xs : List X) (x : X) → find test xs ≡ Some x → test x ≡ true
  found_shown [] x e = absurd (cc e)
  found_shown (y ∷ ys) x e = cons_shown y ys x (test y) refl (found_shown ys x) e

  cons_none : (y : X) (ys : List X) (b : Bool) → test y ≡ b → cond b (Some y) (find test ys) ≡ None → (test y ≡ false) × (find test ys ≡ None)
  cons_none y ys true h e = absurd (cc e)
  cons_none y ys false h e = (h, e)

  none_shown : (y : X) (ys : List X) → find test (y ∷ ys) ≡ None → (test y ≡ false) × (find test ys ≡ None)
  none_shown y ys e = cons_none y ys (test y) refl e

  skip : (y : X) (rest : Option X) (x : X) (b : Bool) → test y ≡ b → (y ≡ x → ⊥) → cond b (Some y) rest ≡ Some x → (test y ≡ false) × (rest ≡ Some x)
  skip y rest x true h other e = absurd (other (cc e))
  skip y rest x false h other e = (h, e)

-- ---- the troubles before the one that is told

module _ (test : Trouble → Bool) where
  before_1 : find test order ≡ Some WriteFault → (test Memory ≡ false)
  before_1 e =
      let a0 = skip test Memory (find test (WriteFault ∷ HistoryFull ∷ LogFault ∷ NoWorker ∷ DoorFault ∷ [])) WriteFault (test Memory) refl
      (λ k. absurd (cc k)) e in
      a0.0

  before_2 : find test order ≡ Some HistoryFull → (test Memory ≡ false) × (test WriteFault ≡ false)
  before_2 e =
      let a0 = skip test Memory (find test (WriteFault ∷ HistoryFull ∷ LogFault ∷ NoWorker ∷ DoorFault ∷ [])) HistoryFull (test Memory) refl
      (λ k. absurd (cc k)) e in
      let a1 = skip test WriteFault (find test (HistoryFull ∷ LogFault ∷ NoWorker ∷ DoorFault ∷ [])) HistoryFull (test WriteFault) refl
      (λ k. absurd (cc k)) a0.1 in
      (a0.0, a1.0)

  before_3 : find test order ≡ Some LogFault → (test Memory ≡ false) × (test WriteFault ≡ false) × (test HistoryFull ≡ false)
  before_3 e =
      let a0 = skip test Memory (find test (WriteFault ∷ HistoryFull ∷ LogFault ∷ NoWorker ∷ DoorFault ∷ [])) LogFault (test Memory) refl
      (λ k. absurd (cc k)) e in
      let a1 = skip test WriteFault (find test (HistoryFull ∷ LogFault ∷ NoWorker ∷ DoorFault ∷ [])) LogFault (test WriteFault) refl
      (λ k. absurd (cc k)) a0.1 in
      let a2 = skip test HistoryFull (find test (LogFault ∷ NoWorker ∷ DoorFault ∷ [])) LogFault (test HistoryFull) refl (λ k. absurd (cc k)) a1.1 in
      (a0.0, a1.0, a2.0)

  before_4 : find test order ≡ Some NoWorker → (test Memory ≡ false) × (test WriteFault ≡ false) × (test HistoryFull ≡ false) × (test LogFault ≡ false)
  before_4 e =
      let a0 = skip test Memory (find test (WriteFault ∷ HistoryFull ∷ LogFault ∷ NoWorker ∷ DoorFault ∷ [])) NoWorker (test Memory) refl
      (λ k. absurd (cc k)) e in
      let a1 = skip test WriteFault (find test (HistoryFull ∷ LogFault ∷ NoWorker ∷ DoorFault ∷ [])) NoWorker (test WriteFault) refl
      (λ k. absurd (cc k)) a0.1 in
      let a2 = skip test HistoryFull (find test (LogFault ∷ NoWorker ∷ DoorFault ∷ [])) NoWorker (test HistoryFull) refl (λ k. absurd (cc k)) a1.1 in
      let a3 = skip test LogFault (find test (NoWorker ∷ DoorFault ∷ [])) NoWorker (test LogFault) refl (λ k. absurd (cc k)) a2.1 in
      (a0.0, a1.0, a2.0, a3.0)

  before_5 : find test order ≡ Some DoorFault → (test Memory ≡ false) × (test WriteFault ≡ false) × (test HistoryFull ≡ false)
      × (test LogFault ≡ false) × (test NoWorker ≡ false)
  before_5 e =
      let a0 = skip test Memory (find test (WriteFault ∷ HistoryFull ∷ LogFault ∷ NoWorker ∷ DoorFault ∷ [])) DoorFault (test Memory) refl
      (λ k. absurd (cc k)) e in
      let a1 = skip test WriteFault (find test (HistoryFull ∷ LogFault ∷ NoWorker ∷ DoorFault ∷ [])) DoorFault (test WriteFault) refl
      (λ k. absurd (cc k)) a0.1 in
      let a2 = skip test HistoryFull (find test (LogFault ∷ NoWorker ∷ DoorFault ∷ [])) DoorFault (test HistoryFull) refl (λ k. absurd (cc k)) a1.1 in
      let a3 = skip test LogFault (find test (NoWorker ∷ DoorFault ∷ [])) DoorFault (test LogFault) refl (λ k. absurd (cc k)) a2.1 in
      let a4 = skip test NoWorker (find test (DoorFault ∷ [])) DoorFault (test NoWorker) refl (λ k. absurd (cc k)) a3.1 in
      (a0.0, a1.0, a2.0, a3.0, a4.0)

  lesser : (told t : Trouble) → find test order ≡ Some told → number t < number told → test t ≡ false
  lesser Memory Memory e l = absurd (omega (arith, l))
  lesser Memory WriteFault e l = absurd (omega (arith, l))
  lesser Memory HistoryFull e l = absurd (omega (arith, l))
  lesser Memory LogFault e l = absurd (omega (arith, l))
  lesser Memory NoWorker e l = absurd (omega (arith, l))
  lesser Memory DoorFault e l = absurd (omega (arith, l))
  lesser WriteFault Memory e l = before_1 e
  lesser WriteFault WriteFault e l = absurd (omega (arith, l))
  lesser WriteFault HistoryFull e l = absurd (omega (arith, l))
  lesser WriteFault LogFault e l = absurd (omega (arith, l))
  lesser WriteFault NoWorker e l = absurd (omega (arith, l))
  lesser WriteFault DoorFault e l = absurd (omega (arith, l))
  lesser HistoryFull Memory e l = (before_2 e).0
  lesser HistoryFull WriteFault e l = (before_2 e).1
  lesser HistoryFull HistoryFull e l = absurd (omega (arith, l))
  lesser HistoryFull LogFault e l = absurd (omega (arith, l))
  lesser HistoryFull NoWorker e l = absurd (omega (arith, l))
  lesser HistoryFull DoorFault e l = absurd (omega (arith, l))
  lesser LogFault Memory e l = (before_3 e).0
  lesser LogFault WriteFault e l = (before_3 e).1
  lesser LogFault HistoryFull e l = (before_3 e).2
  lesser LogFault LogFault e l = absurd (omega (arith, l))
  lesser LogFault NoWorker e l = absurd (omega (arith, l))
  lesser LogFault DoorFault e l = absurd (omega (arith, l))
  lesser NoWorker Memory e l = (before_4 e).0
  lesser NoWorker WriteFault e l = (before_4 e).1
  lesser NoWorker HistoryFull e l = (before_4 e).2
  lesser NoWorker LogFault e l = (before_4 e).3
  lesser NoWorker NoWorker e l = absurd (omega (arith, l))
  lesser NoWorker DoorFault e l = absurd (omega (arith, l))
  lesser DoorFault Memory e l = (before_5 e).0
  lesser DoorFault WriteFault e l = (before_5 e).1
  lesser DoorFault HistoryFull e l = (before_5 e).2
  lesser DoorFault LogFault e l = (before_5 e).3
  lesser DoorFault NoWorker e l = (before_5 e).4
  lesser DoorFault DoorFault e l = absurd (omega (arith, l))

pub tells_first : TellsTheFirst
tells_first l told e = (found_shown (shows l) order told e, λ t less. lesser (shows l) told t e less)

-- ---- where none is told

or_false : (a b : Bool) → (a || b) ≡ false → (a ≡ false) × (b ≡ false)
or_false true b e = absurd (cc e)
or_false false b e = (refl, e)

not_false : (b : Bool) → not b ≡ false → b ≡ true
not_false true e = refl
not_false false e = absurd (cc e)

plain_line : (why : LineWhy) → line_shows Memory why ≡ false → line_shows HistoryFull why ≡ false → line_shows NoWorker why ≡ false
    → line_shows DoorFault why ≡ false → is_plain_line why ≡ true
plain_line line.Stopped m h n d = refl
plain_line line.Finished m h n d = refl
plain_line line.NoReconnect m h n d = refl
plain_line line.DoorFailed m h n d = absurd (cc d)
plain_line line.Full m h n d = absurd (cc h)
plain_line line.NoMemory m h n d = absurd (cc m)
plain_line line.Cancelled m h n d = absurd (cc n)

plain_lines : (whys : List LineWhy) → list_any (line_shows Memory) whys ≡ false → list_any (line_shows HistoryFull) whys ≡ false
    → list_any (line_shows NoWorker) whys ≡ false → list_any (line_shows DoorFault) whys ≡ false
    → AllByRecursion (λ why. is_plain_line why ≡ true) whys
plain_lines [] m h n d = tt
plain_lines (w ∷ ws) m h n d =
    let a = or_false (line_shows Memory w) (list_any (line_shows Memory) ws) m in
    let b = or_false (line_shows HistoryFull w) (list_any (line_shows HistoryFull) ws) h in
    let c = or_false (line_shows NoWorker w) (list_any (line_shows NoWorker) ws) n in
    let f = or_false (line_shows DoorFault w) (list_any (line_shows DoorFault) ws) d in
    (plain_line w a.0 b.0 c.0 f.0, plain_lines ws a.1 b.1 c.1 f.1)

plain_desk : (why : DeskWhy) → desk_shows NoWorker why ≡ false → desk_shows DoorFault why ≡ false → is_plain_desk why ≡ true
plain_desk desk.Stopped n d = refl
plain_desk desk.Finished n d = refl
plain_desk desk.DoorFailed n d = absurd (cc d)
plain_desk desk.Cancelled n d = absurd (cc n)

plain_desks : (notes : List DeskNote) → has_desk NoWorker notes ≡ false → has_desk DoorFault notes ≡ false
    → AllByRecursion (λ (note : DeskNote). is_plain_desk note.why ≡ true) notes
plain_desks [] n d = tt
plain_desks (x ∷ xs) n d =
    let c = or_false (desk_shows NoWorker x.why) (has_desk NoWorker xs) n in
    let f = or_false (desk_shows DoorFault x.why) (has_desk DoorFault xs) d in
    (plain_desk x.why c.0 f.0, plain_desks xs c.1 f.1)

plain_scribe : (why : ScribeWhy) → scribe_shows Memory why ≡ false → scribe_shows LogFault why ≡ false → scribe_shows NoWorker why ≡ false
    → why ≡ scribe.Drained
plain_scribe scribe.Drained m f n = refl
plain_scribe scribe.VaultFailed m f n = absurd (cc f)
plain_scribe scribe.NoMemory m f n = absurd (cc m)
plain_scribe scribe.Cancelled m f n = absurd (cc n)

module _ (l : Left) (t : Trouble) where
  abbrev by_scribe : Bool
  by_scribe = scribe_shows t l.scribe || has_closed t l.history

  abbrev by_desks : Bool
  by_desks = has_desk t l.desks || by_scribe

  -- nothing of what was left shows it
  parts : (list_any (line_shows t) l.lines || by_desks) ≡ false → (list_any (line_shows t) l.lines ≡ false) × (has_desk t l.desks ≡ false)
      × (scribe_shows t l.scribe ≡ false) × (has_closed t l.history ≡ false)
  parts e =
      let a = or_false (list_any (line_shows t) l.lines) by_desks e in
      let b = or_false (has_desk t l.desks) by_scribe a.1 in
      let c = or_false (scribe_shows t l.scribe) (has_closed t l.history) b.1 in
      (a.0, b.0, c.0, c.1)

pub plain_where_none : PlainWhereNoneIsTold
plain_where_none l e =
    let a = none_shown (shows l) Memory (WriteFault ∷ HistoryFull ∷ LogFault ∷ NoWorker ∷ DoorFault ∷ []) e in
    let b = none_shown (shows l) WriteFault (HistoryFull ∷ LogFault ∷ NoWorker ∷ DoorFault ∷ []) a.1 in
    let c = none_shown (shows l) HistoryFull (LogFault ∷ NoWorker ∷ DoorFault ∷ []) b.1 in
    let d = none_shown (shows l) LogFault (NoWorker ∷ DoorFault ∷ []) c.1 in
    let f = none_shown (shows l) NoWorker (DoorFault ∷ []) d.1 in
    let g = none_shown (shows l) DoorFault [] f.1 in
    let memory = parts l Memory a.0 in
    let full = parts l HistoryFull c.0 in
    let log = parts l LogFault d.0 in
    let worker = parts l NoWorker f.0 in
    let door = parts l DoorFault g.0 in
    record {
      written = not_false l.written b.0;
      lines = plain_lines l.lines memory.0 full.0 worker.0 door.0;
      desks = plain_desks l.desks worker.1 door.1;
      scribe = plain_scribe l.scribe memory.2 log.2 worker.2;
      memory = memory.3;
      room = full.3;
    }
