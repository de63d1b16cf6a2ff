use Rattle.std.proofs.Common.{◌≡◌, ap, subst, sym, arith, inl, inr}
use Rattle.cts_turn.specs.Passes.{view}
use Rattle.cts_worker.specs.Grounds.{ground}
use Rattle.cts_table.specs.States.{Shown}
use Rattle.cts_desk.specs.Holds.{text_of}
use Rattle.cts_desk.proofs.Histories.{ready_hold}
use Rattle.cts_snap.specs.Reading.{IsShown}
use Rattle.cts_snap_desk.specs.Reading.{IsCourse}
use Rattle.cts_snap_desk.proofs.Steps.{course_over, going_held, going_lacks, going_moved, going_read, ready_shown}
use Rattle.cts_snap_desk.proofs.reads.ByReadsSource.ask.Goals.{in-Ok, in-Err}
use Rattle.cts_snap_desk.proofs.reads.ByReadsSource.ask.Goals as goal

pub returns-in-Give-clause-going : goal.returns-in-Give-clause-going
returns-in-Give-clause-going g c = λ n xs k.
    let e = c.show-shown.ensures in
    let old = c.args.self.now.pane in
    let new = c.show-shown.new.self in
    let base = g.P.Pane.basis new in
    let list = g.P.Pane.list new in
    let floor = c.args.self.now.floor in
    let body = c.args.body.now in
    let course : IsCourse base list (g.P.Pane.refused old) (g.P.Pane.refused new) floor body c.match-shown.course = elim c.match-shown.branch [
      | in-Ok w ↦
          let x = w.in-Ok.ensures.ok in
          course_over x.0 base list (g.P.Pane.refused old) (g.P.Pane.refused new) floor body w.course_of-course.result c.match-shown.course x.1 x.2 w.course-is
          (w.course_of-course.ensures x.0 body (g.P.Pane.refused old) (g.P.Pane.refused new) (subst (λ (s : Shown). IsShown s body w.in-Ok.seen) x.3.2 x.3.1))
      | in-Err w ↦ subst (IsCourse base list (g.P.Pane.refused old) (g.P.Pane.refused new) floor body) (sym w.course-is) (inr (inl w.in-Err.ensures.rose))
    ] in
    let gives = subst (IsCourse base list (g.P.Pane.refused old) (g.P.Pane.refused new) floor body) c.in-Give.is course in
    let moved = going_moved (g.P.Pane.basis old) base (g.P.Pane.list old) (g.P.Pane.refused old) floor n (ground c.args.turn.now) c.args.by c.args.fronts.now (view c.args.pass) (view c.front-stands.new.pass) xs c.front-stands.result e.basis c.front-stands.ensures.view k in
    going_read base (g.P.Pane.list old) list (g.P.Pane.refused old) (g.P.Pane.refused new) floor n (ground c.args.turn.now) c.args.by c.args.fronts.now (view c.front-stands.new.pass) xs e.list e.refused moved body c.in-Give.front c.in-Give.text gives.0 gives.1 gives.2

pub returns-in-Hold-clause-ready : goal.returns-in-Hold-clause-ready
returns-in-Hold-clause-ready g c = let a = c.hold-pass.ensures.asked in
    ready_hold (ground c.args.turn.now) c.args.by (view c.front-stands.new.pass) (view c.hold-pass.result.0) a.added a.hold a.lasting
    (ready_shown (ground c.args.turn.now) c.args.by (view c.args.pass) (view c.front-stands.new.pass) c.front-stands.result c.front-stands.ensures.view c.requires.ready)

pub returns-in-Hold-clause-going : goal.returns-in-Hold-clause-going
returns-in-Hold-clause-going g c = λ n xs k.
    let e = c.show-shown.ensures in
    let old = c.args.self.now.pane in
    let new = c.show-shown.new.self in
    let base = g.P.Pane.basis new in
    let list = g.P.Pane.list new in
    let floor = c.args.self.now.floor in
    let body = c.args.body.now in
    let course : IsCourse base list (g.P.Pane.refused old) (g.P.Pane.refused new) floor body c.match-shown.course = elim c.match-shown.branch [
      | in-Ok w ↦
          let x = w.in-Ok.ensures.ok in
          course_over x.0 base list (g.P.Pane.refused old) (g.P.Pane.refused new) floor body w.course_of-course.result c.match-shown.course x.1 x.2 w.course-is
          (w.course_of-course.ensures x.0 body (g.P.Pane.refused old) (g.P.Pane.refused new) (subst (λ (s : Shown). IsShown s body w.in-Ok.seen) x.3.2 x.3.1))
      | in-Err w ↦ subst (IsCourse base list (g.P.Pane.refused old) (g.P.Pane.refused new) floor body) (sym w.course-is) (inr (inl w.in-Err.ensures.rose))
    ] in
    let needs = subst (IsCourse base list (g.P.Pane.refused old) (g.P.Pane.refused new) floor body) c.in-Hold.is course in
    let moved = going_moved (g.P.Pane.basis old) base (g.P.Pane.list old) (g.P.Pane.refused old) floor n (ground c.args.turn.now) c.args.by c.args.fronts.now (view c.args.pass) (view c.front-stands.new.pass) xs c.front-stands.result e.basis c.front-stands.ensures.view k in
    let h = c.hold-pass.ensures in
    let at : (view c.front-stands.new.pass).known ≡ c.front-stands.result = ap (λ v. v.known) c.front-stands.ensures.view in
    let known = h.known in
    let stands = c.if-self-stands.true in
    going_held base (g.P.Pane.list old) list (g.P.Pane.refused old) (g.P.Pane.refused new) floor n (ground c.args.turn.now) c.args.by c.args.fronts.now (view c.front-stands.new.pass) xs e.list e.refused moved body c.hold-pass.result.1.front c.hold-pass.result.1.stood
    (text_of c.hold-pass.result.1.answer) (view c.hold-pass.result.0) needs (omega (arith, at, known, stands)) h.stood h.asked

pub returns-in_default-clause-going : goal.returns-in_default-clause-going
returns-in_default-clause-going g c = λ n xs k.
    let e = c.show-shown.ensures in
    let old = c.args.self.now.pane in
    let new = c.show-shown.new.self in
    let base = g.P.Pane.basis new in
    let moved = going_moved (g.P.Pane.basis old) base (g.P.Pane.list old) (g.P.Pane.refused old) c.args.self.now.floor n (ground c.args.turn.now) c.args.by c.args.fronts.now (view c.args.pass) (view c.front-stands.new.pass) xs c.front-stands.result e.basis c.front-stands.ensures.view k in
    going_lacks base (g.P.Pane.list old) (g.P.Pane.list new) (g.P.Pane.refused old) (g.P.Pane.refused new) c.args.self.now.floor n (ground c.args.turn.now) c.args.by c.args.fronts.now (view c.front-stands.new.pass) xs e.list e.refused moved c.args.body.now
    c.last_front.result c.last_front.ensures
