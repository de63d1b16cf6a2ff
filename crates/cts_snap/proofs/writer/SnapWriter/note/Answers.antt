use Rattle.std.proofs.Common.{rules, ◌≡◌, ◌≤◌, ◌∷◌, [], ◌++◌, length, Some, slice_get, List, arith, sym}
use mathlib.Core.List.{IsPrefix}
use Rattle.cts_entry.specs.declared.entry.Entry.{Entry}
use Rattle.cts_table.specs.Keeping.{IsKept}
use Rattle.cts_book.proofs.Fronts.{prefix_length}
use Rattle.cts_snap.proofs.Keeping.{kept_in, noted}
use Rattle.cts_snap.proofs.writer.SnapWriter.note.Goals as goal

pub invariant_of-self : goal.invariant_of-self
invariant_of-self g c =
    let b = g.J.Grounds.basis in
    let all : List Entry = c.args.hall.now.entries in
    let p : IsPrefix c.self.inside.mine all = search rules in
    let kept : IsKept b all = kept_in c.args.hall.now.basis b all c.requires.fits c.is_kept.ensures.kept in
    let le : length c.self.inside.mine ≤ c.self.inside.listed = search rules in
    let ge = prefix_length _ c.self.inside.mine c.self.invariant.1.begins in
    let at : slice_get all c.self.inside.listed ≡ Some c.lend.result.now = search rules in
    let is : c.extend.new.self ≡ c.self.inside.mine ++ c.lend.result.now ∷ [] = search rules in
    (c.self.invariant.0, (noted b _ all c.extend.new.self c.self.inside.listed c.lend.result.now c.self.invariant.1 p kept (omega (arith, le, ge, c.self.invariant.0)) (sym c.self.invariant.0) at is).0)

pub returns-clause-begins : goal.returns-clause-begins
returns-clause-begins g c =
    let b = g.J.Grounds.basis in
    let all : List Entry = c.args.hall.now.entries in
    let p : IsPrefix c.self.inside.mine all = search rules in
    let kept : IsKept b all = kept_in c.args.hall.now.basis b all c.requires.fits c.is_kept.ensures.kept in
    let le : length c.self.inside.mine ≤ c.self.inside.listed = search rules in
    let ge = prefix_length _ c.self.inside.mine c.self.invariant.1.begins in
    let at : slice_get all c.self.inside.listed ≡ Some c.lend.result.now = search rules in
    let is : c.extend.new.self ≡ c.self.inside.mine ++ c.lend.result.now ∷ [] = search rules in
    (noted b _ all c.extend.new.self c.self.inside.listed c.lend.result.now c.self.invariant.1 p kept (omega (arith, le, ge, c.self.invariant.0)) (sym c.self.invariant.0) at is).1
