use Rattle.std.proofs.Common.{rules, ◌≡◌, ◌∙◌, ◌+◌, ◌∷◌, [], ◌++◌, length, Some, slice_get, fold, List, ap, subst, sym}
use mathlib.Core.List.{IsPrefix}
use Rattle.left_right.specs.Handles.{pending, published}
use Rattle.cts_entry.specs.declared.entry.Entry.{Entry}
use Rattle.cts_table.specs.Keeping.{IsKept}
use Rattle.cts_snap.specs.Copies.{EndsWith, IsWriting, Next}
use Rattle.cts_snap.proofs.Keeping.{ends_at, fold_takes, listed}
use Rattle.cts_snap.proofs.writer.SnapWriter.take_next.Goals as goal

pub invariant_of-next : goal.invariant_of-next
invariant_of-next g c =
    let b = g.J.Grounds.basis in
    let all : List Entry = c.args.hall.now.entries in
    let e : Entry = c.in_ok-copy.field-0 in
    let p : IsPrefix c.self.inside.mine all = search rules in
    let len : length c.self.inside.mine ≡ c.self.inside.listed + 1 = search rules in
    let at : slice_get all c.self.inside.listed ≡ Some e = search rules in
    subst (λ (l : List Entry). EndsWith l e × IsKept b l) (sym c.copy-2.ensures) (ends_at c.self.inside.listed c.self.inside.mine all e p len at, c.self.invariant.1.kept)

pub invariant_of-self-2 : goal.invariant_of-self-2
invariant_of-self-2 g c =
    let b = g.J.Grounds.basis in
    let takes = g.T.Absorb.applied in
    let old = c.self.inside.handle in
    let new = c.append.new.self in
    let op : Next = record { entry = c.in_ok-copy.field-0; list = c.copy-2.result } in
    let more : pending new ≡ pending old ++ op ∷ [] = search rules in
    let same : published new ≡ published old = search rules in
    let is : fold takes (g.T.Absorb.state (published new)) (pending new) ≡ c.self.inside.mine = rw more (fold_takes takes g.met.T.Replicates.takes_in (g.T.Absorb.state (published new)) (pending old) op ∙ c.copy-2.ensures) in
    let len : length c.self.inside.mine ≡ c.self.inside.listed + 1 = search rules in
    let k = subst (λ h. IsWriting b (record { published = g.T.Absorb.state h; waiting = fold takes (g.T.Absorb.state (published old)) (pending old); list = c.self.inside.mine })) (sym same) c.self.invariant.1 in
    (sym (ap length is ∙ len), listed b _ (fold takes (g.T.Absorb.state (published new)) (pending new)) k is)

pub returns-clause-ok : goal.returns-clause-ok
returns-clause-ok g c =
    let takes = g.T.Absorb.applied in
    let old = c.self.inside.handle in
    let new = c.append.new.self in
    let op : Next = record { entry = c.in_ok-copy.field-0; list = c.copy-2.result } in
    let more : pending new ≡ pending old ++ op ∷ [] = search rules in
    let is : fold takes (g.T.Absorb.state (published new)) (pending new) ≡ c.self.inside.mine = rw more (fold_takes takes g.met.T.Replicates.takes_in (g.T.Absorb.state (published new)) (pending old) op ∙ c.copy-2.ensures) in
    let len : length c.self.inside.mine ≡ length c.args.self.now.waiting + 1 = search rules in
    (ap length is ∙ len, is)
