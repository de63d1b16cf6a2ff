use Rattle.std.proofs.Common.{rules, ◌≡◌, ◌+◌, [], ◌∷◌, ◌++◌, length, List, subst, sym}
use Rattle.cts_entry.specs.declared.entry.Entry.{Entry}
use Rattle.cts_entry.specs.Histories.{entries_for, bytes_for}
use Rattle.cts_table.specs.States.{with_room}
use Rattle.cts_snap.proofs.Keeping.{can_take, has_taken, next_is}
use Rattle.cts_snap.proofs.replica.Replica.take_in.Goals as goal

pub append-requires : goal.append-requires
append-requires g c =
    let s = c.self.inside.hall in
    let e = c.args.entry in
    let long : length c.args.front ≡ length c.self.inside.front + 1 = search rules in
    let next : c.args.front ≡ c.self.inside.front ++ e ∷ [] = next_is c.self.inside.front c.args.front c.longer-both.result e c.longer-both.ensures.this c.longer-both.ensures.that c.requires.ends long in
    let is : c.args.front ≡ s.entries ++ e ∷ [] = subst (λ (l : List Entry). c.args.front ≡ l ++ e ∷ []) c.self.invariant.1 next in
    let room : c.room-room.new.self ≡ with_room s (entries_for e.what) (bytes_for e.what) = search rules in
    can_take s c.room-room.new.self g.J.Grounds.basis c.args.front e c.self.invariant.0 room c.requires.kept is

pub invariant_of-self-2 : goal.invariant_of-self-2
invariant_of-self-2 g c =
    let s = c.self.inside.hall in
    let e = c.args.entry in
    let long : length c.args.front ≡ length c.self.inside.front + 1 = search rules in
    let next : c.args.front ≡ c.self.inside.front ++ e ∷ [] = next_is c.self.inside.front c.args.front c.longer-both.result e c.longer-both.ensures.this c.longer-both.ensures.that c.requires.ends long in
    let is : c.args.front ≡ s.entries ++ e ∷ [] = subst (λ (l : List Entry). c.args.front ≡ l ++ e ∷ []) c.self.invariant.1 next in
    let room : c.room-room.new.self ≡ with_room s (entries_for e.what) (bytes_for e.what) = search rules in
    has_taken s c.room-room.new.self c.append.new.self g.J.Grounds.basis c.args.front e c.self.invariant.0 room c.append.ensures is

pub returns : goal.returns
returns g c =
    let s = c.self.inside.hall in
    let e = c.args.entry in
    let long : length c.args.front ≡ length c.self.inside.front + 1 = search rules in
    let next : c.args.front ≡ c.self.inside.front ++ e ∷ [] = next_is c.self.inside.front c.args.front c.longer-both.result e c.longer-both.ensures.this c.longer-both.ensures.that c.requires.ends long in
    let is : c.args.front ≡ s.entries ++ e ∷ [] = subst (λ (l : List Entry). c.args.front ≡ l ++ e ∷ []) c.self.invariant.1 next in
    let room : c.room-room.new.self ≡ with_room s (entries_for e.what) (bytes_for e.what) = search rules in
    sym (has_taken s c.room-room.new.self c.append.new.self g.J.Grounds.basis c.args.front e c.self.invariant.0 room c.append.ensures is).1
