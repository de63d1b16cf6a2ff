use Rattle.std.proofs.Common.{rules, ◌≡◌, ◌+◌, ◌*◌, arith, length, refl, subst, sym}
use Rattle.std.specs.List.{AllByRecursion}
use Rattle.std.proofs.lemmas.List.{drop_all}
use Rattle.cts_net.specs.Devices.{AcceptsAt}
use Rattle.cts_net.proofs.Unused.{host_of}
use Rattle.cts_net.proofs.devices.Listeners.doors.Goals as goal

pub loop-place-preserved : goal.loop-place-preserved
loop-place-preserved g c =
    let first = c.in_ok-put.ensures.there (2 * c.loop-place.place) c.loop-place.invariant in
    let second = c.in_ok-put-2.ensures.there (2 * c.loop-place.place + 1) first in
    (omega (arith, second.0), second.1)

pub loop-preserved : goal.loop-preserved
loop-preserved g c =
    let are = c.in_ok-put-3.ensures.there (8 + c.loop.counter) c.loop.invariant.0 in
    let at = c.in_ok-put-3.ensures.host 8 _ refl (omega (arith, c.loop.invariant.0.0)) c.loop.invariant.1 in
    ((omega (arith, are.0), are.1), at)

-- no desk has its door yet
pub loop-init : goal.loop-init
loop-init g c =
    let eight : length c.loop-place.doors.items ≡ 8 = omega (arith, c.loop-place.invariant.0) in
    (search rules, subst (AllByRecursion (AcceptsAt host_of c.args.self.now.desks.host.now)) (sym (drop_all 8 c.loop-place.doors.items (omega (arith, eight)))) tt)
