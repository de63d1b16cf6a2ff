use Rattle.std.proofs.Common.{◌≡◌, length, arith, rules}
use Rattle.cts_monitor.proofs.places.Places.sets_known.Goals as goal

pub overflow_cast-result : goal.overflow_cast-result
overflow_cast-result g c =
    let sets : c.len.result ≡ length c.args.site.now.definitions.set_names = search rules in
    let places : c.len-2.result ≡ length c.args.self.now.sets = search rules in
    omega (arith, sets, places, c.requires.tells.count, c.requires.few)
