use Rattle.std.proofs.Common.{◌≡◌, ◌++◌, [], vec_len}
use Rattle.std.specs.List.{AllByRecursion, flat_map}
use Rattle.cts_turn.specs.Passes.{IsPassOf, view}
use Rattle.cts_server.proofs.running.rest.Given as goal

abbrev pub invariant-idle : goal.invariant-idle
invariant-idle l = record {
  pass : IsPassOf l.turn l.pass;
  seen : (view l.pass).seen ≡ [];
  idle : AllByRecursion (λ p. IsPassOf l.turn p × ((view p).seen ≡ [])) l.idle.items;
  makers : (view l.pass).makers ++ flat_map (λ p. (view p).makers) l.idle.items ≡ (view l.fn.pass).makers ++ flat_map (λ p. (view p).makers) l.fn.idle.items;
}

abbrev pub decreases-idle : goal.decreases-idle
decreases-idle l = vec_len l.idle
