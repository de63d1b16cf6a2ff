use Rattle.std.proofs.Common.{List, ℕ, refl, sym, subst}
use Rattle.std.proofs.lemmas.Result.{err_from_is_err_and}
use Rattle.cts_core.specs.Writings.{PutsNext}
use Rattle.cts_core.proofs.running.Running.put_next.Goals as goal

pub returns-in_default : goal.returns-in_default
returns-in_default g c = (c.in_default.ensures, refl)

pub put-requires-clause-within : goal.put-requires-clause-within
put-requires-clause-within g c = c.in-Some.ensures.within

pub returns-in_err-bytes : goal.returns-in_err-bytes
returns-in_err-bytes g c =
    let p = err_from_is_err_and c.from_residual.result c.from_residual.ensures.1 in
    rw (p.1, p.2) (c.in-Some.ensures.enabled, c.in_err-bytes.ensures.err)

pub returns : goal.returns
returns g c = (c.in-Some.next, c.in-Some.ensures, subst (λ (l : List ℕ). PutsNext c.args.by c.args.self.now c.in-Some.next l c.put.new.self) (sym c.of.ensures) c.in_ok-bytes.ensures.ok)
