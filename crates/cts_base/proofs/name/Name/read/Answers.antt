use Rattle.std.proofs.Common.{◌∙◌, arith}
use Rattle.std.specs.Prelude.{IsTrue}
use Rattle.cts_base.specs.Names.{is_name}
use Rattle.cts_base.proofs.NameLemmas.{upper_name}
use Rattle.cts_base.proofs.name.Name.read.Goals as goal

pub invariant_of-result : goal.invariant_of-result
invariant_of-result c =
    let named : IsTrue (is_name c.args.text.now) = grind (arith, c.is_name.ensures, c.if-not-is_name.false) in
    rw (c.in_ok-new.ensures.ok ∙ c.in_ok-text.ensures) (upper_name c.args.text.now named)
