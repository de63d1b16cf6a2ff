use Rattle.std.proofs.Common.{sym, subst, arith}
use Rattle.std.proofs.lemmas.Grind.{common_steps}
use Rattle.cts_plan.specs.SiteFiles.{opening}
use Rattle.cts_plan.specs.Keeping.{KeepsRules, Fits}
use Rattle.cts_plan.specs.declared.line.Line.{Line}
use Rattle.cts_reader.proofs.FirstRefused.{no_cause}
use Rattle.cts_plan.proofs.Kept.{ready_kept, line_fits}
use Rattle.cts_plan.proofs.draft.Draft.read.Goals as goal

pub add-requires : goal.add-requires
add-requires c =
    let stands = c.make_ready.new.self in
    let kept : KeepsRules stands =
    subst KeepsRules (sym c.in_ok-make_ready.ensures.ready) (ready_kept (opening c.in-Some.keyword) c.args.self.now c.requires c.in_ok-make_ready.ensures.settled) in
    record {
      fits = subst (λ (l : Line). Fits l stands) (sym c.in_ok-said.ensures.said)
          (line_fits stands c.args.statement.now.line c.in-Some.keyword c.in-Some.words.now kept (no_cause c.args.statement.now.line _ c.in_ok-said.ensures.settled));
    }

pub returns-clause-settled : goal.returns-clause-settled
returns-clause-settled c = grind (arith, common_steps)

pub returns-clause-stands : goal.returns-clause-stands
returns-clause-stands c = grind (arith, common_steps)
