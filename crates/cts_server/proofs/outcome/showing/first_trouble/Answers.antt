use Rattle.std.proofs.Common.{rules, find, ap, ◌∙◌}
use Rattle.cts_server.specs.Troubles.{shows}
use Rattle.cts_server.specs.declared.outcome.trouble.Trouble.{Trouble}
use Rattle.cts_server.proofs.outcome.showing.first_trouble.Goals as goal

pub returns : goal.returns
returns c =
    let test : Trouble → _ = λ trouble. shows (record {
      written = c.args.written;
      lines = c.args.lines.now;
      desks = c.args.desks.now;
      scribe =
          c.args.scribe;
      history = c.args.history.now;
    }) trouble in
    c.first_that_holds.ensures test (λ trouble held post. search rules) ∙ ap (find test) c.order.ensures
