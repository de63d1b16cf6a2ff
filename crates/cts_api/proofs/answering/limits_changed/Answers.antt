use Rattle.std.proofs.Common.{None, refl, ap}
use Rattle.serde_json.specs.Data.{null}
use Rattle.cts_api.specs.Answers.{appended, posts}
use Rattle.cts_api.proofs.answering.limits_changed.Goals as goal

pub returns-clause-answered : goal.returns-clause-answered
returns-clause-answered c =
    (None, refl, (record { result = null; posting = posts c.in_ok-what.what }, ap appended c.in_ok-what.ensures.told, c.nothing.ensures, refl))

pub returns-clause-persistent : goal.returns-clause-persistent
returns-clause-persistent c = c.in_ok-what.ensures.persistent
