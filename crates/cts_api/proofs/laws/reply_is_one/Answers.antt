use Rattle.cts_api.proofs.OneReply.{reply_one}
use Rattle.cts_api.proofs.SomeReply.{some_reply}
use Rattle.cts_api.proofs.laws.reply_is_one.Goals as goal

pub returns-clause-one : goal.returns-clause-one
returns-clause-one c h by time body a b x y = reply_one h by time body a b x y

pub returns-clause-there : goal.returns-clause-there
returns-clause-there c h by time body = some_reply h by time body
