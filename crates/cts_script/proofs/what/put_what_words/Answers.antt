use Rattle.std.proofs.Common.{arith}
use Rattle.std.proofs.lemmas.Grind.{common_steps}
use Rattle.cts_script.proofs.what.put_what_words.Goals as goal

pub returns-in-Command : goal.returns-in-Command
returns-in-Command c = grind (arith, common_steps)

pub returns-in-Packet : goal.returns-in-Packet
returns-in-Packet c = grind (arith, common_steps)

pub returns-in-Injected : goal.returns-in-Injected
returns-in-Injected c = grind (arith, common_steps)

pub returns-in-Unrouted : goal.returns-in-Unrouted
returns-in-Unrouted c = grind (arith, common_steps)

pub returns-in-LimitsSetIs : goal.returns-in-LimitsSetIs
returns-in-LimitsSetIs c = grind (arith, common_steps)

pub returns-in-Enable : goal.returns-in-Enable
returns-in-Enable c = grind (arith, common_steps)

pub returns-in-Closed : goal.returns-in-Closed
returns-in-Closed c = grind (arith, common_steps)

pub returns-in_ok-put_watch_words-in-SetLimits : goal.returns-in_ok-put_watch_words-in-SetLimits
returns-in_ok-put_watch_words-in-SetLimits c = grind (arith, common_steps)
