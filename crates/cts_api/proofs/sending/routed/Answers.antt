use Rattle.std.proofs.Common.{rules}
use Rattle.cts_api.proofs.sending.routed.Goals as goal

pub returns-in-Ok : goal.returns-in-Ok
returns-in-Ok c = search rules

pub returns-in_ok-copy-in-Err-NoInterface : goal.returns-in_ok-copy-in-Err-NoInterface
returns-in_ok-copy-in-Err-NoInterface c = search rules

pub returns-in_err-copy-in-Err-NoInterface : goal.returns-in_err-copy-in-Err-NoInterface
returns-in_err-copy-in-Err-NoInterface c = search rules

pub returns-in_err-not_connected-in-Err-NotConnected : goal.returns-in_err-not_connected-in-Err-NotConnected
returns-in_err-not_connected-in-Err-NotConnected c = search rules
