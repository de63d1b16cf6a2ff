use Rattle.std.proofs.Common.{rules}
use Rattle.cts_api.proofs.values.item_value.Goals as goal

pub returns-in-Err-clause-told : goal.returns-in-Err-clause-told
returns-in-Err-clause-told g c = search rules

pub returns-in-Err-Memory-clause-told : goal.returns-in-Err-Memory-clause-told
returns-in-Err-Memory-clause-told g c = search rules

pub returns-in_ok-shown_once-in-Ok-clause-told : goal.returns-in_ok-shown_once-in-Ok-clause-told
returns-in_ok-shown_once-in-Ok-clause-told g c = search rules

pub returns-in_err-shown_once-in-Ok-clause-told : goal.returns-in_err-shown_once-in-Ok-clause-told
returns-in_err-shown_once-in-Ok-clause-told g c = search rules
