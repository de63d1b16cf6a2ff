-- The codes of errors, and how a refusal is told.
use Rattle.std.specs.Prelude.{ℕ, ℤ, pos, neg_ℤ, List, Option, codes, option_map}
use Rattle.cts_rpc.specs.declared.call.RpcFault.{RpcFault}
use Rattle.cts_rpc.specs.declared.call.RpcFault.TheVariants as fault
use Rattle.serde_json.specs.Data.{Data}
use Rattle.serde_json.specs.View.{view}
use Rattle.cts_api.specs.declared.response.Code.{Code}
use Rattle.cts_api.specs.declared.response.Code.TheVariants.{ParseError, InvalidRequest, MethodNotFound, InvalidParams, NoSuch, NotDone, HistoryFull}
use Rattle.cts_api.specs.declared.refusal.Refusal.{Refusal}
use Rattle.cts_api.specs.declared.refusal.Refusal.TheVariants as why
use Rattle.cts_api.specs.Replies.{IsTextFor, error, invalid_params, invalid_request, parse_error, respond}

abbrev pub code_number : Code → ℤ
code_number ParseError = neg_ℤ (pos 32700)
code_number InvalidRequest = neg_ℤ (pos 32600)
code_number MethodNotFound = neg_ℤ (pos 32601)
code_number InvalidParams = neg_ℤ (pos 32602)
code_number NoSuch = neg_ℤ (pos 32001)
code_number NotDone = neg_ℤ (pos 32002)
code_number HistoryFull = neg_ℤ (pos 32003)

-- the response to a refusal; want of memory has none
abbrev pub RefusesWith : Option Data → Refusal → Option (List ℕ) → Type 0
RefusesWith id (why.NoSuch message) text = IsTextFor (respond id (error (code_number NoSuch) message.now)) text
RefusesWith id (why.NotDone message) text = IsTextFor (respond id (error (code_number NotDone) message)) text
RefusesWith id why.BadParams text = IsTextFor (respond id (error (code_number InvalidParams) (codes "Invalid params"))) text
RefusesWith id why.Memory text = ⊥

-- want of memory is told nobody
abbrev pub IsTold : Refusal → Type 0
IsTold (why.NoSuch message) = Unit {0}
IsTold (why.NotDone message) = Unit {0}
IsTold why.BadParams = Unit {0}
IsTold why.Memory = ⊥

-- the response to a body that is no call; want of memory has none
abbrev pub TellsFault : RpcFault → Option (List ℕ) → Type 0
TellsFault fault.ParseError text = IsTextFor parse_error.response text
TellsFault fault.InvalidRequest text = IsTextFor invalid_request.response text
TellsFault (fault.InvalidParams id) text = IsTextFor (invalid_params (option_map view id)).response text
TellsFault fault.Memory text = ⊥
