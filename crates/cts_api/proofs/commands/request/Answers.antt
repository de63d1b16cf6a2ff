use Rattle.std.proofs.Common.{None, Err, refl, sym, subst, inr}
use Rattle.cts_cmd.specs.declared.text_fault.TextFault.{TextFault}
use Rattle.cts_cmd.specs.Texts.{IsRead}
use Rattle.cts_cmd.proofs.Exact.{one_way}
use Rattle.cts_methods.specs.declared.reading.Order.{Order}
use Rattle.cts_api.specs.Replies.{IsRequested}
use Rattle.cts_methods.specs.Seen.{order_data}
use Rattle.cts_api.proofs.commands.request.Goals as goal

-- a text that fails somewhere asks for nothing
pub returns-in-Err-Refused : goal.returns-in-Err-Refused
returns-in-Err-Refused c =
    let text = c.in-Text.text.now in
    let fails = subst (λ (e : TextFault). IsRead text (Err e)) c.in-Err-Refused.field-0-is c.in-Err-Refused.ensures.read in
    subst (λ (o : Order). IsRequested (order_data o) None) (sym c.in-Text.is)
    (inr (λ r is. (one_way text).either r c.in-Err-Refused.field-0-0 c.in-Err-Refused.field-0-1 is fails, refl))
