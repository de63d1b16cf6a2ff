use Rattle.std.proofs.Common.{Result, refl, sym, subst}
use Rattle.std.specs.Prelude.{option_map}
use Rattle.serde_json.specs.View.{view}
use Rattle.cts_api.specs.declared.refusal.Refusal.{Refusal}
use Rattle.cts_api.specs.declared.sending.Done.{Done}
use Rattle.cts_api.specs.Settling.{Ends, Refuses}
use Rattle.cts_api.proofs.replying.ended.Goals as goal

pub returns-in-Err : goal.returns-in-Err
returns-in-Err c =
    let s = c.args.hall.now in
    let id = option_map (λ i. view i.now) c.args.id in
    let told : Refuses s id c.in-Err.refusal c.refusal_told.result s = record { same = refl; none = c.refusal_told.ensures.none; told = c.refusal_told.ensures.told; text = c.refusal_told.ensures.text } in
    subst (λ (x : Result Done Refusal). Ends s c.args.by c.args.time id x c.refusal_told.result s) (sym c.in-Err.is) told
