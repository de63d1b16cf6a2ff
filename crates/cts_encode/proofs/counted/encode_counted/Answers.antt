use Rattle.std.proofs.Common.{ℕ, ◌-◌, true, subst, ◌∙◌}
use Rattle.std.specs.Prelude.{Ok, Err}
use Rattle.cts_def.specs.Starts.{place_data}
use Rattle.cts_encode.specs.Putting.{CountsFor, length_row}
use Rattle.cts_encode.proofs.PutCounts.{counted_ok, counted_err}
use Rattle.cts_encode.proofs.counted.encode_counted.Goals as goal

pub returns-in-Ok-clause-put : goal.returns-in-Ok-clause-put
returns-in-Ok-clause-put c = λ h. counted_ok (place_data c.args.field.now.place.now) c.args.field.now.value_offset.now c.args.field.now.per_count c.args.discard c.args.sync.now c.args.field.now.max h c.args.bytes.now c.args.out.now.items c.put_ended.new.out.items c.write_count.new.out.items c.len-start.result
    (c.len-start.ensures ∙ c.args.out.now.ok.0) c.in_ok-put_ended.ensures.1 c.in-Ok.count c.write_over.new.out.items
    (subst (λ (t : ℕ). CountsFor (length_row (place_data c.args.field.now.place.now) c.args.field.now.value_offset.now c.args.field.now.per_count c.args.discard c.args.sync.now c.args.field.now.max true) (t - c.len-start.result) (Ok c.in-Ok.count)) (c.len.ensures ∙ c.put_ended.new.out.ok.0) c.in-Ok.ensures)
    c.write_over.ensures c.write_count.ensures.front c.write_count.ensures.field

pub returns-in-Err-clause-put : goal.returns-in-Err-clause-put
returns-in-Err-clause-put c = λ h. counted_err (place_data c.args.field.now.place.now) c.args.field.now.value_offset.now c.args.field.now.per_count c.args.discard c.args.sync.now c.args.field.now.max h c.args.bytes.now c.args.out.now.items c.put_ended.new.out.items c.truncate.new.self.items c.len-start.result
    (c.len-start.ensures ∙ c.args.out.now.ok.0) c.in_ok-put_ended.ensures.1 c.in-Err.fault
    (subst (λ (t : ℕ). CountsFor (length_row (place_data c.args.field.now.place.now) c.args.field.now.value_offset.now c.args.field.now.per_count c.args.discard c.args.sync.now c.args.field.now.max true) (t - c.len-start.result) (Err c.in-Err.fault)) (c.len.ensures ∙ c.put_ended.new.out.ok.0) c.in-Err.ensures)
    c.truncate.ensures.items
