use Rattle.std.proofs.Common.{length, arith}
use Rattle.std.proofs.lemmas.Grind.{common_steps}
use Rattle.cts_cmd.proofs.Injected.{all_more, one_more}
use Rattle.cts_cmd.proofs.injection.write_members.Goals as goal

pub write_member-requires : goal.write_member-requires
write_member-requires c = all_more c.args.items.now (length c.args.buffer.now.items) (length c.loop-member.buffer.items) c.loop-member.invariant.0 c.requires

pub loop-member-preserved : goal.loop-member-preserved
loop-member-preserved c =
    let long = c.loop-member.invariant.0 in
    let more = c.in_ok-write_member.ensures.no_shorter in (
      omega (arith, long, more),
      one_more c.args.items.now c.args.members.now c.loop-member.member-index c.member-item.result c.args.buffer.now.items c.loop-member.buffer.items c.write_member.new.buffer.items
          c.loop-member-test.true c.member-item.is c.in_ok-write_member.ensures.written c.loop-member.invariant.1,
    )

pub returns : goal.returns
returns c = grind (arith, common_steps)
