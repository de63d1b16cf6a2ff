use Rattle.cts_worker.proofs.Lasting.{can_end}
use Rattle.cts_worker.specs.Lasts.{first_moment}
use Rattle.cts_scribe.proofs.board.say_ended.Goals as goal

pub end-requires : goal.end-requires
end-requires c = can_end c.args.hall.now c.args.by first_moment c.is_kept.ensures.site c.is_kept.ensures.kept c.requires.may
