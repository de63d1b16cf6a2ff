use Rattle.std.proofs.Common.{[], ap, append-nil, ◌∙◌, sym}
use Rattle.cts_desk_scribe_tests.proofs.scribing.shown_in.Goals as goal

pub leave-requires-clause-new : goal.leave-requires-clause-new
leave-requires-clause-new g c = ([], sym (ap (λ v. v.seen) c.enter-held.ensures.view) ∙ sym (append-nil _), tt)
