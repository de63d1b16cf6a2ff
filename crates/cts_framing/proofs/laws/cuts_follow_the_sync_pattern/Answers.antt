use Rattle.cts_framing.proofs.SyncPattern.{cuts_follow, nothing_is_skipped}
use Rattle.cts_framing.proofs.laws.cuts_follow_the_sync_pattern.Goals as goal

pub returns : goal.returns
returns c = record { rules = cuts_follow; nothing = nothing_is_skipped }
