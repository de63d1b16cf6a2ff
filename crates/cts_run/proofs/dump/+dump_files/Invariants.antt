use Rattle.std.proofs.Common.{length}
use Rattle.cts_run.proofs.dump.+dump_files.Given as goal

abbrev pub decreases-dump_files : goal.decreases-dump_files
decreases-dump_files g l = length l.logs.now
