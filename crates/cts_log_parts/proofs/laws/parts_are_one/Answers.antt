use Rattle.std.proofs.Common.{refl, ap, ◌∙◌}
use Rattle.std.specs.Prelude.{map}
use Rattle.cts_log.specs.Files.{log_file, log_head_len}
use Rattle.cts_log_parts.specs.Parts.{entry_len, groups_of}
use Rattle.cts_log_parts.proofs.Dividing.{all_entries, one_group}
use Rattle.cts_log_parts.proofs.Packing.{are_groups, groups_once}
use Rattle.cts_log_parts.proofs.PartsRead.{entry_positive}
use Rattle.cts_log_parts.proofs.laws.parts_are_one.Goals as goal

pub returns-clause-these : goal.returns-clause-these
returns-clause-these c kind fl digest cycle es = (groups_of fl cycle es, are_groups (entry_len fl) (entry_positive fl) cycle es, refl)

pub returns-clause-one : goal.returns-clause-one
returns-clause-one c kind fl digest cycle es parts a = a.2 ∙ ap (map (log_file kind fl digest)) (groups_once (entry_len fl) (entry_positive fl) cycle es a.0 a.1)

pub returns-clause-entries : goal.returns-clause-entries
returns-clause-entries c fl cycle es = all_entries (entry_len fl) cycle log_head_len es

pub returns-clause-alone : goal.returns-clause-alone
returns-clause-alone c kind fl digest es = ap (map (log_file kind fl digest)) (one_group (entry_len fl) log_head_len es)
