-- What the entries of a site's history give to its packet logs.
use Rattle.std.specs.Prelude.{◌≡◌, ℕ, List, ◌++◌}
use Rattle.cts_connection.specs.Routings.{is_logged, packet_names}
use Rattle.cts_def.specs.Names.{command_names}
use Rattle.cts_def.specs.Sites.{SiteData}
use Rattle.cts_entry.specs.declared.entry.Entry.{Entry}
use Rattle.cts_entry.specs.declared.what.What.{What}
use Rattle.cts_framing.specs.Layouts.{has_flags}
use Rattle.cts_log.specs.Logged.{laid_out}
use Rattle.cts_trace.specs.Routing.{names_by}
use Rattle.cts_trace.specs.Streams.{command_log, telemetry_log}

-- the target and the name of what an entry says, and none where it is no packet and no command
abbrev pub names : SiteData → What → List ℕ × List ℕ
names site what = names_by (packet_names site) (command_names site) what

-- the packets of the interfaces that are logged, laid out one after the other in the site's layout
abbrev pub packets_log : SiteData → List Entry → List ℕ
packets_log site entries = telemetry_log (laid_out (has_flags site.log_layout)) (names site) (is_logged site) entries

-- the commands for these interfaces
abbrev pub commands_log : SiteData → List Entry → List ℕ
commands_log site entries = command_log (laid_out (has_flags site.log_layout)) (names site) (is_logged site) entries

-- ---- laws

-- What more entries give to a log is what the first of them give, and then what the others give.
abbrev pub PacketsGrow : Type 0
PacketsGrow = (site : SiteData) (xs ys : List Entry) → packets_log site (xs ++ ys) ≡ packets_log site xs ++ packets_log site ys

abbrev pub CommandsGrow : Type 0
CommandsGrow = (site : SiteData) (xs ys : List Entry) → commands_log site (xs ++ ys) ≡ commands_log site xs ++ commands_log site ys
