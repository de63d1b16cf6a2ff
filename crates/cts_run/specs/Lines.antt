-- The lines that a command prints for itself. Each ends with byte 0A.
use Rattle.std.specs.Prelude.{ℕ, ◌+◌, List, [], ◌∷◌, ◌++◌, length, codes}
use Rattle.std.specs.Fmt.{decimal}
use Rattle.cts_def.specs.declared.proto_spec.Kind.{Kind}
use Rattle.cts_def.specs.declared.proto_spec.Kind.TheVariants as kind
use Rattle.cts_def.specs.Packets.{items_in}
use Rattle.cts_def.specs.Sites.{SiteData}
use Rattle.cts_run.specs.declared.halt.hub_cause.HubCause.{HubCause}
use Rattle.cts_run.specs.declared.halt.hub_cause.HubCause.TheVariants as hub

abbrev pub usage_line : List ℕ
usage_line = codes "usage: check DEFS SITE | replay DEFS SITE SCRIPT | rehearse N | dump LOG | serve DEFS SITE | play DEFS SITE LOG | extract DEFS LOG TARGET PACKET KIND ITEMS | hub DEFS SITE SCRIPT SITE2 WHO NAME CUT\n"

abbrev pub memory_line : List ℕ
memory_line = codes "out of memory\n"

abbrev pub read_fault_line : List ℕ → List ℕ
read_fault_line name = codes "read fault: " ++ name ++ 10 ∷ []

abbrev pub absent_line : List ℕ → List ℕ
absent_line name = codes "absent: " ++ name ++ 10 ∷ []

abbrev pub log_fault_line : List ℕ
log_fault_line = codes "log fault\n"

-- a file, a line of it and a cause
abbrev pub refused_line : List ℕ → ℕ → List ℕ → List ℕ
refused_line name line cause = codes "refused: " ++ name ++ codes " line " ++ decimal line ++ codes ": " ++ cause ++ 10 ∷ []

-- a kind of protocols as it is printed
abbrev pub kind_name : Kind → List ℕ
kind_name kind.Burst = codes "BURST"
kind_name kind.Fixed = codes "FIXED"
kind_name kind.Length = codes "LENGTH"
kind_name kind.Terminated = codes "TERMINATED"
kind_name kind.Preidentified = codes "PREIDENTIFIED"

-- how many boxes of a kind are needed, and how many there are
abbrev pub shelf_line : Kind → ℕ → ℕ → List ℕ
shelf_line k needed stocked = codes "shelf empty: " ++ kind_name k ++ codes " needed " ++ decimal needed ++ codes " stocked " ++ decimal stocked ++ 10 ∷ []

abbrev pub full_line : ℕ → ℕ → List ℕ
full_line entries bytes = codes "history full: " ++ decimal entries ++ codes " entries, " ++ decimal bytes ++ codes " bytes\n"

-- where a log is refused: at the first byte that is in no entry
abbrev pub log_line : ℕ → List ℕ
log_line place = codes "log refused at " ++ decimal place ++ 10 ∷ []

-- a word that names nothing that is defined
abbrev pub unknown_line : List ℕ → List ℕ
unknown_line name = codes "unknown: " ++ name ++ 10 ∷ []

-- why a router can't be tied to an interface
abbrev pub hub_line : HubCause → List ℕ
hub_line hub.Chain = codes "hub refused: Chain\n"
hub_line hub.Target = codes "hub refused: Target\n"

-- how many entries the history has at the end
abbrev pub end_line : ℕ → List ℕ
end_line entries = codes "END " ++ decimal entries ++ 10 ∷ []

-- how many packets, commands, items of both, interfaces and routers there are
abbrev pub numbers_line : ℕ → ℕ → ℕ → ℕ → ℕ → List ℕ
numbers_line telemetry commands items interfaces routers =
    codes "telemetry " ++ decimal telemetry ++ codes " commands " ++ decimal commands ++ codes " items " ++ decimal items
    ++ codes " interfaces " ++ decimal interfaces ++ codes " routers " ++ decimal routers ++ 10 ∷ []

-- what a site and its definitions have
abbrev pub counts_line : SiteData → List ℕ
counts_line site =
    numbers_line (length site.definitions.telemetry) (length site.definitions.commands)
    (items_in site.definitions.telemetry + items_in site.definitions.commands) (length site.interfaces) (length site.routers)
