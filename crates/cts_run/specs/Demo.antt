-- The demo's site: the files that a rehearsal reads, which stand in the program.
use Rattle.std.specs.Prelude.{ℕ, nat_eq, List, codes, Option, Some, if◌then◌else◌}
use Rattle.std.specs.Cmp.Lexicographic.{pointwise}
use Rattle.cts_def.specs.Sites.{SiteData}
use Rattle.cts_run.specs.Load.{site_asked}

-- an instrument with a temperature that is watched and a command, and a unit that sends lines of text
unfoldable pub definitions_text : List ℕ
definitions_text = codes "TELEMETRY INST HS BIG_ENDIAN \"Health and status\"\n  APPEND_ID_ITEM PKTID 8 UINT 1 \"Packet id\"\n  APPEND_ITEM TEMP1 16 UINT \"Temperature\"\n    POLY_READ_CONVERSION -100.0 0.00305\n    LIMITS DEFAULT 1 ENABLED -80.0 -70.0 60.0 80.0\n    LIMITS TVAC 1 ENABLED -80.0 -70.0 0.0 80.0\n    UNITS CELSIUS C\n    FORMAT_STRING \"%0.3f\"\n  APPEND_ITEM MODE 8 UINT\n    STATE OFF 0\n    STATE ON 1\nTELEMETRY AUX LINE BIG_ENDIAN \"A line of text\"\n  APPEND_ITEM TEXT 0 STRING\nCOMMAND INST COLLECT BIG_ENDIAN \"Start a collect\"\n  APPEND_ID_PARAMETER OPCODE 8 UINT 7 7 7 \"Opcode\"\n  APPEND_PARAMETER DURATION 16 UINT 0 10 5 \"Duration\"\n"

-- an interface for each, and a router for the instrument
unfoldable pub site_text : List ℕ
site_text = codes "TITLE \"Demo\"\nINTERFACE INST_INT tcpip_client_interface.rb localhost 8080 8080 10.0 nil LENGTH 0 16 0 1 BIG_ENDIAN 2 nil nil true\n  TARGET INST\nINTERFACE AUX_INT tcpip_client_interface.rb localhost 8081 8081 10.0 nil TERMINATED 0x0A 0x0A\n  TARGET AUX\nROUTER OUT tcpip_server_interface.rb 2950 2950 10.0 nil PREIDENTIFIED\n  ROUTE INST_INT\n"

-- their names, by which a refusal would tell of them
abbrev pub definitions_name : List ℕ
definitions_name = codes "definitions"

abbrev pub site_name : List ℕ
site_name = codes "site"

-- the files by their names; each other name is one of the site's
abbrev pub demo_files : List ℕ → Option (List ℕ)
demo_files name = if pointwise nat_eq name definitions_name then Some definitions_text else Some site_text

-- the site that these files say
abbrev pub demo_site : SiteData
demo_site = site_asked demo_files definitions_name site_name
