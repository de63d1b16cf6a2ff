-- Rows of replies at the beginning of a history and after a Stop, over a site of one packet INST HS with one number TEMP1, one
-- command INST COLLECT without parameters, one interface INST_INT.
use Rattle.std.specs.Prelude.{◌≡◌, ℕ, ℤ, pos, neg_ℤ, true, false, List, [], ◌∷◌, ◌++◌, Option, Some, None, option_map, option_and_then, codes}
use Rattle.std.specs.Fmt.{signed_decimal}
use Rattle.cts_bits.specs.declared.order.Order.TheVariants.{Big}
use Rattle.cts_def.specs.declared.conversion.Conversion.TheVariants.{Plain}
use Rattle.cts_def.specs.declared.item_kind.ItemKind.TheVariants.{Uint}
use Rattle.cts_def.specs.declared.item_kind.Overflow.TheVariants.{Error}
use Rattle.cts_def.specs.declared.item_kind.Preset.TheVariants as preset
use Rattle.cts_def.specs.declared.limits.Limits.{Limits}
use Rattle.cts_def.specs.declared.time.Time.{Time}
use Rattle.cts_def.specs.Items.{ItemData}
use Rattle.cts_def.specs.Packets.{PacketData}
use Rattle.cts_def.specs.Sites.{SiteData, InterfaceData}
use Rattle.cts_entry.specs.declared.what.What.TheVariants.{SetLimits, Enable, LimitsSetIs, Stop}
use Rattle.cts_table.specs.declared.basis.Basis.{Basis}
use Rattle.cts_rpc.specs.Requests.{calls}
use Rattle.cts_rpc.specs.Replies.{result_reply}
use Rattle.serde_json.specs.Data.{Data, null, boolean, number, string, negative, no_items}
use Rattle.cts_methods.specs.Asking.{in_text, Asking, sends, stops}
use Rattle.cts_api.specs.Saying.{Said, gives}
use Rattle.cts_api.specs.Answers.{Done, told, appended, answer}
use Rattle.cts_methods.specs.Methods.{params_of, method_named}
use Rattle.cts_methods.specs.declared.method.Method.{Method}
use Rattle.cts_api.specs.Points.{Point, point_of}
use Rattle.cts_api.specs.Replies.{IsReplyFor, Reply, made, parse_error, text_of}
use Rattle.cts_api.specs.Shown.{text, decimal, list, whole, no_such, not_done}

abbrev pub wide : ℤ → ℤ → ℤ → ℤ → Limits
wide a b c d = record {
  red_low = record { parts = a };
  yellow_low = record { parts = b };
  yellow_high = record { parts = c };
  red_high = record { parts = d };
  green = None;
}

abbrev pub temp1 : ItemData
temp1 = record {
  name = codes "TEMP1";
  kind = Uint;
  offset = pos 0;
  size = pos 16;
  order = Big;
  id = None;
  range = None;
  preset = preset.Whole (pos 0);
  states = [];
  conversion = Plain;
  limits = Some (record {
    sets = (codes "DEFAULT", wide (pos 1000000000000) (pos 2000000000000) (pos 3000000000000) (pos 4500000000000)) ∷ [];
    persistence = 1;
    enabled = true;
  });
  units = None;
  format = None;
  required = false;
  overflow = Error;
}

abbrev pub health : PacketData
health = record { target = codes "INST"; name = codes "HS"; items = temp1 ∷ []; length = 2; variable = false; hazardous = false }

abbrev pub collect : PacketData
collect = record { target = codes "INST"; name = codes "COLLECT"; items = []; length = 2; variable = false; hazardous = false }

abbrev pub inst_int : InterfaceData
inst_int = record {
  name = codes "INST_INT";
  aim_host = codes "h";
  port = 1;
  serves = false;
  targets = codes "INST" ∷ [];
  chain = [];
  reconnect = true;
  delay = record { parts = pos 0 };
  logged = true;
}

abbrev pub site : SiteData
site = record {
  definitions = record { telemetry = health ∷ []; commands = collect ∷ []; set_names = codes "DEFAULT" ∷ [] };
  interfaces = inst_int ∷ [];
  routers = [];
  api_port = 7777;
  desks = 1;
  log_layout = 2;
  log_cycle = None;
}

abbrev pub at_rest : Time
at_rest = record { seconds = 0; micros = 0 }

abbrev pub basis : Basis
basis = record { site = site; entries = 8; bytes = 100 }

-- at the beginning, and after a Stop
abbrev pub point : Point
point = point_of basis []

abbrev pub after_stop : Point
after_stop = point_of basis (made 24 at_rest Stop ∷ [])

-- what the params of a method ask, and its answer
abbrev pub asked : List ℕ → List Data → Option Asking
asked m ds = option_and_then (λ (found : Method). params_of found ds) (method_named m)

abbrev pub ask : List ℕ → List Data → Option (Said Done)
ask m ds = option_map (answer point None) (asked m ds)

abbrev pub temp1_named : List Data → List Data
temp1_named more = string (codes "inst") ∷ string (codes "HS") ∷ string (codes "Temp1") ∷ more

abbrev pub limits_given : List Data → List Data
limits_given more = number (negative (neg_ℤ (pos 80))) ∷ number (negative (neg_ℤ (pos 70))) ∷ whole 60 ∷ whole 80 ∷ more

-- the current set, told to the id "a"
abbrev pub the_set : Reply
the_set = record { response = Some (result_reply (string (codes "a")) (text (codes "DEFAULT"))); entries = [] }

pub record RowsHold : Type 0 where
  pub set : ask (codes "get_limits_set") [] ≡ Some (told (gives (text (codes "DEFAULT"))))
  pub set_with_a_param : asked (codes "get_limits_set") (null ∷ []) ≡ None
  pub name_in_another_case : method_named (codes "TLM") ≡ None
  pub one_text : asked (codes "tlm_raw") (string (codes " inst\tHS  TEMP1 ") ∷ []) ≡ asked (codes "tlm_raw")
      (string (codes "inst") ∷ string (codes "HS") ∷ string (codes "TEMP1") ∷ [])
  pub two_words : asked (codes "tlm") (string (codes "INST HS") ∷ []) ≡ None
  pub one_text_for_limits : asked (codes "get_limits") (string (codes "INST HS TEMP1") ∷ []) ≡ None
  pub never_received : ask (codes "tlm") (temp1_named []) ≡ Some (no_such (codes "Never received"))
  pub packet : ask (codes "get_tlm_packet") (string (codes "INST") ∷ string (codes "HS") ∷ []) ≡ Some (no_such (codes "Never received"))
  pub packet_kind : asked (codes "get_tlm_packet") (string (codes "INST") ∷ string (codes "HS") ∷ string (codes "raw") ∷ []) ≡ None
  pub unknown_count : ask (codes "get_tlm_cnt") (string (codes "UNKNOWN") ∷ string (codes "unknown") ∷ []) ≡ Some (told (gives (whole 0)))
  pub unknown_packet : ask (codes "get_tlm_cnt") (string (codes "UNKNOWN") ∷ string (codes "HS") ∷ []) ≡ Some (no_such (codes "Unknown packet"))
  pub command_count : ask (codes "get_cmd_cnt") (string (codes "INST") ∷ string (codes "collect") ∷ []) ≡ Some (told (gives (whole 0)))
  pub no_command_count : ask (codes "get_cmd_cnt") (string (codes "INST") ∷ string (codes "HS") ∷ []) ≡ Some (no_such (codes "Unknown packet"))
  pub no_unknown_command : ask (codes "get_cmd_cnt") (string (codes "UNKNOWN") ∷ string (codes "UNKNOWN") ∷ []) ≡ Some (no_such (codes "Unknown target"))
  pub new_limits : ask (codes "set_limits") (temp1_named (limits_given []))
      ≡ Some (appended (gives (SetLimits true 0 0 1 (codes "CUSTOM")
      (wide (neg_ℤ (pos 80000000000000)) (neg_ℤ (pos 70000000000000)) (pos 60000000000000) (pos 80000000000000)))))
  pub eight_params : asked (codes "set_limits") (temp1_named (limits_given (whole 1 ∷ []))) ≡ None
  pub no_green : asked (codes "set_limits") (temp1_named (limits_given (null ∷ null ∷ []))) ≡ None
  pub no_persistence : asked (codes "set_limits") (temp1_named (limits_given (whole 1 ∷ whole 2 ∷ string (codes "TVAC") ∷ whole 0 ∷ []))) ≡ None
  pub no_name_as_set : ask (codes "set_limits") (temp1_named
      (limits_given (whole 1 ∷ whole 2 ∷ string (codes "T-VAC") ∷ whole 2 ∷ boolean false ∷ []))) ≡ Some (no_such (codes "Unknown limits set"))
  pub order : ask (codes "set_limits") (temp1_named (whole 2 ∷ whole 1 ∷ whole 60 ∷ whole 80 ∷ [])) ≡ Some (not_done (codes "Limits order"))
  pub unknown_item_first : ask (codes "set_limits") (string (codes "INST") ∷ string (codes "HS") ∷ string (codes "RECEIVED_COUNT") ∷ whole 2 ∷ whole 1
      ∷ whole 60 ∷ whole 80 ∷ []) ≡ Some (no_such (codes "Unknown item"))
  pub limits : ask (codes "get_limits") (temp1_named []) ≡ Some (told
      (gives (list (text (codes "DEFAULT") ∷ whole 1 ∷ boolean true ∷ decimal (record { parts = pos 1000000000000 }) ∷ decimal
      (record { parts = pos 2000000000000 }) ∷ decimal (record { parts = pos 3000000000000 }) ∷ decimal (record { parts = pos 4500000000000 }) ∷ null
      ∷ null ∷ []))))
  pub disabled : ask (codes "disable_limits") (temp1_named []) ≡ Some (appended (gives (Enable 0 0 false)))
  pub unknown_set : ask (codes "set_limits_set") (string (codes "TVAC") ∷ []) ≡ Some (no_such (codes "Unknown limits set"))
  pub chosen_set : ask (codes "set_limits_set") (string (codes "default") ∷ []) ≡ Some (appended (gives (LimitsSetIs (codes "DEFAULT"))))
  pub events_from : asked (codes "get_limits_events") (number (negative (neg_ℤ (pos 1))) ∷ []) ≡ None
  pub interface : ask (codes "interface_state") (string (codes "inst_int") ∷ []) ≡ Some (told (gives (text (codes "DISCONNECTED"))))
  pub no_interface : ask (codes "interface_state") (string (codes "INT") ∷ []) ≡ Some (no_such (codes "Unknown interface"))
  pub interfaces : ask (codes "get_interface_names") [] ≡ Some (told (gives (list (text (codes "INST_INT") ∷ []))))
  pub not_connected : answer point (Some (record { target = codes "inst"; command = codes "collect"; params = [] }))
      (sends (record { range = true; hazardous = true }) (in_text [])) ≡ not_done (codes "Not connected: INST_INT")
  pub injected_object : asked (codes "inject_tlm") (string (codes "INST") ∷ string (codes "HS") ∷ []) ≡ None
  pub stop : ask (codes "stop_server") [] ≡ Some (appended (gives Stop))
  pub stopped : answer after_stop None stops ≡ told (gives null)
  pub method_without_id : IsReplyFor point 24 at_rest (calls (codes "no such") no_items None) (record { response = None; entries = [] })
  pub stop_without_id : IsReplyFor point 24 at_rest (calls (codes "stop_server") no_items None)
      (record { response = None; entries = record { by = 24; time = at_rest; what = Stop } ∷ [] })
  pub set_text : IsReplyFor point 24 at_rest (calls (codes "get_limits_set") no_items (Some (string (codes "a")))) the_set
  pub text_of_set : text_of the_set ≡ Some (codes "{\"id\":\"a\",\"jsonrpc\":\"2.0\",\"result\":\"DEFAULT\"}")
  pub text_of_parse_error : text_of parse_error ≡ Some (codes
      "{\"error\":{\"code\":" ++ (signed_decimal (neg_ℤ (pos 32700)) ++ codes ",\"message\":\"Parse error\"},\"id\":null,\"jsonrpc\":\"2.0\"}"))
