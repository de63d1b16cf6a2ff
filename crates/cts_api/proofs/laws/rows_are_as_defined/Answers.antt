use Rattle.std.proofs.Common.{◌≡◌, ◌∙◌, ℕ, List, ◌++◌, [], Option, Some, None, pos, neg_ℤ, codes, refl, sym, ap, append_assoc}
use Rattle.std.specs.Fmt.{signed_decimal}
use Rattle.std.specs.Str.Lossy.{utf8_lossy}
use Rattle.cts_api.proofs.TextLemmas.{ascii_is_kept}
use Rattle.serde_json.specs.Data.{null, string}
use Rattle.serde_json.specs.Written.{compact_text}
use Rattle.cts_rpc.specs.Replies.{error_reply, result_reply}
use Rattle.cts_api.specs.Replies.{Reply, text_of}
use Rattle.serde_json.proofs.OnLiterals.{serde_json_on_literals}
use Rattle.cts_api.proofs.laws.rows_are_as_defined.Goals as goal

-- the text of an error with this message
abbrev parse_error_with : List ℕ → Option (List ℕ)
parse_error_with m = Some (compact_text (error_reply null (neg_ℤ (pos 32700)) m))

-- the response, and its text, with this text as its result
abbrev set_reply : List ℕ → Reply
set_reply t = record { response = Some (result_reply (string (codes "a")) (string t)); entries = [] }

set_is_text : codes "DEFAULT" ≡ utf8_lossy (codes "DEFAULT")
set_is_text = sym (ascii_is_kept (codes "DEFAULT") refl)

parse_error_is_text : utf8_lossy (codes "Parse error") ≡ codes "Parse error"
parse_error_is_text = ascii_is_kept (codes "Parse error") refl

pub returns : goal.returns
unfolding serde_json_on_literals
returns c = record {
  set = refl;
  set_with_a_param = refl;
  name_in_another_case = refl;
  one_text = refl;
  two_words = refl;
  one_text_for_limits = refl;
  never_received = refl;
  packet = refl;
  packet_kind = refl;
  unknown_count = refl;
  unknown_packet = refl;
  command_count = refl;
  no_command_count = refl;
  no_unknown_command = refl;
  new_limits = refl;
  eight_params = refl;
  no_green = refl;
  no_persistence = refl;
  no_name_as_set = refl;
  order = refl;
  unknown_item_first = refl;
  limits = refl;
  disabled = refl;
  unknown_set = refl;
  chosen_set = refl;
  events_from = refl;
  interface = refl;
  no_interface = refl;
  interfaces = refl;
  not_connected = refl;
  injected_object = refl;
  stop = refl;
  stopped = refl;
  method_without_id = refl;
  stop_without_id = (None, refl, refl);
  set_text = (None, refl, refl);
  text_of_set = sym (ap (λ t. text_of (set_reply t)) set_is_text);
  text_of_parse_error = ap parse_error_with parse_error_is_text ∙ ap (λ t. Some (codes "{\"error\":{\"code\":" ++ t)) (append_assoc (signed_decimal (neg_ℤ (pos 32700))) (codes ",\"message\":\"Parse error\"}") (codes ",\"id\":null,\"jsonrpc\":\"2.0\"}"));
}
