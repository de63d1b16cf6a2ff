use Rattle.std.proofs.Common.{◌≡◌, ◌∙◌, ℕ, List, Option, Some, pos, neg_ℤ, codes, refl, ap}
use Rattle.std.specs.Fmt.{digits}
use Rattle.std.specs.Str.Lossy.{utf8_lossy}
use Rattle.cts_api.proofs.TextLemmas.{ascii_is_kept}
use Rattle.serde_json.specs.Data.{null}
use Rattle.serde_json.specs.Written.{compact_text}
use Rattle.serde_json.proofs.OnLiterals.{serde_json_on_literals}
use Rattle.cts_rpc.specs.Replies.{error_reply}
use Rattle.cts_desk.specs.Exchanges.{out_of_memory}
use Rattle.cts_desk.proofs.laws.out_of_memory_is_told.Goals as goal

-- the text of the error with this message
abbrev text_with : List ℕ → Option (List ℕ)
text_with m = Some (compact_text (error_reply null (neg_ℤ (pos 32004)) m))

message_is_text : utf8_lossy (codes "Out of memory") ≡ codes "Out of memory"
message_is_text = ascii_is_kept (codes "Out of memory") refl

is_text : text_with (codes "Out of memory") ≡ Some out_of_memory
unfolding serde_json_on_literals digits out_of_memory
is_text = refl

pub returns : goal.returns
returns c = ap text_with message_is_text ∙ is_text
