-- A response to an id without a fraction has no number with one, so it has one text.
use Rattle.std.proofs.Common.{◌≡◌, ℕ, ℤ, pos, negsuc, Bool, true, false, ◌||◌, List, Option, Some, None, refl, sym, ap, subst}
use Rattle.std.specs.Prelude.{codes, if◌then◌else◌, map, neg_ℤ, option_map}
use Rattle.cts_def.specs.declared.time.Time.{Time}
use Rattle.cts_entry.specs.declared.entry.Entry.{Entry}
use Rattle.cts_rpc.specs.Replies.{result_reply}
use Rattle.cts_rpc.specs.Requests.{has_fraction}
use Rattle.serde_json.specs.Data.{Data}
use Rattle.serde_json.specs.Find.{is_float, of_integer}
use Rattle.serde_json.specs.Written.{compact_text, has_float}
use Rattle.cts_methods.specs.declared.method.Method.{Method}
use Rattle.cts_api.specs.Answers.{Done, answer}
use Rattle.cts_methods.specs.Asking.{Asking}
use Rattle.cts_api.specs.Saying.{Said, gives, refused}
use Rattle.cts_methods.specs.Methods.{params_of}
use Rattle.cts_api.specs.Points.{Point}
use Rattle.cts_api.specs.Replies.{IsReplyOf, IsReplyTo, IsTextFor, Reply, done_reply, error, fit, history_full, made, posted, refusal_to, respond, said_to}
use Rattle.cts_api.proofs.WholeAnswers.{answers_whole}

abbrev pub IsWhole : Option Data → Type 0
IsWhole None = Unit {0}
IsWhole (Some d) = has_float d ≡ false

-- what is whole has the one text
pub exact_text : (response : Option Data) (text : Option (List ℕ)) → IsWhole response → IsTextFor response text → text ≡ option_map compact_text response
exact_text None text whole is = is
exact_text (Some d) None whole is = absurd is
exact_text (Some d) (Some text) whole is = ap (λ (t : List ℕ). Some t) (is.exact whole)

code_whole : (z : ℤ) → is_float (of_integer z) ≡ false
code_whole (pos n) = refl
code_whole (negsuc n) = refl

error_members : (code id : Bool) → code ≡ false → id ≡ false → ((code || (false || false)) || (id || (false || false))) ≡ false
error_members true id x y = absurd cc
error_members false true x y = absurd cc
error_members false false x y = refl

result_members : (id value : Bool) → id ≡ false → value ≡ false → (id || (false || (value || false))) ≡ false
result_members true value x y = absurd cc
result_members false true x y = absurd cc
result_members false false x y = refl

respond_whole : (id : Option Data) (said : Data → Data) → has_fraction id ≡ false → ((i : Data) → has_float i ≡ false → has_float (said i) ≡ false) → IsWhole (respond id said)
respond_whole None said fine all = tt
respond_whole (Some i) said fine all = all i fine

pub refusal_whole : (id : Option Data) (code : ℤ) (message : List ℕ) → has_fraction id ≡ false → IsWhole (refusal_to id code message).response
refusal_whole id code message fine = respond_whole id (error code message) fine (λ i whole. error_members (is_float (of_integer code)) (has_float i) (code_whole code) whole)

module _ (h : Point) (by : ℕ) (time : Time) (id : Option Data) (fine : has_fraction id ≡ false) where
  with_whole : (result : Data) (entries : List Entry) (room : Bool) → has_float result ≡ false → IsWhole (if room then done_reply id result entries else history_full id).response
  with_whole result entries true whole = respond_whole id (λ i. result_reply i result) fine (λ i is. result_members (has_float i) (has_float result) is whole)
  with_whole result entries false whole = refusal_whole id (neg_ℤ (pos 32003)) (codes "History full") fine

  said_whole : (said : Said Done) → ((d : Done) → said ≡ gives d → has_float d.result ≡ false) → IsWhole (said_to h by time id said).response
  said_whole (refused code message) all = refusal_whole id code message fine
  said_whole (gives d) all = with_whole d.result (map (made by time) (posted h d.posting)) (fit h (map (made by time) (posted h d.posting))) (all d refl)

  like_whole : (a b : Reply) → a ≡ b → IsWhole b.response → IsWhole a.response
  like_whole a b same whole = subst (λ (x : Reply). IsWhole x.response) (sym same) whole

  to_whole : (asked : Option Asking) (a : Reply) → IsReplyTo h by time id asked a → IsWhole a.response
  to_whole None a is = like_whole a _ is (refusal_whole id (neg_ℤ (pos 32602)) (codes "Invalid params") fine)
  to_whole (Some asking) a (r, has, is) = like_whole a _ is (said_whole (answer h r asking) (answers_whole h r asking))

  pub reply_whole : (params : List Data) (m : Option Method) (a : Reply) → IsReplyOf h by time id params m a → IsWhole a.response
  reply_whole params None a is = like_whole a _ is (refusal_whole id (neg_ℤ (pos 32601)) (codes "Method not found") fine)
  reply_whole params (Some m) a is = to_whole (params_of m params) a is
