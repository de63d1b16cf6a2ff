-- Laws of what a desk says and puts.
use Rattle.std.specs.Prelude.{◌≡◌, ℕ, Bool, true, false, List, map, neg_ℤ, pos, codes, Option, Some}
use Rattle.std.specs.List.{concat}
use Rattle.serde_json.specs.Data.{null}
use Rattle.cts_api.specs.Replies.{refusal_to, text_of}
use Rattle.cts_outside.specs.Lines.{Connection}
use Rattle.cts_http.specs.Streams.{Stream}
use Rattle.cts_desk.specs.Exchanges.{Exchange, fronts_of, out_of_memory}
use Rattle.cts_desk.specs.Streams.{Cut, PeerEnded, ReadFault, WriteFault, LastAsked, Refused, NoMemory, Stopped, Served}

-- The text for want of memory is that of the reply with this error and no known id.
abbrev pub OutOfMemoryIsTold : Type 0
OutOfMemoryIsTold = text_of (refusal_to (Some null) (neg_ℤ (pos 32004)) (codes "Out of memory")) ≡ Some out_of_memory

abbrev pub texts_of : List Exchange → List (Option (List ℕ))
texts_of xs = map (λ (x : Exchange). x.text) xs

-- all requests in the bytes are answered where a connection comes to this end
abbrev pub answers_all : Cut → Bool
answers_all PeerEnded = true
answers_all ReadFault = true
answers_all WriteFault = false
answers_all LastAsked = true
answers_all (Refused status) = true
answers_all NoMemory = false
answers_all Stopped = true

-- What is put on a connection is the stream of the bytes that were taken, where no put failed and memory was found.
abbrev pub StreamsArePut : Type 0
StreamsArePut = (cut : Cut) (front : ℕ) (c : Connection) (xs : List Exchange) → Served cut front c xs → answers_all cut ≡ true → c.put_failed ≡ false
    → Stream (concat c.pieces) (fronts_of xs) (texts_of xs) c.put
