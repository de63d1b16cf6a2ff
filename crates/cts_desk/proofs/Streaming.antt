-- The stream of a connection, of its exchanges.
use Rattle.std.proofs.Common.{◌≡◌, false, List, [], ◌∷◌, ◌++◌, length, suc, refl, ap, ◌∙◌, subst}
use Rattle.std.specs.List.{concat}
use Rattle.cts_outside.specs.Lines.{Connection}
use Rattle.cts_http.specs.Requests.{Ending, Requests, Closed, Waiting, Refused as RefusedWith}
use Rattle.cts_http.specs.Streams.{Stream, ending_text, responses as responses_of}
use Rattle.cts_desk.specs.Exchanges.{Exchange, bodies_of, fronts_of}
use Rattle.cts_desk.specs.Laws.{StreamsArePut, texts_of}
use Rattle.cts_desk.specs.Streams.{PeerEnded, ReadFault, WriteFault, LastAsked, Refused, NoMemory, Stopped, IsPut, responses, response_to}

responses_same : (xs : List Exchange) → responses xs ≡ responses_of (fronts_of xs) (texts_of xs)
responses_same [] = refl
responses_same (x ∷ xs) = ap (λ l. response_to x ++ l) (responses_same xs)

fronts_fit : (xs : List Exchange) → length (fronts_of xs) ≡ length (bodies_of xs)
fronts_fit [] = refl
fronts_fit (x ∷ xs) = ap (λ n. suc n) (fronts_fit xs)

texts_fit : (xs : List Exchange) → length (texts_of xs) ≡ length (bodies_of xs)
texts_fit [] = refl
texts_fit (x ∷ xs) = ap (λ n. suc n) (texts_fit xs)

streams : (ending : Ending) (c : Connection) (xs : List Exchange) → Requests (concat c.pieces) (bodies_of xs) ending → IsPut c.put_failed c.put (responses xs ++ ending_text ending) → c.put_failed ≡ false
    → Stream (concat c.pieces) (fronts_of xs) (texts_of xs) c.put
streams ending c xs asked put whole = (
  bodies_of xs,
  ending,
  asked,
  record { fronts_fit = fronts_fit xs; texts_fit = texts_fit xs; put_is = subst (λ b. IsPut b c.put (responses xs ++ ending_text ending)) whole put ∙ ap (λ l. l ++ ending_text ending) (responses_same xs) },
)

pub streams_are_put : StreamsArePut
streams_are_put PeerEnded front c xs s is whole = streams (Waiting s.asked.0) c xs s.asked.1 s.put whole
streams_are_put ReadFault front c xs s is whole = streams (Waiting s.asked.0) c xs s.asked.1 s.put whole
streams_are_put WriteFault front c xs s is whole = absurd (cc is)
streams_are_put LastAsked front c xs s is whole = streams Closed c xs s.asked s.put whole
streams_are_put (Refused status) front c xs s is whole = streams (RefusedWith status) c xs s.asked s.put whole
streams_are_put NoMemory front c xs s is whole = absurd (cc is)
streams_are_put Stopped front c xs s is whole = streams (Waiting s.asked.0) c xs s.asked.1 s.put whole
