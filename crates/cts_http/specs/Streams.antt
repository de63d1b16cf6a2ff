-- What is put on a connection for the requests in its bytes.
use Rattle.std.specs.Prelude.{◌≡◌, ℕ, List, [], ◌∷◌, ◌++◌, length, Option, Some, None}
use Rattle.cts_http.specs.Texts.{response_text, refusal_text}
use Rattle.cts_http.specs.Requests.{Requests, Ending, Closed, Waiting, Refused}

-- a response with the front from which it answers: its head and its text, or the head alone of one without a text
abbrev pub response_with : ℕ → Option (List ℕ) → List ℕ
response_with front (Some text) = response_text front (Some (length text)) ++ text
response_with front None = response_text front None

-- the responses in order, one of each front and text
abbrev pub responses : List ℕ → List (Option (List ℕ)) → List ℕ
responses [] texts = []
responses (front ∷ fronts) [] = []
responses (front ∷ fronts) (text ∷ texts) = response_with front text ++ responses fronts texts

-- what is put after the responses: the refusal, where the rest is refused
abbrev pub ending_text : Ending → List ℕ
ending_text Closed = []
ending_text (Waiting left) = []
ending_text (Refused status) = refusal_text status

-- requests with the bodies and the ending have as many responses, with the fronts and texts, and then the refusal
pub record AreAnswered (bodies : List (List ℕ)) (ending : Ending) (fronts : List ℕ) (texts : List (Option (List ℕ))) (put : List ℕ) : Type 0 where
  pub fronts_fit : length fronts ≡ length bodies
  pub texts_fit : length texts ≡ length bodies
  pub put_is : put ≡ responses fronts texts ++ ending_text ending

-- The stream of the bytes of a connection, where its requests are answered from the fronts with the texts (a text, or none
-- for a notification): the responses in order, then the refusal.
abbrev pub Stream : List ℕ → List ℕ → List (Option (List ℕ)) → List ℕ → Type 0
Stream b fronts texts put =
    (bodies : List (List ℕ)) × (ending : Ending) × Requests b bodies ending × AreAnswered bodies ending fronts texts put
