-- What a desk replies, at points of the history.
use Rattle.std.specs.Prelude.{◌≡◌, ℕ, ◌⊎◌, List, [], ◌∷◌, ◌++◌, length, map, codes, Option, Some}
use Rattle.cts_def.specs.declared.time.Time.{Time}
use Rattle.cts_entry.specs.declared.entry.Entry.{Entry}
use Rattle.cts_table.specs.declared.basis.Basis.{Basis}
use Rattle.cts_trace.specs.Makers.{of_maker}
use Rattle.cts_api.specs.Points.{point_of}
use Rattle.cts_api.specs.Replies.{Reply, IsReply, text_of}

-- a request's body, how many entries stood at the beginning of its hold, and the text of its response, or none
pub record Exchange : Type 0 where
  pub body : List ℕ
  pub front : ℕ
  pub text : Option (List ℕ)

-- what is said where no memory was found
unfoldable pub out_of_memory : List ℕ
out_of_memory = codes "{\"error\":{\"code\":-32004,\"message\":\"Out of memory\"},\"id\":null,\"jsonrpc\":\"2.0\"}"

-- the reply after the entries of before, with all that it appends
pub record Replies (b : Basis) (by : ℕ) (before : List Entry) (x : Exchange) (added : List Entry) : Type 0 where
  pub time : Time
  pub reply : Reply
  pub is : IsReply (point_of b before) by time x.body reply
  pub text : x.text ≡ text_of reply
  pub entries : added ≡ reply.entries

-- or want of memory, with nothing appended
abbrev pub IsAnswered : Basis → ℕ → List Entry → Exchange → List Entry → Type 0
IsAnswered b by before x added = Replies b by before x added ⊎ ((x.text ≡ Some out_of_memory) × (added ≡ []))

-- After the entries of before, rest has what the desk appended for the requests, one after another, with entries of others
-- between, and then those of last; and nothing else of the desk.
abbrev pub Exchanges : Basis → ℕ → List Entry → List Exchange → List Entry → List Entry → Type 0
Exchanges b by before [] last rest = of_maker by rest ≡ last
Exchanges b by before (x ∷ xs) last rest =
    (gap : List Entry) × (added : List Entry) × (later : List Entry) × (rest ≡ gap ++ (added ++ later)) × (of_maker by gap ≡ [])
    × (x.front ≡ length (before ++ gap)) × IsAnswered b by (before ++ gap) x added × Exchanges b by (before ++ (gap ++ added)) xs last later

abbrev pub fronts_of : List Exchange → List ℕ
fronts_of xs = map (λ (x : Exchange). x.front) xs

abbrev pub bodies_of : List Exchange → List (List ℕ)
bodies_of xs = map (λ (x : Exchange). x.body) xs

-- the numbers stand among others, in order
abbrev pub Among : List ℕ → List ℕ → Type 0
Among [] ys = Unit {0}
Among (x ∷ xs) ys = (earlier : List ℕ) × (later : List ℕ) × (ys ≡ earlier ++ x ∷ later) × Among xs later
