-- What the replies of a desk that reads from a snapshot are of.
use Rattle.std.specs.Prelude.{◌≡◌, ℕ, ◌≤◌, ◌⊎◌, true, Bool, List, [], ◌++◌, ◌∷◌, length, take, Some}
use Rattle.cts_def.specs.declared.time.Time.{Time}
use Rattle.cts_entry.specs.declared.entry.Entry.{Entry}
use Rattle.cts_table.specs.declared.basis.Basis.{Basis}
use Rattle.cts_turn.specs.Lists.{climbs}
use Rattle.cts_api.specs.Points.{point_of}
use Rattle.cts_api.specs.Replies.{IsReply, Reply, text_of}
use Rattle.cts_desk.specs.Exchanges.{Exchange, IsAnswered, fronts_of, out_of_memory}
use Rattle.cts_snap_desk.specs.Given.{Given, ByHold, ByRead, Lacks, exchanges_of}

-- The text is that of the definition's reply over the first entries of this list, as many as the front says; and so many stand there.
pub record IsOver (b : Basis) (by : ℕ) (list : List Entry) (x : Exchange) : Type 0 where
  pub within : x.front ≤ length list
  pub time : Time
  pub reply : Reply
  pub is : IsReply (point_of b (take x.front list)) by time x.body reply
  pub text : x.text ≡ text_of reply

-- it says that no memory was found
abbrev pub IsLacking : Exchange → Type 0
IsLacking x = x.text ≡ Some out_of_memory

-- What was given in holds is over the history, and what was read is over this list; and want of memory says so.
abbrev pub AreOver : Basis → ℕ → List Entry → List Entry → List Given → Type 0
AreOver b by history list [] = Unit {0}
AreOver b by history list (ByHold x ∷ gs) = (IsOver b by history x ⊎ IsLacking x) × AreOver b by history list gs
AreOver b by history list (ByRead x ∷ gs) = IsOver b by list x × AreOver b by history list gs
AreOver b by history list (Lacks x ∷ gs) = IsLacking x × AreOver b by history list gs

-- each of these is over no fewer entries, but where it says that no memory was found
abbrev pub AreFrom : ℕ → List Given → Type 0
AreFrom n [] = Unit {0}
AreFrom n (ByHold x ∷ gs) = (n ≤ x.front) × AreFrom n gs
AreFrom n (ByRead x ∷ gs) = (n ≤ x.front) × AreFrom n gs
AreFrom n (Lacks x ∷ gs) = AreFrom n gs

-- What was given in a hold stands in the history with the entries that it appended, and all later replies are over no fewer entries.
abbrev pub StandsBefore : Basis → ℕ → List Entry → Exchange → List Given → Type 0
StandsBefore b by history x later = (before : List Entry) × (added : List Entry) × (others : List Entry) × (history ≡ before ++ (added ++ others))
    × (x.front ≡ length before) × IsAnswered b by before x added × AreFrom (length (before ++ added)) later

-- So a desk reads back what it appended.
abbrev pub AreReadBack : Basis → ℕ → List Entry → List Given → Type 0
AreReadBack b by history [] = Unit {0}
AreReadBack b by history (ByHold x ∷ gs) = StandsBefore b by history x gs × AreReadBack b by history gs
AreReadBack b by history (ByRead x ∷ gs) = AreReadBack b by history gs
AreReadBack b by history (Lacks x ∷ gs) = AreReadBack b by history gs

-- The replies of a desk over the one history: what it read is over its reader's list, and over the history where the reader was tied. No
-- front is below one before it.
pub record AreOfHistory (b : Basis) (by : ℕ) (history list : List Entry) (tied : Bool) (given : List Given) : Type 0 where
  pub over : AreOver b by history list given
  pub tied_over : tied ≡ true → AreOver b by history history given
  pub read_back : AreReadBack b by history given
  pub rising : (most : ℕ) × (climbs 0 (fronts_of (exchanges_of given)) most ≡ true)

-- What the notes of a desk say of its replies: these fronts are those of replies that are of the history.
abbrev pub AnswersSo : Basis → ℕ → List Entry → List Entry → Bool → List ℕ → Type 0
AnswersSo b by history list tied fronts = (given : List Given) × (fronts ≡ fronts_of (exchanges_of given)) × AreOfHistory b by history list tied given
