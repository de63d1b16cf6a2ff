-- What the look-ups and changes of the code answer, as the definitions say it.
use Rattle.std.specs.Prelude.{◌≡◌, List, [], ◌∷◌, Option, Some, None, Result, Ok, Err}
use Rattle.cts_cmd.specs.Builds.{IsBuilt}
use Rattle.cts_cmd.specs.Checks.{refusal}
use Rattle.cts_cmd.specs.Refusals.{refusal_text}
use Rattle.cts_cmd.specs.declared.built.Built.{Built}
use Rattle.cts_cmd.specs.declared.refused.Refused.{Refused}
use Rattle.cts_cmd.specs.declared.request.Checks.{Checks}
use Rattle.cts_cmd.specs.declared.request.Request.{Request}
use Rattle.cts_def.specs.Packets.{DefinitionsData}
use Rattle.cts_entry.specs.declared.what.What.{What}
use Rattle.cts_table.specs.States.{Shown}
use Rattle.cts_api.specs.declared.naming.ItemPlace.{ItemPlace}
use Rattle.cts_api.specs.declared.refusal.Missing.{Missing}
use Rattle.cts_api.specs.declared.refusal.Refusal.{Refusal}
use Rattle.cts_api.specs.declared.refusal.Refusal.TheVariants.{NoSuch, NotDone, BadParams, Memory}
use Rattle.serde_json.specs.View.{view}
use Rattle.cts_api.specs.declared.sending.Done as code
use Rattle.cts_api.specs.Answers.{Done, ItemAt}
use Rattle.cts_methods.specs.Asking.{Order}
use Rattle.cts_api.specs.Saying.{Said, gives}
use Rattle.cts_api.specs.Points.{Point, point_of}
use Rattle.cts_api.specs.Replies.{IsRequested, posted}
use Rattle.cts_api.specs.Shown.{no_such, not_done, bad_params}

-- the point after all entries of a hall
abbrev pub point : Shown → Point
point hall = point_of hall.basis hall.entries

abbrev pub item_place : ItemPlace → ItemAt
item_place p = record { packet = p.packet; of = p.of.now; item = p.item; it = p.it.now }

-- The refusal is what is said. Memory stands beside each answer.
abbrev pub IsRefused : {A : Type 0} → Refusal → Said A → Type 0
IsRefused (NoSuch message) said = said ≡ no_such message.now
IsRefused (NotDone message) said = said ≡ not_done message
IsRefused BadParams said = said ≡ bad_params
IsRefused Memory said = Unit {0}

-- The answer, seen by view, is what is said.
abbrev pub Tells : {A B : Type 0} → (B → A) → Result B Refusal → Said A → Type 0
Tells view (Ok b) said = said ≡ gives (view b)
Tells view (Err e) said = IsRefused e said

-- The same of an answer for which no memory is taken.
abbrev pub Finds : {A B : Type 0} → (B → A) → Result B Missing → Said A → Type 0
Finds view (Ok b) said = said ≡ gives (view b)
Finds view (Err e) said = said ≡ no_such e.message.now

-- it is no want of memory
abbrev pub IsFree : {A : Type 0} → Result A Refusal → Type 0
IsFree (Err Memory) = ⊥
IsFree _ = Unit {0}

-- The request of an order, or BadParams where its text asks for nothing.
abbrev pub IsRequestOf : Order → Result Request Refusal → Type 0
IsRequestOf order (Ok r) = IsRequested order (Some r)
IsRequestOf order (Err BadParams) = IsRequested order None
IsRequestOf order (Err Memory) = Unit {0}
IsRequestOf order (Err e) = ⊥

-- The command of the request, at which no check fails; or what is said of the first that does.
abbrev pub IsChecked : DefinitionsData → Checks → Request → Result Built Refusal → Type 0
IsChecked d k r (Ok b) = (refusal d r k ≡ None) × IsBuilt d r b
IsChecked d k r (Err (NotDone message)) = (e : Refused) × (refusal d r k ≡ Some e) × (message ≡ refusal_text e)
IsChecked d k r (Err Memory) = Unit {0}
IsChecked d k r (Err e) = ⊥

abbrev pub listed : Option What → List What
listed None = []
listed (Some what) = what ∷ []

-- What is answered and appended is what is said.
abbrev pub IsDoneBy : Point → Said Done → Result code.Done Refusal → Type 0
IsDoneBy h said (Ok done) = (d : Done) × (said ≡ gives d) × (view done.result ≡ d.result) × (posted h d.posting ≡ listed done.what)
IsDoneBy h said (Err e) = IsRefused e said
