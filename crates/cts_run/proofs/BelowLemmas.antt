-- What was put of the world below.
use Rattle.std.proofs.Common.{◌≡◌, ◌≤◌, ℕ, Bool, true, false, List, [], ◌∷◌, ◌++◌, length, Result, Ok, Err, sym, ◌∙◌, ap, subst}
use Rattle.std.proofs.lemmas.List.{append-nil}
use Rattle.cts_core.specs.Endings.{held_in}
use Rattle.cts_core.specs.Environments.{site_environment}
use Rattle.cts_core.specs.Runs.{Runs}
use Rattle.cts_core.specs.States.{opening}
use Rattle.cts_core_laws.specs.Told.{history_of}
use Rattle.cts_def.specs.Sites.{SiteData}
use Rattle.cts_entry.specs.declared.entry.Entry.{Entry}
use Rattle.cts_entry.specs.declared.event.Event.{Event}
use Rattle.cts_entry.specs.declared.event.Event.TheVariants.{Finish, Opens}
use Rattle.cts_entry.specs.declared.why.Why.TheVariants.{PeerEnded}
use Rattle.cts_outside.specs.Seen.{SinkSeen, VaultSeen}
use Rattle.cts_run.specs.Acts.{Act, DoesAll, Outside, outside, puts}
use Rattle.cts_run.specs.Causes.{put_answer}
use Rattle.cts_run.specs.Hub.{BringsBytes, BringsPieces, EndsBelow}
use Rattle.cts_run.specs.Lines.{end_line}
use Rattle.cts_run.specs.Play.{IsPlaying, Stops, play_acts, text_acts}
use Rattle.cts_run.specs.Putting.{PutsText}
use Rattle.cts_run.specs.Story.{Stands, StoryData}
use Rattle.cts_run.specs.declared.halt.Halt.{Halt}
use Rattle.cts_run.specs.declared.halt.Halt.TheVariants as halt
use Rattle.cts_run.specs.declared.hub.ends.Ends.{Ends}
use Rattle.cts_run.specs.declared.putting.Undone.{Undone}
use Rattle.cts_run.proofs.ActLemmas.{all_of, all_then, put_done}
use Rattle.cts_run.proofs.EventLemmas.{some_pieces}
use Rattle.cts_run.proofs.PlayLemmas.{begun, ended, halt_does, stops_on, wants}
use Rattle.cts_run.proofs.ReplayLemmas.{count_is}

-- the peer has ended, and the number of entries was put or not
pub ended_below : (site : SiteData) (events : List Event) (interface : ℕ) (over : Bool) (w : StoryData) (old : Outside) (out out' : SinkSeen) (vault : VaultSeen) (count : ℕ) (put : Result (Unit {0}) Undone)
    → IsPlaying site (events ++ Finish interface PeerEnded ∷ []) over w old (outside out vault) → count ≡ length (held_in w.world).history → PutsText (end_line count) put out out'
    → EndsBelow site events interface (put_answer put) old (outside out' vault)
ended_below site events interface over w old out out' vault count put p n text =
    let mid = outside out vault in
    let new = outside out' vault in
    let all = events ++ Finish interface PeerEnded ∷ [] in
    let e = ended site all over w old mid p in
    let number : count ≡ length (history_of e.dids) = count_is site p.state w count n p.stands ∙ ap (λ (h : List Entry). length h) e.history in
    let line = puts (end_line (length (history_of e.dids))) in
    let text' = subst (λ (k : ℕ). PutsText (end_line k) put out out') number text in
    let does = all_then old mid new (text_acts site [] e.dids) line (Ok tt) (put_answer put) e.done (all_of line put mid new (put_done (end_line (length (history_of e.dids))) put out out' vault text')) in
    record {
      dids = e.dids;
      ending = e.ending;
      runs = subst (λ (es : List Event). Runs (site_environment site) opening es e.dids e.ending) (append-nil all) e.runs;
      does = subst (λ (d : Result (Unit {0}) Halt). DoesAll (play_acts site true e.dids e.ending) d (put_answer put) old new) (sym (e.due_is (Ok tt)))
          (subst (λ (t : List Act). DoesAll (text_acts site [] e.dids ++ t) (Ok tt) (put_answer put) old new) (sym (e.last_is true)) does);
    }

-- it halts at the end
pub halts_below : (site : SiteData) (events : List Event) (interface : ℕ) (h : Halt) (old new : Outside) → Stops site (events ++ Finish interface PeerEnded ∷ []) h old new → EndsBelow site events interface (Err h) old new
halts_below site events interface h old new s =
    let all = events ++ Finish interface PeerEnded ∷ [] in
    let k = halt_does site true (Ok tt) all [] h old new s in
    record { dids = k.0; ending = k.1; runs = subst (λ (es : List Event). Runs (site_environment site) opening es k.0 k.1) (append-nil all) k.2; does = k.3 }

-- the connection was opened and its pieces came before that
pub brings_end : (site : SiteData) (interface : ℕ) (pieces : List Event) (answer : Result (Unit {0}) Halt) (old new : Outside) → EndsBelow site (Opens interface ∷ pieces) interface answer old new → BringsPieces site interface pieces answer old new
brings_end site interface pieces answer old new e = record { dids = e.dids; ending = e.ending; runs = e.runs; does = e.does }

-- or one of them halts it
pub halts_bringing : (site : SiteData) (interface : ℕ) (pieces : List Event) (h : Halt) (old new : Outside) → Stops site (Opens interface ∷ pieces) h old new → BringsPieces site interface pieces (Err h) old new
halts_bringing site interface pieces h old new s =
    brings_end site interface pieces (Err h) old new
    (halts_below site (Opens interface ∷ pieces) interface h old new (stops_on site (Opens interface ∷ pieces) (Finish interface PeerEnded ∷ []) h old new s))

pub halts_opening : (site : SiteData) (interface : ℕ) (pieces : List Event) (h : Halt) (old new : Outside) → Stops site (Opens interface ∷ []) h old new → BringsPieces site interface pieces (Err h) old new
halts_opening site interface pieces h old new s = halts_bringing site interface pieces h old new (stops_on site (Opens interface ∷ []) pieces h old new s)

-- memory was wanted before it
pub wants_pieces : (site : SiteData) (ends : Ends) (bytes : List ℕ) (w : StoryData) (o : Outside) → 1 ≤ ends.cut → Stands site opening w → BringsBytes site ends bytes (Err halt.Memory) o o
wants_pieces site ends bytes w o least h =
    let ps = some_pieces ends.interface ends.cut bytes least in
    record {
      pieces = ps.0;
      pieces_are = ps.1;
      brings = halts_opening site ends.interface ps.0 halt.Memory o o (stops_on site [] (Opens ends.interface ∷ []) halt.Memory o o (wants site [] false w o o (begun site w o h)));
    }
