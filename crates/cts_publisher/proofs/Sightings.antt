-- What a look leaves, and the end of a publisher.
use Rattle.std.proofs.Common.{◌≡◌, ℕ, ◌≤◌, [], true, List, length, ◌∙◌, ap, arith, append-nil}
use Rattle.std.proofs.lemmas.Grind.{common_steps}
use mathlib.Core.List.{IsPrefix}
use Rattle.cts_book.proofs.Fronts.{prefix_trans, prefix_whole}
use Rattle.cts_def.specs.Sites.{IsSoundSite, SiteData}
use Rattle.cts_entry.specs.declared.entry.Entry.{Entry}
use Rattle.cts_entry.specs.Workers.{is_worker}
use Rattle.cts_snap.specs.Copies.{IsWriting, Writes}
use Rattle.cts_table.specs.declared.basis.Basis.{Basis}
use Rattle.cts_trace.specs.Makers.{of_maker}
use Rattle.cts_turn.specs.declared.rule.View.{View}
use Rattle.cts_worker.specs.Followed.{HaveEnded}
use Rattle.cts_worker.specs.Holds.{Hold}
use Rattle.cts_worker.proofs.Holdings.{hold_own}
use Rattle.cts_publisher.specs.Publishing.{AllEnded}

-- the publisher is no worker of a sound site
no_worker : (site : SiteData) (m : ℕ) → IsSoundSite site → is_worker site m ≡ true → m ≡ 29 → ⊥
no_worker site m sound is same =
    let few : length site.interfaces ≤ 16 = sound.few_interfaces in
    let routers : length site.routers ≤ 4 = sound.few_routers in
    let desks : site.desks ≤ 4 = sound.few_desks in
    grind (arith, common_steps)

-- so once all others have ended, all have
pub all_ended : (site : SiteData) (history : List Entry) → IsSoundSite site → HaveEnded site 29 history → AllEnded site history
all_ended site history sound others m is = others m is (no_worker site m sound is)

-- a hold that appends nothing leaves each maker's entries as they were
pub hold_silent : {G : Type 0} (m : ℕ) (old new : View Entry G) → Hold m old new [] → of_maker m new.seen ≡ of_maker m old.seen
hold_silent m old new hold = hold_own m old new [] hold ∙ append-nil (of_maker m old.seen)

-- what is published begins all of which what the writer has is a beginning
pub published_begins : (b : Basis) (w : Writes) (seen : List Entry) → IsWriting b w → IsPrefix w.list seen → IsPrefix w.published seen
published_begins b w seen k p = prefix_trans w.published w.list seen (prefix_trans w.published w.waiting w.list k.shown k.begins) p

-- a beginning of which a list that is no shorter than the whole waits
pub all_waits : (waiting list all : List Entry) → waiting ≡ list → IsPrefix list all → length all ≤ length waiting → waiting ≡ all
all_waits waiting list all is p le = is ∙ prefix_whole list all p (let l = ap length is in omega (arith, le, l))
