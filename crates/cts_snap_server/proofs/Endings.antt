-- What a worker has seen at its end, and that it was not cancelled.
use Rattle.std.proofs.Common.{◌≡◌, ℕ, List, [], refl, sym, subst, Option, append-nil}
use mathlib.Core.List.{IsPrefix}
use Rattle.cts_def.specs.Sites.{SiteData}
use Rattle.cts_desk.specs.Ending.{CausesEnd}
use Rattle.cts_desk.specs.declared.ending.DeskWhy.{DeskWhy}
use Rattle.cts_desk.specs.declared.ending.DeskWhy.TheVariants.{Cancelled}
use Rattle.cts_entry.specs.declared.entry.Entry.{Entry}
use Rattle.cts_outside.specs.Lines.{Line}
use Rattle.cts_publisher.specs.Publishing.{EndsSo}
use Rattle.cts_publisher.specs.declared.ending.PublisherWhy.{PublisherWhy}
use Rattle.cts_publisher.specs.declared.ending.PublisherWhy.TheVariants as publisher
use Rattle.cts_snap.specs.Copies.{Writes}
use Rattle.cts_turn.specs.Lists.{StartsWith}

pub begins_itself : (seen : List Entry) → StartsWith seen seen
begins_itself seen = ([], sym (append-nil seen))

pub desk_ran : (history : List Entry) (told : Option Line) (before now : ℕ) (why : DeskWhy) → CausesEnd history told before now why → why ≡ Cancelled → ⊥
desk_ran history told before now why c is = subst (λ (w : DeskWhy). CausesEnd history told before now w) is c

pub publisher_ran : (site : SiteData) (seen : List Entry) (w : Writes) (why : PublisherWhy) → EndsSo site seen w why → why ≡ publisher.Cancelled → ⊥
publisher_ran site seen w why e is = subst (λ (y : PublisherWhy). EndsSo site seen w y) is e

-- nothing begins every list
pub begins_any : (list seen : List Entry) → list ≡ [] → IsPrefix list seen
begins_any list seen none = subst (λ (l : List Entry). IsPrefix l seen) (sym none) (seen, refl)
