-- The logs of a drained scribe are those of the closed history.
use Rattle.std.proofs.Common.{◌≡◌, ℕ, List, ◌++◌, length, take, ◌∙◌, ap, sym, subst, append_assoc, inl, inr, Option, Some, None}
use Rattle.std.specs.Prelude.{IsSomeAnd}
use Rattle.std.proofs.Math.Seq.{take-append_seam}
use Rattle.cts_def.specs.Makers.{scribe}
use Rattle.cts_def.specs.Sites.{IsSoundSite, SiteData}
use Rattle.cts_entry.specs.declared.entry.Entry.{Entry}
use Rattle.cts_outside.specs.Seen.{VaultSeen}
use Rattle.cts_outside.specs.declared.vault.LogKind.{LogKind}
use Rattle.cts_scribe.specs.Ending.{stops_all}
use Rattle.cts_scribe.specs.Logs.{parts}
use Rattle.cts_scribe.specs.Vaults.{AreWhole}
use Rattle.cts_scribe.specs.declared.ending.ScribeWhy.{ScribeWhy}
use Rattle.cts_scribe.specs.declared.ending.ScribeWhy.TheVariants.{Drained}
use Rattle.cts_scribe.proofs.Closing.{closed, whole_as}
use Rattle.cts_table.specs.Keeping.{IsKept}
use Rattle.cts_table.specs.declared.basis.Basis.{Basis}
use Rattle.cts_worker.specs.Lasts.{first_moment, last_entries}
use Rattle.cts_server.specs.ClosedLogs.{DrainedLogsAreWhole}
use Rattle.cts_server.specs.Owed.{ScribeOwes, server_basis}
use Rattle.cts_server.specs.Scribes.{OwesScribe, RanScribe}

module _ (b : Basis) (history : List Entry) (digest : List ℕ) (old new : VaultSeen) (cursor : ℕ) (sound : IsSoundSite b.site) (kept : IsKept b history) where
  -- nothing that came after the scribe's last look gives anything to a log
  same_parts : (stood more : List Entry) → history ≡ stood ++ more → cursor ≡ length stood
      → ((kind : LogKind) → parts kind b.site digest (stood ++ more) ≡ parts kind b.site digest stood)
      → (kind : LogKind) → parts kind b.site digest (take cursor history) ≡ parts kind b.site digest history
  same_parts stood more split last none kind =
      let front : take cursor history ≡ stood = ap (take cursor) split ∙ (ap (λ (n : ℕ). take n (stood ++ more)) last ∙ take-append_seam stood more) in
      ap (parts kind b.site digest) front ∙ (sym (none kind) ∙ ap (parts kind b.site digest) (sym split))

  whole : RanScribe b.site digest scribe history old new cursor Drained → AreWhole b.site digest history new.told
  whole r =
      let e = r.ends in
      let last : List Entry = last_entries (stops_all Drained) scribe first_moment e.stood in
      let more : List Entry = last ++ e.begins.0 in
      let split : history ≡ e.stood ++ more = e.begins.1 ∙ append_assoc e.stood last e.begins.0 in
      let same = same_parts e.stood more split e.drained.last (λ (kind : LogKind). (closed b e.stood more sound
      (subst (IsKept b) split kept) e.drained.others kind digest).0) in
      whole_as b.site digest (take cursor history) history new.told same r.logs

pub drained : DrainedLogsAreWhole
drained b history digest old new cursor sound kept o = elim o [
  | inl r ↦ whole b history digest old new cursor sound kept r
  | inr u ↦ absurd (cc u.cancelled)
]

-- the same of what stands in the vault's place
pub whole_logs : {V : Type 0} (seen : V → VaultSeen) (site : SiteData) (digest : List ℕ) (history : List Entry) (old new : Option V) (why : ScribeWhy)
    → IsSoundSite site → IsKept (server_basis site) history → ScribeOwes seen site digest history old new why → why ≡ Drained
    → IsSomeAnd new (λ v. AreWhole site digest history (seen v).told)
whole_logs seen site digest history (Some x) (Some y) why sound kept owes is =
    drained (server_basis site) history digest (seen x) (seen y) owes.0 sound kept
    (subst (λ (w : ScribeWhy). OwesScribe site digest scribe history (seen x) (seen y) owes.0 w) is owes.1)
whole_logs seen site digest history (Some x) None why sound kept owes is = absurd owes
whole_logs seen site digest history None new why sound kept owes is = absurd owes
