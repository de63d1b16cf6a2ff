-- Who has ended gives nothing to the logs any more.
use Rattle.std.proofs.Common.{◌≡◌, ◌≢◌, ◌∷◌, [], ◌++◌, ℕ, ◌==◌, ◌≤◌, Bool, true, false, ◌&&◌, ◌||◌, List, length, refl, sym, ◌∙◌, ap, subst, arith, inl}
use Rattle.std.proofs.Common.{inr, append-nil, append_assoc, Option}
use Rattle.std.specs.Prelude.{◌⊎◌, map}
use Rattle.std.specs.List.{filter, flat_map}
use Rattle.std.proofs.lemmas.Grind.{common_steps}
use Rattle.std.proofs.lemmas.List.Folds.{list_any-append}
use Rattle.cts_def.specs.Sites.{IsSoundSite, SiteData}
use Rattle.cts_def.specs.declared.time.Time.{Time}
use Rattle.cts_entry.specs.declared.entry.Entry.{Entry}
use Rattle.cts_entry.specs.declared.what.What.{What}
use Rattle.cts_entry.specs.declared.what.What.TheVariants.{Opened, Packet, Closed, Command, SetLimits, Enable, LimitsSetIs, Injected, Unrouted, Stop, Ended}
use Rattle.cts_entry.specs.Legal.{AllAllowed, Allows, IsAllowed, IsOn, Rules, has_ended, is_ended}
use Rattle.cts_entry.specs.Workers.{is_desk, is_interface, is_slot, is_worker}
use Rattle.cts_framing.specs.Layouts.{has_flags}
use Rattle.cts_log.specs.Logged.{entry_bytes}
use Rattle.cts_log_parts.specs.Parts.{log_parts}
use Rattle.cts_log_parts.specs.Told.{AreWholeParts}
use Rattle.cts_outside.specs.Vaults.{Logs}
use Rattle.cts_outside.specs.declared.vault.LogKind.{LogKind}
use Rattle.cts_outside.specs.declared.vault.LogKind.TheVariants.{Tlm, Cmd}
use Rattle.cts_table.specs.Keeping.{rules_of}
use Rattle.cts_table.specs.declared.basis.Basis.{Basis}
use Rattle.cts_worker.specs.Followed.{HaveEnded}
use Rattle.cts_scribe.specs.Laws.{ClosedLogsAreWhole}
use Rattle.cts_scribe.specs.Logs.{entries_log, file_kind, is_in_log, log, logged, logged_as, parts}
use Rattle.cts_scribe.specs.Vaults.{AreWhole, LogsSo}
use Rattle.cts_scribe.proofs.Logging.{log_laid, log_more, logged_more}

abbrev entry : ℕ → Time → What → Entry
entry by time what = record { by = by; time = time; what = what }

-- who is an interface, a slot or a desk of a sound site is a worker, and is not the scribe
abbrev IsOther : SiteData → ℕ → Type 0
IsOther site by = (is_worker site by ≡ true) × (by ≢ 28)

interface_other : (site : SiteData) (by : ℕ) → IsSoundSite site → is_interface site by ≡ true → IsOther site by
interface_other site by sound is = let few : length site.interfaces ≤ 16 = sound.few_interfaces in
    (grind (arith, common_steps), (λ e. grind (arith, common_steps)))

slot_other : (site : SiteData) (by : ℕ) → IsSoundSite site → is_slot site by ≡ true → IsOther site by
slot_other site by sound is = let few : length site.routers ≤ 4 = sound.few_routers in (grind (arith, common_steps), (λ e. grind (arith, common_steps)))

desk_other : (site : SiteData) (by : ℕ) → IsSoundSite site → is_desk site by ≡ true → IsOther site by
desk_other site by sound is = let few : site.desks ≤ 4 = sound.few_desks in (grind (arith, common_steps), (λ e. grind (arith, common_steps)))

command_other : (b : Basis) (before : List Entry) (by : ℕ) → IsSoundSite b.site → (is_desk b.site by ≡ true) ⊎ IsOn (is_slot b.site) before by
    → IsOther b.site by
command_other b before by sound maker = elim maker [
  | inl desk ↦ desk_other b.site by sound desk
  | inr slot ↦ slot_other b.site by sound slot.0
]

-- what stands in a log is said by another worker
logged_other : (what : What) (kind : LogKind) (b : Basis) (before : List Entry) (by : ℕ) (time : Time) → IsSoundSite b.site → Allows (rules_of b) before by what
    → is_in_log kind b.site (entry by time what) ≡ true → IsOther b.site by
logged_other Opened Tlm b before by time sound says h = absurd cc
logged_other Opened Cmd b before by time sound says h = absurd cc
logged_other (Packet ident stored bytes) Tlm b before by time sound says h = interface_other b.site by sound says.0
logged_other (Packet ident stored bytes) Cmd b before by time sound says h = absurd cc
logged_other (Closed why loss unposted unsent) Tlm b before by time sound says h = absurd cc
logged_other (Closed why loss unposted unsent) Cmd b before by time sound says h = absurd cc
logged_other (Command interface command bytes) Tlm b before by time sound says h = absurd cc
logged_other (Command interface command bytes) Cmd b before by time sound says h = command_other b before by sound says.2
logged_other (SetLimits enabled packet item persistence set limits) Tlm b before by time sound says h = absurd cc
logged_other (SetLimits enabled packet item persistence set limits) Cmd b before by time sound says h = absurd cc
logged_other (Enable packet item enabled) Tlm b before by time sound says h = absurd cc
logged_other (Enable packet item enabled) Cmd b before by time sound says h = absurd cc
logged_other (LimitsSetIs set) Tlm b before by time sound says h = absurd cc
logged_other (LimitsSetIs set) Cmd b before by time sound says h = absurd cc
logged_other (Injected packet bytes) Tlm b before by time sound says h = absurd cc
logged_other (Injected packet bytes) Cmd b before by time sound says h = absurd cc
logged_other (Unrouted why bytes) Tlm b before by time sound says h = absurd cc
logged_other (Unrouted why bytes) Cmd b before by time sound says h = absurd cc
logged_other Stop Tlm b before by time sound says h = absurd cc
logged_other Stop Cmd b before by time sound says h = absurd cc
logged_other Ended Tlm b before by time sound says h = absurd cc
logged_other Ended Cmd b before by time sound says h = absurd cc

-- who has ended still has after one entry more
ended_stays : (site : SiteData) (before : List Entry) (e : Entry) → HaveEnded site 28 before → HaveEnded site 28 (before ++ e ∷ [])
ended_stays site before e have m is other =
    let h = have m is other in
    list_any-append (λ (y : Entry). (y.by == m) && is_ended y.what) before (e ∷ []) ∙ ap (λ x. x || has_ended m (e ∷ [])) h

true_or_not : (x : Bool) → (x ≡ true) ⊎ (x ≡ false)
true_or_not true = inl refl
true_or_not false = inr refl

not_logged : (kind : LogKind) (b : Basis) (before : List Entry) (e : Entry) → IsSoundSite b.site → HaveEnded b.site 28 before → IsAllowed (rules_of b) before e
    → is_in_log kind b.site e ≡ false
not_logged kind b before e sound have allowed = elim (true_or_not (is_in_log kind b.site e)) [
  | inl stands ↦ (let other = logged_other e.what kind b before e.by e.time sound allowed.says stands in
      let gone : has_ended e.by before ≡ true = have e.by other.0 other.1 in let going = allowed.active in
      absurd (let w : true ≡ false = sym gone ∙ going in cc))
  | inr stays_out ↦ stays_out
]

nothing_more : (kind : LogKind) (b : Basis) (before es : List Entry) → IsSoundSite b.site → HaveEnded b.site 28 before → AllAllowed (rules_of b) before es
    → filter (is_in_log kind b.site) es ≡ []
nothing_more kind b before [] sound have all = refl
nothing_more kind b before (e ∷ es) sound have all =
    let skip = not_logged kind b before e sound have all.0 in
    let later = nothing_more kind b (before ++ e ∷ []) es sound (ended_stays b.site before e have) all.1 in
    skipped e es skip later
  where
    skipped : (e : Entry) (es : List Entry) → is_in_log kind b.site e ≡ false → filter (is_in_log kind b.site) es ≡ []
        → filter (is_in_log kind b.site) (e ∷ es) ≡ []
    skipped e es skip later = rw skip later

allowed_after : (r : Rules) (before xs ys : List Entry) → AllAllowed r before (xs ++ ys) → AllAllowed r (before ++ xs) ys
allowed_after r before [] ys all = subst (λ l. AllAllowed r l ys) (sym (append-nil before)) all
allowed_after r before (x ∷ xs) ys all = subst (λ l. AllAllowed r l ys) (append_assoc before (x ∷ []) xs) (allowed_after r (before ++ x ∷ []) xs ys all.1)

pub closed : ClosedLogsAreWhole
closed b stood more sound kept have kind digest =
    let none = nothing_more kind b stood more sound have (allowed_after (rules_of b) [] stood more kept.legal.each) in
    let gives : entries_log kind b.site more ≡ [] =
    log_laid kind b.site more ∙ ap (λ (l : List Entry). flat_map (λ e. entry_bytes (has_flags b.site.log_layout) (logged_as b.site e)) l) none in
    let same : logged kind b.site (stood ++ more) ≡ logged kind b.site stood =
    logged_more kind b.site stood more ∙ ap (λ (l : List Entry). logged kind b.site stood ++ map (logged_as b.site) l) none
    ∙ append-nil (logged kind b.site stood) in (
      ap (log_parts (file_kind kind) (has_flags b.site.log_layout) digest b.site.log_cycle) same,
      log_more kind b.site digest stood more ∙ ap (λ l. log kind b.site digest stood ++ l) gives ∙ append-nil (log kind b.site digest stood),
    )

-- logs that are whole for some entries are so for others that give them the same parts
pub whole_as : (site : SiteData) (digest : List ℕ) (xs ys : List Entry) (told : Option Logs)
    → ((kind : LogKind) → parts kind site digest xs ≡ parts kind site digest ys) → AreWhole site digest xs told → AreWhole site digest ys told
whole_as site digest xs ys told same whole =
    subst (λ (t : List (List ℕ)). LogsSo AreWholeParts t (parts Cmd site digest ys) told) (same Tlm)
    (subst (λ (c : List (List ℕ)). LogsSo AreWholeParts (parts Tlm site digest xs) c told) (same Cmd) whole)
