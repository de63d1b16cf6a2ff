-- What the entries of a site say fits into a log.
use Rattle.std.proofs.Common.{◌≡◌, ℕ, ◌<◌, ◌+◌, ◌∷◌, [], ◌++◌, List, length, take, get_or, sym, subst, arith, Some}
use Rattle.std.specs.Prelude.{All, slice_get}
use Rattle.std.specs.List.{filter}
use Rattle.std.proofs.lemmas.List.Elements.{All-append, All-cons, All-filter, All-map, All-nil}
use Rattle.std.proofs.lemmas.Grind.{elements, common_steps}
use Rattle.cts_def.specs.Sites.{SiteData}
use Rattle.cts_entry.specs.declared.entry.Entry.{Entry}
use Rattle.cts_framing.specs.Layouts.{has_flags}
use Rattle.cts_log.specs.Logged.{FitsLogged}
use Rattle.cts_outside.specs.declared.vault.LogKind.{LogKind}
use Rattle.cts_turn.specs.Lists.{StartsWith}
use Rattle.cts_scribe.specs.Logs.{is_in_log, logged, logged_as}
use Rattle.cts_scribe.proofs.NextEntries.{take_next}

abbrev pub Fits : SiteData → Entry → Type 0
Fits site e = FitsLogged (has_flags site.log_layout) (logged_as site e)

pub fits_next : (site : SiteData) (es : List Entry) (n : ℕ) (e : Entry) → slice_get es n ≡ Some e → All (Fits site) (take n es) → Fits site e
    → All (Fits site) (take (n + 1) es)
fits_next site es n e at before this =
    subst (All (Fits site)) (sym (take_next es n e at))
    (All-append (Fits site) (take n es) (e ∷ []) before (All-cons (Fits site) e [] this (All-nil (Fits site))))

fits_first : (site : SiteData) (xs ys : List Entry) → All (Fits site) (xs ++ ys) → All (Fits site) xs
fits_first site xs ys all k d lt =
    let within : k < length (xs ++ ys) = grind (arith, common_steps) in
    let same : get_or (xs ++ ys) k d ≡ get_or xs k d = grind (arith, elements) in
    subst (Fits site) same (all k d within)

-- and so do those of a beginning of the history that stand in a log
pub fits_logged : (kind : LogKind) (site : SiteData) (history entries : List Entry) → StartsWith history entries → All (Fits site) history
    → All (FitsLogged (has_flags site.log_layout)) (logged kind site entries)
fits_logged kind site history entries begins all =
    let these = fits_first site entries begins.0 (subst (All (Fits site)) begins.1 all) in
    All-map (FitsLogged (has_flags site.log_layout)) (logged_as site) (filter (is_in_log kind site) entries)
    (All-filter (is_in_log kind site) (Fits site) entries these)
