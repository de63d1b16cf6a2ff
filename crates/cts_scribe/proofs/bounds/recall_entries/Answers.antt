use Rattle.std.proofs.Common.{◌<◌, ◌≤◌, ◌+◌, [], arith, length, rules, subst, sym}
use Rattle.std.specs.Prelude.{◌^◌, All}
use Rattle.std.proofs.lemmas.List.{take_all}
use Rattle.cts_def.specs.Sites.{SiteData}
use Rattle.cts_entry.specs.Histories.{bytes_in}
use Rattle.cts_table.specs.Keeping.{IsOfSite}
use Rattle.cts_scribe.proofs.Fitting.{Fits, fits_next}
use Rattle.cts_scribe.proofs.NextEntries.{of_site_get, small_get}
use Rattle.cts_scribe.proofs.bounds.recall_entries.Goals as goal

pub recall_entry-requires-clause-of_site : goal.recall_entry-requires-clause-of_site
recall_entry-requires-clause-of_site c =
    let h = c.args.hall.now in
    let found = of_site_get h.basis.site [] h.entries c.entries.place c.lend.result.now c.is_kept.ensures.kept.of_site c.lend.ensures in
    (found.0, subst (λ (s : SiteData). IsOfSite s found.0 c.lend.result.now) (sym c.site.ensures) found.1)

pub recall_entry-requires-clause-small : goal.recall_entry-requires-clause-small
recall_entry-requires-clause-small c =
    let es = c.args.hall.now.entries in
    let whole : bytes_in es < 2 ^ 32 = omega (arith, c.is_kept.ensures.kept.legal.bytes, c.is_kept.ensures.bytes) in
    small_get es c.entries.place c.lend.result.now (2 ^ 32) c.lend.ensures whole

pub entries-preserved : goal.entries-preserved
entries-preserved c =
    let h = c.args.hall.now in
    let e = c.lend.result.now in
    let more : c.entries.place + 1 ≤ length h.entries = search rules in
    let this = subst (λ (s : SiteData). Fits s e) c.site.ensures c.recall_entry.ensures in
    record { within = more; fits = fits_next h.basis.site h.entries c.entries.place e c.lend.ensures c.entries.invariant.fits this }

pub returns : goal.returns
returns c =
    let h = c.args.hall.now in
    let all : length h.entries ≤ c.entries.place = search rules in
    subst (All (Fits h.basis.site)) (take_all c.entries.place h.entries all) c.entries.invariant.fits
