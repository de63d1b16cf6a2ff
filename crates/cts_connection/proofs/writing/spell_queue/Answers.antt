use Rattle.std.proofs.Common.{sym, subst, arith}
use Rattle.std.proofs.lemmas.Grind.{common_steps}
use Rattle.cts_def.specs.Sites.{SiteData}
use Rattle.cts_entry.proofs.Walks.{drop_lent}
use Rattle.cts_table.specs.Keeping.{IsOfSite}
use Rattle.cts_connection.proofs.Putting.{of_site_at}
use Rattle.cts_connection.proofs.writing.spell_queue.Goals.{then-is_for+in_ok-spelling+in_ok-push, else-is_for}
use Rattle.cts_connection.proofs.writing.spell_queue.Goals as goal

pub spelling-requires-clause-of_site : goal.spelling-requires-clause-of_site
spelling-requires-clause-of_site g c =
    let h = c.args.hall.now in
    let at = of_site_at h.basis.site c.loop-n.n h.entries c.lend-entry.result.now c.is_kept.ensures.kept.of_site c.lend-entry.ensures in
    (at.0, subst (λ (s : SiteData). IsOfSite s at.0 c.lend-entry.result.now) (sym c.site-then-is_for.ensures) at.1)

pub loop-n-preserved : goal.loop-n-preserved
loop-n-preserved g c =
    let split = drop_lent c.args.hall.now.entries c.loop-n.n c.lend-entry.result.now c.lend-entry.ensures in
    let before = c.loop-n.invariant.spelled in
    let test = c.is_for.ensures in
    let site = c.site.ensures in
    record {
      spelled = elim c.if-is_for.branch [
        | then-is_for+in_ok-spelling+in_ok-push w ↦
            let on = w.if-is_for.true in
            let same = w.site-then-is_for.ensures in
            let spelt = w.in_ok-spelling.ensures in
            let pushed = w.in_ok-push.ensures.items in
            let is = w.spellings-is in
            grind (arith, common_steps)
        | else-is_for w ↦
            let off = w.if-is_for.false in
            let is = w.spellings-is in
            grind (arith, common_steps)
      ];
    }
