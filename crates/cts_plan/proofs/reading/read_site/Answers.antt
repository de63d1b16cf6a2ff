use Rattle.std.proofs.Common.{◌≡◌, ◌∙◌, [], OnOk, ap, sym, subst}
use Rattle.cts_def.specs.Packets.{DefinitionsData}
use Rattle.cts_def.specs.Sites.{SiteData, IsSoundSite}
use Rattle.cts_reader.specs.Reading.{Settles}
use Rattle.cts_words.specs.Refusals.{first_refusal}
use Rattle.cts_plan.specs.declared.draft.Draft.{Draft}
use Rattle.cts_plan.specs.Standing.{start}
use Rattle.cts_plan.specs.SiteFiles.{after, at_end, refusal, site_in}
use Rattle.cts_plan.proofs.Runs.{given_sound, site_given}
use Rattle.cts_plan.proofs.reading.read_site.Goals as goal

pub read_all-read-requires : goal.read_all-read-requires
read_all-read-requires c = c.new-draft.ensures ∙ sym (ap (λ (s : Draft). start s.site.definitions) c.new-draft.ensures)

pub returns-clause-said : goal.returns-clause-said
returns-clause-said c =
    let read = c.read_all-read.result in
    let all = c.args.statements.now in
    let same = ap (λ (s : Draft). s.site.definitions) c.new-draft.ensures in
    site_given c.args.definitions all c.into_site.result read c.and.result c.and.ensures
    (subst (λ (d : DefinitionsData). Settles read (first_refusal (refusal d) (at_end d) [] all)) same c.read_all-read.ensures.settled)
    (subst (λ (d : DefinitionsData). OnOk read (c.into_site.result ≡ site_in (after d all))) same
    (subst (λ (s : SiteData). OnOk read (s ≡ site_in (after c.new-draft.result.site.definitions all))) (sym c.into_site.ensures) c.read_all-read.ensures.said))

pub returns-clause-sound : goal.returns-clause-sound
returns-clause-sound c =
    given_sound c.into_site.result c.read_all-read.result c.and.result c.and.ensures
    (subst (λ (s : SiteData). OnOk c.read_all-read.result (IsSoundSite s)) (sym c.into_site.ensures) c.read_all-read.ensures.sound)
