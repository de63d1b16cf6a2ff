use Rattle.std.proofs.Common.{subst}
use Rattle.cts_def.specs.Sites.{SiteData}
use Rattle.cts_ident_laws.specs.Named.{HaveNames}
use Rattle.cts_run.proofs.TyingLemmas.{chain_apart, never_differ, target_missing, tie_made}
use Rattle.cts_run.proofs.hub.tying.tie_ends.Goals as goal

pub returns-in-Ok : goal.returns-in-Ok
returns-in-Ok c =
    let names = subst (λ (s : SiteData). HaveNames s.definitions) c.below.view_is c.names_are_kept.ensures in
    tie_made c.args.above.now c.args.below.now c.args.ends c.requires.slot c.requires.interface c.in-Ok.hub c.in-Ok.ensures c.is_sound.ensures c.is_sound-in-Ok.ensures c.chains_are_kept.ensures names

pub returns-in-Err-Chain : goal.returns-in-Err-Chain
returns-in-Err-Chain c = chain_apart c.args.above.now c.args.below.now c.args.ends c.requires.slot c.requires.interface (rw c.in-Err-Chain.field-0-is at c.in-Err-Chain.ensures)

pub returns-in-Err-Target : goal.returns-in-Err-Target
returns-in-Err-Target c = target_missing c.args.above.now c.args.below.now c.args.ends c.requires.slot c.requires.interface _ (rw c.in-Err-Target.field-0-is at c.in-Err-Target.ensures)

pub unreachable-requires : goal.unreachable-requires
unreachable-requires c = never_differ c.args.above.now c.args.below.now c.args.ends c.requires.slot c.requires.interface c.requires.definitions (rw c.in-Err-Definitions.field-0-is at c.in-Err-Definitions.ensures)
