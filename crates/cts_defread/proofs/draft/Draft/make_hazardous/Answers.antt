use Rattle.std.proofs.Common.{◌∙◌, ap, ◌++◌, ◌∷◌, [], refl, sym}
use Rattle.std.proofs.lemmas.List.{append-nil}
use Rattle.cts_defread.specs.declared.drafted.Drafted.{Drafted}
use Rattle.cts_defread.specs.Steps.{make_hazardous}
use Rattle.cts_defread.proofs.Kept.{hazardous_kept, unchanged_kept}
use Rattle.cts_words.proofs.Blocks.{put_back}
use Rattle.cts_defread.proofs.draft.Draft.make_hazardous.Goals as goal

pub returns-in_ok-push-clause-placed : goal.returns-in_ok-push-clause-placed
returns-in_ok-push-clause-placed c =
    put_back make_hazardous c.args.self.now.packets.items c.pop.new.self.items c.push.new.self.items c.in-Some.drafted c.in-Some.ensures.items
    (c.in_ok-push.ensures.items ∙ ap (λ (d : Drafted). c.pop.new.self.items ++ d ∷ []) c.made_hazardous.ensures)

pub returns-in_ok-push-clause-kept : goal.returns-in_ok-push-clause-kept
returns-in_ok-push-clause-kept c =
    hazardous_kept c.args.self.now _ c.requires.kept c.requires.suited
    (record { telemetry = refl; commands = refl; items = refl; telemetry_count = refl; command_count = refl; item_count = refl; ends = refl; ended = refl; filled = refl })
    refl refl refl
    (put_back make_hazardous c.args.self.now.packets.items c.pop.new.self.items c.push.new.self.items c.in-Some.drafted c.in-Some.ensures.items
    (c.in_ok-push.ensures.items ∙ ap (λ (d : Drafted). c.pop.new.self.items ++ d ∷ []) c.made_hazardous.ensures))

pub returns-in_default-clause-kept : goal.returns-in_default-clause-kept
returns-in_default-clause-kept c =
    unchanged_kept c.args.self.now _ c.requires.kept
    (record { telemetry = refl; commands = refl; items = refl; telemetry_count = refl; command_count = refl; item_count = refl; ends = refl; ended = refl; filled = refl })
    refl refl refl
    (sym (c.in_default.ensures.items ∙ append-nil c.pop.new.self.items))
