-- A door keeps its aim.
use Rattle.std.proofs.Common.{◌≡◌, ℕ, List, ◌∙◌, refl, ap, take, Option, Some, None, Result, Ok, Err}
use Rattle.cts_outside.specs.Lines.{Connection, Line, told_after, at_now, with_put, with_failed_put, after_dial, hung_up, LinkPuts}
use Rattle.cts_outside.specs.declared.link.Dialed.{Dialed}
use Rattle.cts_outside.specs.declared.link.Dialed.TheVariants.{Linked, Later, Finished, Failed}
use Rattle.cts_desk.specs.Told.{aim_of}

aim_after : (f : Line → Line) → ((line : Line) → (f line).aim ≡ line.aim) → (old new : Option Line) → new ≡ told_after f old → aim_of new ≡ aim_of old
aim_after f same None new e = ap aim_of e
aim_after f same (Some line) new e = ap aim_of e ∙ ap (λ a. Some a) (same line)

-- a call that acts on the connection that stands
pub aim_now : (f : Connection → Connection) (old new : Option Line) → new ≡ told_after (at_now f) old → aim_of new ≡ aim_of old
aim_now f old new e = aim_after (at_now f) (λ line. refl) old new e

pub aim_put : {T E : Type 0} (bytes : List ℕ) (old new : Option Line) (result : Result T E) → LinkPuts old new bytes result → aim_of new ≡ aim_of old
aim_put bytes old new (Ok u) puts = aim_now (with_put bytes) old new puts
aim_put bytes old new (Err e) puts = aim_now (with_failed_put (take puts.0 bytes)) old new puts.2

dial_same : (result : Dialed) (line : Line) → (after_dial result line).aim ≡ line.aim
dial_same Linked line = refl
dial_same Later line = refl
dial_same Finished line = refl
dial_same Failed line = refl

pub aim_dial : (result : Dialed) (old new : Option Line) → new ≡ told_after (after_dial result) old → aim_of new ≡ aim_of old
aim_dial result old new e = aim_after (after_dial result) (dial_same result) old new e

pub aim_hung : (old new : Option Line) → new ≡ told_after hung_up old → aim_of new ≡ aim_of old
aim_hung old new e = aim_after hung_up (λ line. refl) old new e
