-- What is asked and wants no request is answered.
use Rattle.std.proofs.Common.{◌≡◌, true, None, Result, Ok, Err}
use Rattle.cts_api.specs.declared.refusal.Refusal.{Refusal}
use Rattle.cts_api.specs.declared.refusal.Refusal.TheVariants.{NoSuch, NotDone, BadParams, Memory}
use Rattle.cts_api.specs.declared.sending.Done as code
use Rattle.cts_api.specs.Answers.{answer}
use Rattle.cts_methods.specs.Asking.{Asking}
use Rattle.cts_api.specs.Points.{Point}
use Rattle.cts_api.specs.Replies.{HasRequest}
use Rattle.cts_api.specs.Settling.{HasAnswered, takes_memory}
use Rattle.cts_api.specs.Telling.{IsDoneBy, IsFree}

pub answered : (h : Point) (a : Asking) (r : Result code.Done Refusal) → HasRequest a None → takes_memory a ≡ true → IsDoneBy h (answer h None a) r → HasAnswered h a r
answered h a (Ok done) has takes is = (None, has, is)
answered h a (Err (NoSuch message)) has takes is = (None, has, is)
answered h a (Err (NotDone message)) has takes is = (None, has, is)
answered h a (Err BadParams) has takes is = (None, has, is)
answered h a (Err Memory) has takes is = takes

-- the same without memory
pub free_answered : (h : Point) (a : Asking) (r : Result code.Done Refusal) → HasRequest a None → IsFree r → IsDoneBy h (answer h None a) r → HasAnswered h a r
free_answered h a (Ok done) has free is = (None, has, is)
free_answered h a (Err (NoSuch message)) has free is = (None, has, is)
free_answered h a (Err (NotDone message)) has free is = (None, has, is)
free_answered h a (Err BadParams) has free is = (None, has, is)
free_answered h a (Err Memory) has free is = absurd free
