use Rattle.cts_framing.proofs.Laid.{laid_end_again, laid_again, has_laid_again, flags_again, stored_again}
use Rattle.cts_encode.proofs.laws.heads_are_read.Goals as goal

pub returns : goal.returns
returns c = λ flagged stored h after fits. record {
  flags = flags_again flagged stored h after;
  whole = has_laid_again flagged stored h after;
  head = laid_again flagged stored h after fits;
  stored_is = stored_again flagged stored h after;
  end = laid_end_again flagged stored h after;
}
