use Rattle.cts_serve.proofs.PieceLemmas.{whole_of}
use Rattle.cts_serve.proofs.serving.telling.put_whole.Goals as goal

pub returns : goal.returns
returns g c = whole_of c.args.text.now c.put_text.result c.is_ok.result _ _ c.is_ok.ensures.value c.put_text.ensures.memory c.put_text.ensures.puts
