use Rattle.std.proofs.Common.{subst, ◌++◌, length, Some}
use Rattle.cts_outside.specs.Lines.{LinkPuts}
use Rattle.cts_http.specs.Texts.{response_text}
use Rattle.cts_desk.proofs.Putting.{text_written}
use Rattle.cts_desk.proofs.puts.put_text.Goals as goal

pub returns-clause-content : goal.returns-clause-content
returns-clause-content g c =
    subst (λ l. LinkPuts (g.R.Link.seen c.args.door.now).told (g.R.Link.seen c.put_both.new.door).told (l ++ c.args.text.now) c.put_both.result)
    (text_written (response_text c.args.front (Some (length c.args.text.now))) _ _ _ c.response-count.ensures) c.put_both.ensures.content
