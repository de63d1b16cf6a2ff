use Rattle.std.proofs.Common.{◌≡◌, subst, sym, ap, ◌∙◌, [], ◌∷◌, ◌++◌, List, ℕ, Option, ◌≤◌, length}
use Rattle.std.specs.Prelude.{unwrap_or, take, not}
use Rattle.cts_turn.specs.Passes.{view}
use Rattle.cts_outside.specs.Lines.{told_after, at_now, with_put, with_failed_put}
use Rattle.cts_worker.specs.Grounds.{ground}
use Rattle.cts_desk.specs.Exchanges.{Exchange}
use Rattle.cts_desk.specs.Holds.{text_of}
use Rattle.cts_desk.specs.Serving.{Serving, Reads, Over, goes_on}
use Rattle.cts_http.specs.Streams.{response_with}
use Rattle.cts_desk.proofs.Steps.{serving_put, serving_part}
use Rattle.cts_desk.proofs.Aiming.{aim_now}
use Rattle.cts_desk.proofs.answering.reply_to.Goals as goal

pub returns-in-Ok-clause-serves : goal.returns-in-Ok-clause-serves
returns-in-Ok-clause-serves g c = λ n was body given s.
    let b = ground c.args.hand.now.turn.now in
    let v = view c.args.talk.pass in
    let w = view c.ask-pass.result.0 in
    let front = c.ask-pass.result.1 in
    let text : Option (List ℕ) = text_of c.ask-pass.result.2 in
    let old = (g.R.Link.seen c.args.door.now).told in
    let new = (g.R.Link.seen c.put_response-put.new.door).told in
    let same : c.body.result.now ≡ body = ap (λ (o : Option (List ℕ)). unwrap_or o []) (c.body.ensures ∙ sym given) in
    let goes = g.S.Source.going c.args.talk.source n b c.args.hand.now.by in
    let went = g.S.Source.going c.ask-pass.new.self n b c.args.hand.now.by in
    let fronts = c.args.talk.fronts.items in
    let here : (xs : List Exchange) → goes fronts v xs → went (fronts ++ front ∷ []) w (xs ++ record { body = c.body.result.now; front = front; text = text } ∷ []) = λ xs k.
    subst (λ (l : List ℕ). went (l ++ front ∷ []) w (xs ++ record { body = c.body.result.now; front = front; text = text } ∷ [])) c.as_slice.ensures.value
    (c.ask-pass.ensures.going n xs (subst (λ (l : List ℕ). goes l v xs) (sym c.as_slice.ensures.value) k)) in
    let asked = subst (λ (l : List ℕ). (xs : List Exchange) → goes fronts v xs → went (fronts ++ front ∷ []) w (xs ++ record { body = l; front = front; text = text } ∷ [])) same here in
    let puts = subst (λ (t : Option (List ℕ)). new ≡ told_after (at_now (with_put (response_with front t))) old) c.text_of.ensures c.in-Ok.ensures.content in
    subst (λ (l : List ℕ). Serving went was (goes_on (not c.args.last) Reads) l w c.args.reader.now new) (sym c.push_reserved.ensures.items)
    (serving_put goes was c.args.reader.now went body fronts front text v w old new c.requires.open asked s c.args.last c.requires.last puts)

pub returns-in-Err-clause-serves : goal.returns-in-Err-clause-serves
returns-in-Err-clause-serves g c = λ n was body given s.
    let b = ground c.args.hand.now.turn.now in
    let v = view c.args.talk.pass in
    let w = view c.ask-pass.result.0 in
    let front = c.ask-pass.result.1 in
    let text : Option (List ℕ) = text_of c.ask-pass.result.2 in
    let old = (g.R.Link.seen c.args.door.now).told in
    let new = (g.R.Link.seen c.put_response-put.new.door).told in
    let same : c.body.result.now ≡ body = ap (λ (o : Option (List ℕ)). unwrap_or o []) (c.body.ensures ∙ sym given) in
    let goes = g.S.Source.going c.args.talk.source n b c.args.hand.now.by in
    let went = g.S.Source.going c.ask-pass.new.self n b c.args.hand.now.by in
    let fronts = c.args.talk.fronts.items in
    let here : (xs : List Exchange) → goes fronts v xs → went (fronts ++ front ∷ []) w (xs ++ record { body = c.body.result.now; front = front; text = text } ∷ []) = λ xs k.
    subst (λ (l : List ℕ). went (l ++ front ∷ []) w (xs ++ record { body = c.body.result.now; front = front; text = text } ∷ [])) c.as_slice.ensures.value
    (c.ask-pass.ensures.going n xs (subst (λ (l : List ℕ). goes l v xs) (sym c.as_slice.ensures.value) k)) in
    let asked = subst (λ (l : List ℕ). (xs : List Exchange) → goes fronts v xs → went (fronts ++ front ∷ []) w (xs ++ record { body = l; front = front; text = text } ∷ [])) same here in
    let puts = subst (λ (t : Option (List ℕ)). (n : ℕ) × (n ≤ length (response_with front t)) × (new ≡ told_after (at_now (with_failed_put (take n (response_with front t)))) old)) c.text_of.ensures c.in-Err.ensures.content in
    subst (λ (l : List ℕ). Serving went was Over l w c.args.reader.now new) (sym c.push_reserved.ensures.items)
    (serving_part goes was c.args.reader.now went body fronts front text v w old new c.requires.open asked s puts)

pub returns-in-Ok-clause-aim : goal.returns-in-Ok-clause-aim
returns-in-Ok-clause-aim g c =
    let old = (g.R.Link.seen c.args.door.now).told in
    let new = (g.R.Link.seen c.put_response-put.new.door).told in
    let front = c.ask-pass.result.1 in
    let text : Option (List ℕ) = text_of c.ask-pass.result.2 in
    aim_now (with_put (response_with front text)) old new (subst (λ (t : Option (List ℕ)). new ≡ told_after (at_now (with_put (response_with front t))) old) c.text_of.ensures c.in-Ok.ensures.content)

pub returns-in-Err-clause-aim : goal.returns-in-Err-clause-aim
returns-in-Err-clause-aim g c =
    let old = (g.R.Link.seen c.args.door.now).told in
    let new = (g.R.Link.seen c.put_response-put.new.door).told in
    let front = c.ask-pass.result.1 in
    let text : Option (List ℕ) = text_of c.ask-pass.result.2 in
    let puts = subst (λ (t : Option (List ℕ)). (n : ℕ) × (n ≤ length (response_with front t)) × (new ≡ told_after (at_now (with_failed_put (take n (response_with front t)))) old)) c.text_of.ensures c.in-Err.ensures.content in
    aim_now (with_failed_put (take puts.0 (response_with front text))) old new puts.2
