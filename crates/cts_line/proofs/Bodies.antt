-- What a connection has in the history, when the history grows by a hold.
use Rattle.std.proofs.Common.{◌≡◌, ℕ, suc, ◌+◌, false, List, [], ◌∷◌, ◌++◌, length, refl, sym, ◌∙◌, ap, subst, arith, append_assoc, append-nil, length-append}
use Rattle.std.specs.Prelude.{drop}
use Rattle.cts_def.specs.declared.time.Time.{Time}
use Rattle.cts_entry.specs.declared.entry.Entry.{Entry}
use Rattle.cts_entry.specs.Places.{Posts}
use Rattle.cts_entry.specs.Histories.{has_own}
use Rattle.cts_entry.proofs.Queuing.{any_append, posts_append, posts_none}
use Rattle.cts_framing.specs.Framing.{Output}
use Rattle.cts_trace.specs.Connections.{Shows}
use Rattle.cts_trace.specs.Routing.{Routing, queue, posted_entries}
use Rattle.cts_trace.proofs.Others.{strange_own}
use Rattle.cts_trace.proofs.Walks.{queue-append, packets_show}
use Rattle.cts_line.specs.Rows.{Gives, InRows, Row}
use Rattle.cts_line.specs.Talks.{Body}
use Rattle.cts_line.proofs.Growing.{Grows}
use Rattle.cts_line.proofs.Rows.{rows_next, rows_others}

pub inside : (history before within : List Entry) (opened : Entry) → history ≡ before ++ opened ∷ within → length history ≡ length before + 1 + length within
inside history before within opened e = let f = ap length e ∙ length-append before (opened ∷ within) in omega arith

drop_front : (xs ys : List Entry) → drop (length xs) (xs ++ ys) ≡ ys
drop_front [] ys = refl
drop_front (x ∷ xs) ys = drop_front xs ys

pub drop_whole : (history before looked more : List Entry) (opened : Entry) (place : ℕ) → place ≡ length before + 1 + length looked → history ≡ before ++ opened ∷ (looked ++ more) → drop place history ≡ more
drop_whole history before looked more opened place is e =
    let front : List Entry = before ++ opened ∷ looked in
    let long : length front ≡ length before + suc (length looked) = length-append before (opened ∷ looked) in
    let n : place ≡ length front = omega arith in
    ap (drop place) (e ∙ sym (append_assoc before (opened ∷ looked) more)) ∙ ap (λ (k : ℕ). drop k (front ++ more)) n ∙ drop_front front more

-- the packets of one hold show themselves
pub packets_shown : (g : Routing) (m : ℕ) (history : List Entry) (now : Time) (packets : List Output) → Posts m (Shows g m) history (posted_entries g history now m packets) packets
packets_shown g m history now packets = subst (λ (l : List Entry). Posts m (Shows g m) l (posted_entries g history now m packets) packets) (append-nil history) (packets_show g history now m packets [] (λ k. refl))

module _ (g : Routing) (m : ℕ) where
  -- all that is ahead was looked at
  abbrev pub seen_body : (history : List Entry) → Body g m history → Body g m history
  seen_body history b = record {
    before = b.before;
    opened = b.opened;
    looked = b.looked ++ b.ahead;
    ahead = [];
    whole = b.whole ∙ ap (λ (l : List Entry). b.before ++ b.opened ∷ l) (sym (append-nil (b.looked ++ b.ahead)));
    opens = b.opens;
    posted = b.posted;
    posts = subst (λ (l : List Entry). Posts m (Shows g m) (b.before ++ b.opened ∷ []) l b.posted) (sym (append-nil (b.looked ++ b.ahead))) b.posts;
    done = b.done;
    rest = b.rest ++ queue g m b.ahead;
    queue_is = queue-append g m b.looked b.ahead ∙ (ap (λ (l : List Entry). l ++ queue g m b.ahead) b.queue_is ∙ append_assoc b.done b.rest (queue g m b.ahead));
  }

  -- the next of the rest is done
  abbrev pub done_body : (history : List Entry) (b : Body g m history) (e : Entry) (es : List Entry) → b.rest ≡ e ∷ es → Body g m history
  done_body history b e es is = record {
    before = b.before;
    opened = b.opened;
    looked = b.looked;
    ahead = b.ahead;
    whole = b.whole;
    opens = b.opens;
    posted = b.posted;
    posts = b.posts;
    done = b.done ++ e ∷ [];
    rest = es;
    queue_is = b.queue_is ∙ (ap (λ (l : List Entry). b.done ++ l) is ∙ sym (append_assoc b.done (e ∷ []) es));
  }

  -- a hold added entries that show these packets
  abbrev pub grown_body : (found : List ℕ) (history added : List Entry) (found' : List ℕ) (history' : List Entry) (grows : Grows m found history added found' history') (b : Body g m history) (packets : List Output)
      → Posts m (Shows g m) (history ++ grows.others) added packets → Body g m history'
  grown_body found history added found' history' grows b packets shown = record {
    before = b.before;
    opened = b.opened;
    looked = b.looked;
    ahead = b.ahead ++ (grows.others ++ added);
    whole = grows.seen ∙ (append_assoc history grows.others added ∙ (ap (λ (l : List Entry). l ++ (grows.others ++ added)) b.whole
        ∙ (append_assoc b.before (b.opened ∷ (b.looked ++ b.ahead)) (grows.others ++ added) ∙ ap (λ (l : List Entry). b.before ++ b.opened ∷ l) (append_assoc b.looked b.ahead (grows.others ++ added)))));
    opens = b.opens;
    posted = b.posted ++ packets;
    posts =
        (let base : List Entry = b.before ++ b.opened ∷ [] in
        let within : List Entry = b.looked ++ b.ahead in
        let is : base ++ within ≡ history = append_assoc b.before (b.opened ∷ []) within ∙ sym b.whole in
        subst (λ (l : List Entry). Posts m (Shows g m) base l (b.posted ++ packets)) (append_assoc b.looked b.ahead (grows.others ++ added))
        (posts_append m (Shows g m) base within (grows.others ++ added) b.posted packets b.posts
        (posts_append m (Shows g m) (base ++ within) grows.others added [] packets (posts_none m (Shows g m) (base ++ within) grows.others (strange_own m grows.others grows.strange))
        (subst (λ (l : List Entry). Posts m (Shows g m) (l ++ grows.others) added packets) (sym is) shown))));
    done = b.done;
    rest = b.rest;
    queue_is = b.queue_is;
  }

  module _ (found : List ℕ) (history added : List Entry) (found' : List ℕ) (history' : List Entry) (grows : Grows m found history added found' history') (b : Body g m history) (fed : List (List ℕ))
      (r : InRows g m fed b.posted (b.before ++ b.opened ∷ []) (b.looked ++ b.ahead)) where
    -- a hold added no packet
    pub rows_kept : has_own m added ≡ false → InRows g m fed (b.posted ++ []) (b.before ++ b.opened ∷ []) (b.looked ++ (b.ahead ++ (grows.others ++ added)))
    rows_kept none =
        let base : List Entry = b.before ++ b.opened ∷ [] in
        let strange = any_append m grows.others added (strange_own m grows.others grows.strange) none in
        subst (λ (l : List Output). InRows g m fed l base (b.looked ++ (b.ahead ++ (grows.others ++ added)))) (sym (append-nil b.posted))
        (subst (λ (l : List Entry). InRows g m fed b.posted base l) (append_assoc b.looked b.ahead (grows.others ++ added))
        (rows_others g m fed b.posted base (b.looked ++ b.ahead) r (grows.others ++ added) strange))

    -- it added those of a piece
    pub rows_grown : (piece : List ℕ) (packets : List Output) → Gives (g.chain m) fed b.posted → Row g m (history ++ grows.others) packets added
        → InRows g m (fed ++ piece ∷ []) (b.posted ++ packets) (b.before ++ b.opened ∷ []) (b.looked ++ (b.ahead ++ (grows.others ++ added)))
    rows_grown piece packets gives row =
        let base : List Entry = b.before ++ b.opened ∷ [] in
        let within : List Entry = b.looked ++ b.ahead in
        let is : history ++ grows.others ≡ base ++ (within ++ grows.others) =
        ap (λ (l : List Entry). l ++ grows.others) (b.whole ∙ sym (append_assoc b.before (b.opened ∷ []) within)) ∙ append_assoc base within grows.others in
        subst (λ (l : List Entry). InRows g m (fed ++ piece ∷ []) (b.posted ++ packets) base l) (append_assoc b.looked b.ahead (grows.others ++ added))
        (rows_next g m fed b.posted base within r grows.others added piece packets (strange_own m grows.others grows.strange) gives
        (subst (λ (l : List Entry). Row g m l packets added) is row))
