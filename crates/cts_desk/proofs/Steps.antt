-- What each function of the desk leaves, beside the history.
use Rattle.std.proofs.Common.{◌≡◌, ℕ, ◌≤◌, Bool, true, false, List, [], ◌∷◌, ◌++◌, length, take, sym, refl, ap, ◌∙◌, subst, append-nil, append_assoc, inl, Option, Some, None, Result}
use Rattle.std.specs.Prelude.{not, unwrap_or}
use Rattle.std.specs.List.{concat}
use Rattle.cts_def.specs.declared.time.Time.{Time}
use Rattle.cts_outside.specs.Lines.{Connection, Line, told_after, at_now, with_put, with_failed_put, hung_up, fresh, LinkPuts}
use Rattle.cts_entry.specs.declared.entry.Entry.{Entry}
use Rattle.cts_entry.specs.Histories.{is_stopped}
use Rattle.cts_http.specs.Readings.{Reading, Stands, Steps, Answers, steps_by}
use Rattle.cts_http.specs.Requests.{Requests, Waiting}
use Rattle.cts_http.specs.Texts.{refusal_text}
use Rattle.cts_http.specs.declared.step.HttpStep.TheVariants.{Request, More, Refuse}
use Rattle.cts_table.specs.declared.basis.Basis.{Basis}
use Rattle.cts_turn.specs.declared.rule.View.{View}
use Rattle.cts_desk.specs.Exchanges.{Exchange, Exchanges, Among, bodies_of, fronts_of}
use Rattle.cts_http.specs.Streams.{response_with}
use Rattle.cts_desk.specs.Streams.{NoMemory, last_put, last_front}
use Rattle.cts_desk.specs.Told.{Ends, Settled, past_of}
use Rattle.cts_worker.specs.Lasts.{last_entries}
use Rattle.cts_worker.specs.Holds.{Hold, EndedHold}
use Rattle.cts_desk.specs.Serving.{Going, Knows, Stage, Reads, Waits, Took, Asks, Over, Halted, StageSo, TalksBy, Serving, Resting, Dials, Begins, goes_on, halts_or}
use Rattle.cts_desk.specs.Growing.{among_more}
use Rattle.cts_desk.proofs.Histories.{exchanges_end}
use Rattle.cts_trace.proofs.Looking.{stop_kept}
use Rattle.cts_worker.proofs.Lasting.{last_own}
use Rattle.cts_desk.proofs.Connections.{hangs_up, idle_hung, settled_at, settled_first}
use Rattle.cts_desk.proofs.Stages.{talks_at, talks_map, talks_put, answered_whole, answered_last, answered_part, unasked_whole, unasked_part, refused_whole, refused_part, fed_piece, unfed_whole, unfed_part, halted}
use Rattle.cts_desk.proofs.Waiting.{none_waited}

-- the fronts are those of the exchanges
abbrev pub Counts : Knows → Type 0
Counts Goes = (fronts : List ℕ) (v : View Entry Basis) (xs : List Exchange) → Goes fronts v xs → fronts ≡ fronts_of xs

-- a look changes nothing of them
abbrev pub Stays : ℕ → Knows → Type 0
Stays by Goes = (fronts : List ℕ) (v w : View Entry Basis) (xs : List Exchange) → Hold by v w [] → Goes fronts v xs → Goes fronts w xs

module _ (Goes : Knows) (was : List Connection) (r : Reading) where
  -- no room was found for a front
  pub serving_unasked : {T E : Type 0} (body fronts : List ℕ) (v : View Entry Basis) (old new : Option Line) (result : Result T E) → Counts Goes → r.refused ≡ None
      → LinkPuts old new (last_put NoMemory (last_front fronts)) result → Serving Goes was (Asks body) fronts v r old → Serving Goes was Over fronts v r new
  serving_unasked body fronts v old new result counts none puts s = record {
    earlier = s.earlier;
    mine = s.mine;
    going = s.going;
    talks = talks_put was s.earlier (StageSo (Asks body) r s.earlier s.mine) (StageSo Over r s.earlier s.mine) (last_put NoMemory (last_front (fronts_of (s.earlier ++ s.mine)))) old new result
        (subst (λ l. LinkPuts old new (last_put NoMemory (last_front l)) result) (counts fronts v (s.earlier ++ s.mine) s.going) puts)
        (λ c so. unasked_whole r s.earlier s.mine body c none so)
        (λ c n le so. unasked_part r s.earlier s.mine body c n none le so) s.talks;
  }

  module _ (Goes' : Knows) (body fronts : List ℕ) (front : ℕ) (text : Option (List ℕ)) (v v' : View Entry Basis) (old new : Option Line) (none : r.refused ≡ None)
      (asked : (xs : List Exchange) → Goes fronts v xs → Goes' (fronts ++ front ∷ []) v' (xs ++ record { body = body; front = front; text = text } ∷ [])) (s : Serving Goes was (Asks body) fronts v r old) where
    next_going : Goes' (fronts ++ front ∷ []) v' (s.earlier ++ (s.mine ++ record { body = body; front = front; text = text } ∷ []))
    next_going = subst (Goes' (fronts ++ front ∷ []) v') (append_assoc s.earlier s.mine (record { body = body; front = front; text = text } ∷ [])) (asked (s.earlier ++ s.mine) s.going)

    pub serving_whole : new ≡ told_after (at_now (with_put (response_with front text))) old → Serving Goes' was Reads (fronts ++ front ∷ []) v' r new
    serving_whole puts = let y : Exchange = record { body = body; front = front; text = text } in record {
      earlier = s.earlier;
      mine = s.mine ++ y ∷ [];
      going = next_going;
      talks = talks_at was s.earlier (StageSo (Asks body) r s.earlier s.mine) (StageSo Reads r s.earlier (s.mine ++ y ∷ [])) (with_put (response_with front text)) old new puts (λ c so. answered_whole r s.earlier s.mine y c so) s.talks;
    }

    pub serving_last : r.closed ≡ true → new ≡ told_after (at_now (with_put (response_with front text))) old → Serving Goes' was Over (fronts ++ front ∷ []) v' r new
    serving_last closed puts = let y : Exchange = record { body = body; front = front; text = text } in record {
      earlier = s.earlier;
      mine = s.mine ++ y ∷ [];
      going = next_going;
      talks = talks_at was s.earlier (StageSo (Asks body) r s.earlier s.mine) (StageSo Over r s.earlier (s.mine ++ y ∷ [])) (with_put (response_with front text)) old new puts (λ c so. answered_last r s.earlier s.mine y c none closed so) s.talks;
    }

    pub serving_put : (last : Bool) → r.closed ≡ last → new ≡ told_after (at_now (with_put (response_with front text))) old → Serving Goes' was (goes_on (not last) Reads) (fronts ++ front ∷ []) v' r new
    serving_put true closed puts = serving_last closed puts
    serving_put false closed puts = serving_whole puts

    pub serving_part : (n : ℕ) × (n ≤ length (response_with front text)) × (new ≡ told_after (at_now (with_failed_put (take n (response_with front text)))) old) → Serving Goes' was Over (fronts ++ front ∷ []) v' r new
    serving_part puts = let y : Exchange = record { body = body; front = front; text = text } in record {
      earlier = s.earlier;
      mine = s.mine ++ y ∷ [];
      going = next_going;
      talks = talks_at was s.earlier (StageSo (Asks body) r s.earlier s.mine) (StageSo Over r s.earlier (s.mine ++ y ∷ [])) (with_failed_put (take puts.0 (response_with front text))) old new puts.2 (λ c so. answered_part r s.earlier s.mine y c puts.0 none puts.1 so) s.talks;
    }

  module _ (r' : Reading) (fronts : List ℕ) (v : View Entry Basis) (told : Option Line) (s : Serving Goes was Reads fronts v r told) where
    -- the bytes are refused
    pub serving_refused : {T E : Type 0} (status : ℕ) (new : Option Line) (result : Result T E) → ((bs : List ℕ) (bodies : List (List ℕ)) → Stands r bs bodies → Answers bs bodies (Refuse status) r')
        → LinkPuts told new (refusal_text status) result → Serving Goes was Over fronts v r' new
    serving_refused status new result answers puts = record {
      earlier = s.earlier;
      mine = s.mine;
      going = s.going;
      talks = talks_put was s.earlier (StageSo Reads r s.earlier s.mine) (StageSo Over r' s.earlier s.mine) (refusal_text status) told new result puts
          (λ c so. refused_whole r r' s.earlier s.mine status c (answers (concat c.pieces) (bodies_of s.mine) so.0).0 so.1 so.2)
          (λ c n le so. refused_part r r' s.earlier s.mine status c n le (answers (concat c.pieces) (bodies_of s.mine) so.0).0 so.1 so.2) s.talks;
    }

    -- more bytes are waited for
    pub serving_more : ((bs : List ℕ) (bodies : List (List ℕ)) → Stands r bs bodies → Answers bs bodies More r') → Serving Goes was Waits fronts v r' told
    serving_more answers = record {
      earlier = s.earlier;
      mine = s.mine;
      going = s.going;
      talks = talks_map was s.earlier (StageSo Reads r s.earlier s.mine) (StageSo Waits r' s.earlier s.mine) told
          (λ c so. let a = answers (concat c.pieces) (bodies_of s.mine) so.0 in (a.1, so.1, a.0, so.2)) s.talks;
    }

    -- a request was given
    pub serving_asks : (body : List ℕ) (last : Bool) → Some body ≡ r'.given → ((bs : List ℕ) (bodies : List (List ℕ)) → Stands r bs bodies → Answers bs bodies (Request last) r') → Serving Goes was (Asks body) fronts v r' told
    serving_asks body last given answers = record {
      earlier = s.earlier;
      mine = s.mine;
      going = s.going;
      talks = talks_map was s.earlier (StageSo Reads r s.earlier s.mine) (StageSo (Asks body) r' s.earlier s.mine) told
          (λ c so.
          let a = answers (concat c.pieces) (bodies_of s.mine) so.0 in
          let same : a.0 ≡ body = ap (λ (o : Option (List ℕ)). unwrap_or o []) (sym a.1 ∙ sym given) in
          (subst (λ l. Stands r' (concat c.pieces) (bodies_of s.mine ++ l ∷ [])) same a.3, so.1, so.2)) s.talks;
    }

  -- a step of the connection that stands
  pub serving_at : (stage next : Stage) (f : Connection → Connection) (fronts : List ℕ) (v : View Entry Basis) (old new : Option Line) → new ≡ told_after (at_now f) old
      → ((earlier mine : List Exchange) (c : Connection) → StageSo stage r earlier mine c → StageSo next r earlier mine (f c)) → Serving Goes was stage fronts v r old → Serving Goes was next fronts v r new
  serving_at stage next f fronts v old new at step s = record {
    earlier = s.earlier;
    mine = s.mine;
    going = s.going;
    talks = talks_at was s.earlier (StageSo stage r s.earlier s.mine) (StageSo next r s.earlier s.mine) f old new at (λ c so. step s.earlier s.mine c so) s.talks;
  }

  -- a piece was fed
  pub serving_fed : (r' : Reading) (piece fronts : List ℕ) (v : View Entry Basis) (told : Option Line) → ((bs : List ℕ) (bodies : List (List ℕ)) → Stands r bs bodies → Stands r' (bs ++ piece) bodies)
      → Serving Goes was (Took piece) fronts v r told → Serving Goes was Reads fronts v r' told
  serving_fed r' piece fronts v told fed s = record {
    earlier = s.earlier;
    mine = s.mine;
    going = s.going;
    talks = talks_map was s.earlier (StageSo (Took piece) r s.earlier s.mine) (StageSo Reads r' s.earlier s.mine) told (λ c so. fed_piece r r' s.earlier s.mine piece c fed so) s.talks;
  }

  -- no memory was found for a piece
  pub serving_unfed : {T E : Type 0} (r' : Reading) (piece fronts : List ℕ) (v : View Entry Basis) (old new : Option Line) (result : Result T E) → Counts Goes → LinkPuts old new (last_put NoMemory (last_front fronts)) result
      → Serving Goes was (Took piece) fronts v r old → Serving Goes was Over fronts v r' new
  serving_unfed r' piece fronts v old new result counts puts s = record {
    earlier = s.earlier;
    mine = s.mine;
    going = s.going;
    talks = talks_put was s.earlier (StageSo (Took piece) r s.earlier s.mine) (StageSo Over r' s.earlier s.mine) (last_put NoMemory (last_front (fronts_of (s.earlier ++ s.mine)))) old new result
        (subst (λ l. LinkPuts old new (last_put NoMemory (last_front l)) result) (counts fronts v (s.earlier ++ s.mine) s.going) puts)
        (λ c so. unfed_whole r r' s.earlier s.mine piece c so)
        (λ c n le so. unfed_part r r' s.earlier s.mine piece n c le so) s.talks;
  }

  -- a look
  pub serving_looked : (by : ℕ) (stage : Stage) (fronts : List ℕ) (v v' : View Entry Basis) (told : Option Line) → Stays by Goes → Hold by v v' [] → Serving Goes was stage fronts v r told → Serving Goes was stage fronts v' r told
  serving_looked by stage fronts v v' told stays hold s = record { earlier = s.earlier; mine = s.mine; going = stays fronts v v' (s.earlier ++ s.mine) hold s.going; talks = s.talks }

  pub serving_halted : (fronts : List ℕ) (v : View Entry Basis) (told : Option Line) → Serving Goes was Waits fronts v r told → Serving Goes was Halted fronts v r told
  serving_halted fronts v told s = record {
    earlier = s.earlier;
    mine = s.mine;
    going = s.going;
    talks = talks_map was s.earlier (StageSo Waits r s.earlier s.mine) (StageSo Halted r s.earlier s.mine) told (λ c so. halted r s.earlier s.mine c so) s.talks;
  }

  begins_line : (xs : List Exchange) (told : Option Line) → Stands r [] [] → r.left ≡ [] → Dials was xs told → TalksBy was xs (StageSo Waits r xs []) told
  begins_line xs None stands none d = tt
  begins_line xs (Some line) stands none d = record {
    connection = fresh;
    stands = d.0;
    gone = d.1;
    past = d.2;
    serves = d.3;
    so = (stands, (refl, refl), subst (λ l. Requests [] [] (Waiting l)) (sym none) none_waited, (inl refl, refl, refl));
  }

  -- a connection begins, and waits for its first request
  pub serving_begins : (fronts : List ℕ) (v : View Entry Basis) (told : Option Line) → Stands r [] [] → r.left ≡ [] → Begins Goes was fronts v told → Serving Goes was Waits fronts v r told
  serving_begins fronts v told stands none s = record {
    earlier = s.exchanges;
    mine = [];
    going = subst (Goes fronts v) (sym (append-nil s.exchanges)) s.going;
    talks = begins_line s.exchanges told stands none s.settled;
  }

  -- and ends
  pub serving_ends : (stop : Bool) (fronts : List ℕ) (v : View Entry Basis) (old new : Option Line) → new ≡ told_after hung_up old → Serving Goes was (halts_or stop) fronts v r old → Resting Goes was stop fronts v new
  serving_ends stop fronts v old new hung s = record { exchanges = s.earlier ++ s.mine; going = s.going; settled = hangs_up was stop r s.earlier s.mine old new hung s.talks }

-- a look of a desk over a source
pub looked_on : {X : Type 0} (going : X → ℕ → Basis → ℕ → Knows) (n : ℕ) (b : Basis) (by : ℕ) (was : List Connection) (r : Reading) (stage : Stage) (x x' : X) (fronts fronts' : List ℕ) (v v' : View Entry Basis) (told : Option Line)
    → x' ≡ x → fronts' ≡ fronts → Stays by (going x n b by) → Hold by v v' [] → Serving (going x n b by) was stage fronts v r told → Serving (going x' n b by) was stage fronts' v' r told
looked_on {X} going n b by was r stage x x' fronts fronts' v v' told same same_fronts stays hold s =
    subst (λ (y : X). Serving (going y n b by) was stage fronts' v' r told) (sym same)
    (subst (λ (l : List ℕ). Serving (going x n b by) was stage l v' r told) (sym same_fronts) (serving_looked (going x n b by) was r by stage fronts v v' told stays hold s))

given_by : (o : Option ℕ) (old new : Reading) (last : Bool) → steps_by o (Request last) old new → (body : List ℕ) × (Some body ≡ new.given) × (new.refused ≡ None) × (new.closed ≡ last)
given_by None old new last s = (s.0, sym (ap (λ r. r.given) s.2), ap (λ r. r.refused) s.2, ap (λ r. r.closed) s.2)
given_by (Some status) old new last s = absurd (let e : Request last ≡ Refuse status = s.0 in cc)

-- what a given request leaves of the reader
pub given_of : (old new : Reading) (last : Bool) → Steps old (Request last) new → (body : List ℕ) × (Some body ≡ new.given) × (new.refused ≡ None) × (new.closed ≡ last)
given_of old new last s = given_by old.refused old new last s

-- ---- between connections

pub resting_first : (Goes : Knows) (v : View Entry Basis) (old new : Option Line) → Goes [] v [] → new ≡ told_after hung_up old → Resting Goes (past_of (told_after hung_up old)) false [] v new
resting_first Goes v old new none hung = record {
  exchanges = [];
  going = none;
  settled = subst (Settled false (past_of (told_after hung_up old)) []) (sym hung) (settled_first (told_after hung_up old) (idle_hung old));
}

pub resting_looked : (Goes : Knows) (by : ℕ) (was : List Connection) (stop : Bool) (fronts : List ℕ) (v v' : View Entry Basis) (told : Option Line) → Stays by Goes → Hold by v v' [] → Resting Goes was stop fronts v told → Resting Goes was stop fronts v' told
resting_looked Goes by was stop fronts v v' told stays hold s = record { exchanges = s.exchanges; going = stays fronts v v' s.exchanges hold s.going; settled = s.settled }

-- the last entries
pub resting_ends : (b : Basis) (by : ℕ) (was : List Connection) (stop stops : Bool) (time : Time) (fronts : List ℕ) (v v' : View Entry Basis) (told : Option Line) → EndedHold by time stops v v'
    → (stop ≡ true → is_stopped v.seen ≡ true) → Resting (Going b by) was stop fronts v told → Ends b by stops fronts v' was told
resting_ends b by was stop stops time fronts v v' told ended stands s =
    let before : List Entry = v.seen ++ ended.hold.others in
    let last : List Entry = last_entries stops by time before in
    let seen : v'.seen ≡ v.seen ++ (ended.hold.others ++ last) = ended.hold.seen ∙ ap (λ l. v.seen ++ (ended.hold.others ++ l)) ended.words in record {
      time = time;
      before = before;
      seen = seen ∙ sym (append_assoc v.seen ended.hold.others last);
      told_so = record {
        exchanges = s.exchanges;
        fronts_are = s.going.fronts_are;
        among = subst (Among fronts) (sym ended.hold.found) (among_more fronts v.found (length (v.seen ++ ended.hold.others) ∷ []) s.going.among);
        stand = subst (Exchanges b by [] s.exchanges last) (sym seen) (exchanges_end b by s.exchanges v.seen ended.hold.others last s.going.stand ended.hold.strange (last_own by time stops before));
        settled = settled_at stop (is_stopped v'.seen) was s.exchanges told (λ e. ap is_stopped ended.hold.seen ∙ stop_kept v.seen (ended.hold.others ++ ended.added) (stands e)) s.settled;
      };
    }
