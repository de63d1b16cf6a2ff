-- A maker is connected from its Opened to its Closed.
use Rattle.std.proofs.Common.{◌≡◌, ℕ, suc, ◌+◌, ◌==◌, Bool, true, false, cond, ◌||◌, not, List, [], ◌∷◌, ◌++◌, length, Option, Some, None, refl, sym, ◌∙◌, ap, arith, length-append, unwrap_or, eq-eqb, inl, inr}
use Rattle.std.specs.Prelude.{if◌then◌else◌, ◌≢◌}
use Rattle.std.proofs.lemmas.List.Sums.{sum_by-cons}
use Rattle.cts_def.specs.declared.bad_cause.BadCause.{BadCause}
use Rattle.cts_entry.specs.declared.entry.Entry.{Entry}
use Rattle.cts_entry.specs.declared.what.What.{What}
use Rattle.cts_entry.specs.declared.what.What.TheVariants.{Opened}
use Rattle.cts_entry.specs.declared.why.Why.{Why}
use Rattle.cts_entry.specs.declared.why.Why.TheVariants.{BadFrame, NoMemory, Full}
use Rattle.cts_entry.specs.Histories.{latest, or_earlier, connects, connects_maker, is_own}
use Rattle.cts_entry.specs.Places.{Posts}
use Rattle.cts_entry.specs.Queues.{is_refused, refused, put_whole}
use Rattle.cts_entry.proofs.Appending.{latest-append, connected-append}
use Rattle.cts_entry.proofs.Queuing.{none_connected}
use Rattle.cts_framing.specs.Framing.{Output}
use Rattle.cts_framing.specs.Packets.{Fault}
use Rattle.cts_trace.specs.Routing.{Routing, spell}
use Rattle.cts_trace.specs.Connections.{Says, Shows, Blames, Left, is_bad_frame}
use Rattle.cts_trace.specs.Laws.{UnsentIsRest, ConnectedWithin, ConnectedMeanwhile, BadFrameIsOfChain, AllIsPosted}
use Rattle.cts_trace.proofs.Walks.{said, none_if}

connects_if : (b : Bool) (o : Option Bool) → b ≡ true → (if b then o else None) ≡ o
connects_if true o h = refl
connects_if false o h = absurd (cc h)

pub says_connects : (m : ℕ) (e : Entry) (what : What) → Says m e what → connects_maker m e ≡ connects what
says_connects m e what says = connects_if (e.by == m) (connects e.what) (eq-eqb e.by m says.maker) ∙ ap connects says.what_is

-- entries that show packets open and close nothing

pub shown_connect : (g : Routing) (m : ℕ) (before : List Entry) (e : Entry) (es : List Entry) (packets : List Output) (b : Bool) → is_own m e ≡ b → Posts m (Shows g m) before (e ∷ es) packets
    → (connects_maker m e ≡ None) × ((more : List Output) × Posts m (Shows g m) (before ++ e ∷ []) es more)
shown_connect g m before e es packets true own posts =
    let r = posts.0 own in
    (none_if (e.by == m) (connects e.what) (ap connects r.3.0 ∙ (said g before m r.0).connects), (r.1, r.4))
shown_connect g m before e es packets false own posts = (none_connected m (e ∷ []) (ap (λ (b : Bool). b || false) own), (packets, posts.1 own))

pub posts_connect : (g : Routing) (m : ℕ) (before entries : List Entry) (packets : List Output) → Posts m (Shows g m) before entries packets → latest (connects_maker m) entries ≡ None
posts_connect g m before [] packets posts = refl
posts_connect g m before (e ∷ es) packets posts =
    let s = shown_connect g m before e es packets (is_own m e) refl posts in
    ap (λ (t : Option Bool). or_earlier t (connects_maker m e)) (posts_connect g m (before ++ e ∷ []) es s.1.0 s.1.1) ∙ s.0

pub connected_meanwhile : ConnectedMeanwhile
connected_meanwhile g m before pieces bytes entries t =
    let quiet = posts_connect g m (before ++ t.opened ∷ []) t.between t.carries.posted t.carries.posts in
    let whole : latest (connects_maker m) entries ≡ Some true =
    ap (latest (connects_maker m)) t.entries_are ∙ (ap (λ (o : Option Bool). or_earlier o (connects_maker m t.opened)) quiet ∙ says_connects m t.opened Opened t.opens) in
    connected-append m before entries ∙ ap (λ (o : Option Bool). unwrap_or (or_earlier o (latest (connects_maker m) before)) false) whole

pub connected_within : ConnectedWithin
connected_within g m before pieces bytes entries s =
    let quiet = posts_connect g m (before ++ s.opened ∷ []) s.between s.carries.posted s.carries.posts in
    let opened : latest (connects_maker m) (s.opened ∷ s.between) ≡ Some true = ap (λ (t : Option Bool). or_earlier t (connects_maker m s.opened)) quiet ∙ says_connects m s.opened Opened s.opens in
    let closed : connects_maker m s.closed ≡ Some false = says_connects m s.closed _ s.closes in
    let last : latest (connects_maker m) (s.between ++ s.closed ∷ []) ≡ Some false =
    latest-append (connects_maker m) s.between (s.closed ∷ []) ∙ ap (λ (t : Option Bool). or_earlier t (latest (connects_maker m) s.between)) closed in
    let whole : latest (connects_maker m) entries ≡ Some false = ap (latest (connects_maker m)) s.entries_are ∙ ap (λ (t : Option Bool). or_earlier t (connects_maker m s.opened)) last in (
      connected-append m before (s.opened ∷ s.between) ∙ ap (λ (t : Option Bool). unwrap_or (or_earlier t (latest (connects_maker m) before)) false) opened,
      connected-append m before entries ∙ ap (λ (t : Option Bool). unwrap_or (or_earlier t (latest (connects_maker m) before)) false) whole,
    )

-- what was refused and what was put whole is all that is done

refused_or_put : (spell : Entry → Option (List ℕ)) (done : List Entry) → refused spell done + put_whole spell done ≡ length done
refused_or_put spell [] = refl
refused_or_put spell (e ∷ es) =
    let more = refused_or_put spell es in
    let a = sum_by-cons (λ (x : Entry). cond (is_refused (spell x)) 1 0) e es in
    let b = sum_by-cons (λ (x : Entry). cond (not (is_refused (spell x))) 1 0) e es in
    one_more (is_refused (spell e)) (refused spell es) (put_whole spell es) (length es) (refused spell (e ∷ es)) (put_whole spell (e ∷ es)) more a b
  where
    one_more : (b : Bool) (r p n r' p' : ℕ) → r + p ≡ n → r' ≡ cond b 1 0 + r → p' ≡ cond (not b) 1 0 + p → r' + p' ≡ suc n
    one_more true r p n r' p' h i j = omega (arith, h, i, j)
    one_more false r p n r' p' h i j = omega (arith, h, i, j)

pub unsent_is_rest : UnsentIsRest
unsent_is_rest g m between done rest e =
    let all = refused_or_put (spell g m) done in
    omega (arith, all, ap length e, length-append done rest)

-- why a connection was closed, and what is left then

blamed : (fault : Option Fault) (why : Why) (stage : ℕ) (cause : BadCause) → Blames fault why → why ≡ BadFrame stage cause → fault ≡ Some (record { stage = stage; cause = cause })
blamed None why stage cause blames is = absurd (let bad = ap is_bad_frame is in let f : is_bad_frame why ≡ false = blames in cc)
blamed (Some fault) why stage cause (inl says) is =
    let same : BadFrame fault.stage fault.cause ≡ BadFrame stage cause = sym says ∙ is in
    let a : fault.stage ≡ stage = cc in
    let b : fault.cause ≡ cause = cc in
    ap (λ (n : ℕ). Some (record { stage = n; cause = fault.cause })) a ∙ ap (λ (c : BadCause). Some (record { stage = stage; cause = c })) b
blamed (Some fault) why stage cause (inr (inl full)) is = absurd (let f : BadFrame stage cause ≡ Full = sym is ∙ full in cc)
blamed (Some fault) why stage cause (inr (inr none)) is = absurd (let f : BadFrame stage cause ≡ NoMemory = sym is ∙ none in cc)

pub bad_frame_is_of_chain : BadFrameIsOfChain
bad_frame_is_of_chain g m before pieces bytes entries s stage cause is = blamed _ s.why stage cause s.blames is

none_left : (g : Routing) (m : ℕ) (why : Why) (fed : List (List ℕ)) (posted left : List Output) → Left g m why fed posted left → why ≢ Full → why ≢ NoMemory → left ≡ []
none_left g m why fed posted left (inl none) full memory = none
none_left g m why fed posted left (inr (earlier, last, cuts, given, more, fed_is, packets, posted_is, inl is)) full memory = absurd (full is.0)
none_left g m why fed posted left (inr (earlier, last, cuts, given, more, fed_is, packets, posted_is, inr is)) full memory = absurd (memory is)

pub all_is_posted : AllIsPosted
all_is_posted g m before pieces bytes entries s full memory = none_left g m s.why s.fed s.carries.posted s.left s.left_is full memory
