-- Each text asks for something or fails somewhere.
use Rattle.std.proofs.Common.{◌≡◌, ℕ, zero, suc, ◌+◌, ◌-◌, ◌<◌, ◌≤◌, ◌⊎◌, Bool, true, false, List, [], ◌∷◌, ◌++◌, length, take, drop, refl, sym, ◌∙◌, subst, arith, ◌==◌, inl, inr}
use Rattle.std.specs.Prelude.{codes, not}
use Rattle.std.specs.List.{position_or_len}
use Rattle.std.proofs.lemmas.Bool.{cases_Bool, cases_lt, eqb-true}
use Rattle.std.proofs.lemmas.List.Sums.{prefix_len-le-length}
use Rattle.cts_base.specs.Names.{spells}
use Rattle.cts_cmd.specs.declared.request.Given.{Given}
use Rattle.cts_cmd.specs.declared.request.Given.TheVariants.{Text}
use Rattle.cts_cmd.specs.declared.request.Request.{Request}
use Rattle.cts_cmd.specs.declared.text_fault.TextCause.{TextCause}
use Rattle.cts_cmd.specs.declared.text_fault.TextCause.TheVariants.{NoTarget, NoCommand, NoWith, NoName, NoValue, OpenQuote, NoComma}
use Rattle.cts_cmd.specs.Words.{is_over, is_white, is_comma, is_quote, is_white_or_comma, begins_with_quote, IsAfterWhite, IsWordFirst}
use Rattle.cts_cmd.specs.Texts.{given_by, AreParams, Fails, FailsFirst, FailsInParams, FailsInTail, FailsValue, IsHead, IsParamFirst, IsTail, IsValueFirst, IsWith}
use Rattle.cts_cmd.specs.Laws.{IsFault, IsRequest}
use Rattle.cts_cmd.proofs.Runs.{after_run, none_passes, over_after, parts_at, passes_before, word_run}
use Rattle.cts_cmd.proofs.Firsts.{after_itself, after_unique, comma_there, nothing_there, word_begins, word_here}
use Rattle.cts_cmd.proofs.Params.{next_within}
use Rattle.cts_cmd.proofs.Failing.{fails_within, params_fail, tail_fails, value_fails}

-- ---- words

abbrev HasBehind : List ℕ → Type 0
HasBehind text = (here : List ℕ) × IsAfterWhite text here

after_here : (text : List ℕ) → HasBehind text
after_here text = (drop (position_or_len (λ c. not (is_white c)) text) text, after_run text)

abbrev HasWord : (ℕ → Bool) → List ℕ → Type 0
HasWord p text = (word : List ℕ) × (rest : List ℕ) × IsWordFirst p text word rest

abbrev IsOverThere : (ℕ → Bool) → List ℕ → Type 0
IsOverThere p text = (here : List ℕ) × IsAfterWhite text here × (is_over p here ≡ true)

word_so : (p : ℕ → Bool) (text here : List ℕ) (n : ℕ) → IsAfterWhite text here → n ≡ position_or_len p here → HasWord p text ⊎ IsOverThere p text
word_so p text here zero b is = inr (here, b, subst (λ m. is_over p (drop m here) ≡ true) (sym is) (over_after p here))
word_so p text here (suc n) b is =
    inl (take (suc n) here, drop (suc n) here, word_run p text here (suc n) b is (omega arith) (subst (λ m. m ≤ length here) (sym is) (prefix_len-le-length (λ x. not (p x)) here)))

word_or_over : (p : ℕ → Bool) (text : List ℕ) → HasWord p text ⊎ IsOverThere p text
word_or_over p text = let b = after_here text in word_so p text b.0 (position_or_len p b.0) b.1 refl

-- ---- values

abbrev HasValue : List ℕ → Type 0
HasValue text = (given : Given) × (rest : List ℕ) × IsValueFirst text given rest

abbrev HasNoValue : List ℕ → Type 0
HasNoValue text = (cause : TextCause) × (here : List ℕ) × FailsValue cause text here

quoted_so : (text tail : List ℕ) (q : ℕ) → IsAfterWhite text (q ∷ tail) → is_quote q ≡ true
    → (position_or_len (λ c. c == q) tail < length tail) ⊎ (length tail ≤ position_or_len (λ c. c == q) tail) → HasValue text ⊎ HasNoValue text
quoted_so text tail q b quote (inl lt) =
    let n = position_or_len (λ c. c == q) tail in
    let word = take n tail in
    let rest = drop (n + 1) tail in
    let there : IsAfterWhite text (q ∷ (word ++ q ∷ rest)) = subst (λ (t : List ℕ). IsAfterWhite text (q ∷ t)) (parts_at q tail lt) b in
    inl (Text word, rest, inl (word, record { quote = q; after = there; begin = quote; bytes = passes_before (λ c. c == q) tail }, refl))
quoted_so text tail q b quote (inr ge) =
    inr (OpenQuote, q ∷ tail, (b, record { quote = q; word = tail; parts = refl; begin = quote; bytes = none_passes (λ c. c == q) tail ge }))

bare_so : (text here : List ℕ) → IsAfterWhite text here → begins_with_quote here ≡ false → HasWord is_white_or_comma here ⊎ IsOverThere is_white_or_comma here → HasValue text ⊎ HasNoValue text
bare_so text here b bare (inl w) =
    inl (given_by w.0, w.1, inr (w.0, word_here is_white_or_comma text here w.0 w.1 b w.2, word_begins is_white_or_comma text here w.0 w.1 b w.2 ∙ bare, refl))
bare_so text here b bare (inr o) =
    let same = after_unique here o.0 here o.1 (after_itself text here b) in
    inr (NoValue, here, (b, comma_there here b.black (subst (λ h. is_over is_white_or_comma h ≡ true) same o.2)))

value_at : (text here : List ℕ) → IsAfterWhite text here → HasValue text ⊎ HasNoValue text
value_at text [] b = inr (NoValue, [], (b, refl))
value_at text (c ∷ tail) b =
    elim (cases_Bool (is_quote c)) [
      | inl quote ↦ quoted_so text tail c b quote (cases_lt (position_or_len (λ d. d == c) tail) (length tail))
      | inr bare ↦ bare_so text (c ∷ tail) b bare (word_or_over is_white_or_comma (c ∷ tail))
    ]

value_or_not : (text : List ℕ) → HasValue text ⊎ HasNoValue text
value_or_not text = let b = after_here text in value_at text b.0 b.1

-- ---- parameters

abbrev HasParam : List ℕ → Type 0
HasParam text = (param : List ℕ × Given) × (rest : List ℕ) × IsParamFirst text param rest

abbrev HasNoParam : List ℕ → Type 0
HasNoParam text = (cause : TextCause) × (here : List ℕ) × FailsFirst cause text here

named_so : (text name gap : List ℕ) → IsWordFirst is_white_or_comma text name gap → HasValue gap ⊎ HasNoValue gap → HasParam text ⊎ HasNoParam text
named_so text name gap w (inl v) = inl ((name, v.0), v.1, record { gap = gap; name = w; value = v.2 })
named_so text name gap w (inr f) = inr (f.0, f.1, value_fails text name gap w f.0 f.1 f.2)

param_so : (text : List ℕ) → HasWord is_white_or_comma text ⊎ IsOverThere is_white_or_comma text → HasParam text ⊎ HasNoParam text
param_so text (inl w) = named_so text w.0 w.1 w.2 (value_or_not w.1)
param_so text (inr o) = inr (NoName, o.0, (o.1, comma_there o.0 o.1.black o.2))

param_or_not : (text : List ℕ) → HasParam text ⊎ HasNoParam text
param_or_not text = param_so text (word_or_over is_white_or_comma text)

abbrev HasParams : List ℕ → Type 0
HasParams text = (params : List (List ℕ × Given)) × AreParams params text

abbrev HasBadParams : List ℕ → Type 0
HasBadParams text = (cause : TextCause) × (here : List ℕ) × FailsInParams cause text here

joined : (text after next : List ℕ) (p : List ℕ × Given) (ps : List (List ℕ × Given)) → IsParamFirst text p after → IsAfterWhite after (44 ∷ next) → AreParams ps next → HasParams text
joined text after next p [] is comma more = absurd more
joined text after next p (q ∷ ps) is comma more = (p ∷ (q ∷ ps), (after, next, is, comma, more))

more_so : (text after next : List ℕ) (p : List ℕ × Given) → IsParamFirst text p after → IsAfterWhite after (44 ∷ next) → HasParams next ⊎ HasBadParams next → HasParams text ⊎ HasBadParams text
more_so text after next p is comma (inl s) = inl (joined text after next p s.0 is comma s.1)
more_so text after next p is comma (inr f) = inr (f.0, f.1, (p ∷ f.2.0, f.2.1, (after, next, is, comma, f.2.2), f.2.3))

next_so : (text after here : List ℕ) (p : List ℕ × Given) → IsParamFirst text p after → IsAfterWhite after here
    → ((next : List ℕ) → length next < length text → HasParams next ⊎ HasBadParams next) → HasParams text ⊎ HasBadParams text
next_so text after [] p is b again = inl (p ∷ [], (after, is, b))
next_so text after (c ∷ next) p is b again =
    elim (cases_Bool (is_comma c)) [
      | inl comma ↦
          let there : IsAfterWhite after (44 ∷ next) = subst (λ (x : ℕ). IsAfterWhite after (x ∷ next)) (eqb-true c 44 comma) b in
          more_so text after next p is there (again next (next_within text p after next is there))
      | inr other ↦ inr (NoComma, c ∷ next, ([], text, refl, (p, after, is, b, other)))
    ]

params_so : (text : List ℕ) → ((next : List ℕ) → length next < length text → HasParams next ⊎ HasBadParams next) → HasParam text ⊎ HasNoParam text → HasParams text ⊎ HasBadParams text
params_so text again (inl s) = let b = after_here s.1 in next_so text s.1 b.0 s.0 s.2 b.1 again
params_so text again (inr f) = inr (f.0, f.1, ([], text, refl, f.2))

params_below : (n : ℕ) (text : List ℕ) → length text < n → HasParams text ⊎ HasBadParams text
params_below zero text lt = absurd (omega arith)
params_below (suc n) text lt = params_so text (λ next less. params_below n next (omega (arith, lt, less))) (param_or_not text)

params_or_not : (text : List ℕ) → HasParams text ⊎ HasBadParams text
params_or_not text = params_below (length text + 1) text (omega arith)

-- ---- texts

abbrev HasTail : List ℕ → Type 0
HasTail text = (params : List (List ℕ × Given)) × IsTail text params

abbrev HasBadTail : List ℕ → Type 0
HasBadTail text = (cause : TextCause) × (here : List ℕ) × FailsInTail cause text here

with_params : (text rest : List ℕ) (params : List (List ℕ × Given)) → IsWith text rest → AreParams params rest → HasTail text
with_params text rest [] w are = absurd are
with_params text rest (p ∷ ps) w are = (p ∷ ps, (rest, w, are))

with_so : (text rest : List ℕ) → IsWith text rest → HasParams rest ⊎ HasBadParams rest → HasTail text ⊎ HasBadTail text
with_so text rest w (inl s) = inl (with_params text rest s.0 w s.1)
with_so text rest w (inr f) = inr (f.0, f.1, params_fail text rest w f.0 f.1 f.2)

tail_so : (text : List ℕ) → HasWord is_white text ⊎ IsOverThere is_white text → HasTail text ⊎ HasBadTail text
tail_so text (inl w) =
    elim (cases_Bool (spells w.0 (codes "WITH"))) [
      | inl is ↦ with_so text w.1 (w.0, w.2, is) (params_or_not w.1)
      | inr other ↦ let b = after_here text in inr (NoWith, b.0, (w.0, w.1, b.1, w.2, other))
    ]
tail_so text (inr o) = inl ([], subst (IsAfterWhite text) (nothing_there o.0 o.1.black o.2) o.1)

place_of : (text here : List ℕ) (cause : TextCause) → Fails cause text here → IsFault text
place_of text here cause f = (length text - length here, cause, (here, f, (let less = fails_within cause text here f in omega (arith, less))))

headed : (text target command rest : List ℕ) → IsHead text target command rest → HasTail rest ⊎ HasBadTail rest → IsRequest text ⊎ IsFault text
headed text target command rest h (inl s) =
    let r : Request = record { target = target; command = command; params = s.0 } in
    inl (r, record { rest = rest; head = h; tail = s.1 })
headed text target command rest h (inr f) = inr (place_of text f.1 f.0 (tail_fails text target command rest h f.0 f.1 f.2))

second_so : (text target gap : List ℕ) → IsWordFirst is_white text target gap → HasWord is_white gap ⊎ IsOverThere is_white gap → IsRequest text ⊎ IsFault text
second_so text target gap first (inl w) =
    let h : IsHead text target w.0 w.1 = record { gap = gap; first = first; second = w.2 } in
    headed text target w.0 w.1 h (tail_so w.1 (word_or_over is_white w.1))
second_so text target gap first (inr o) = inr (place_of text o.0 NoCommand (target, gap, first, o.1, nothing_there o.0 o.1.black o.2))

first_so : (text : List ℕ) → HasWord is_white text ⊎ IsOverThere is_white text → IsRequest text ⊎ IsFault text
first_so text (inl w) = second_so text w.0 w.1 w.2 (word_or_over is_white w.1)
first_so text (inr o) = inr (place_of text o.0 NoTarget (o.1, nothing_there o.0 o.1.black o.2))

pub read_or_fails : (text : List ℕ) → IsRequest text ⊎ IsFault text
read_or_fails text = first_so text (word_or_over is_white text)
