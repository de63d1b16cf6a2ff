-- A text asks for one command alone, or fails at one place for one cause.
use Rattle.std.proofs.Common.{◌≡◌, ℕ, ◌+◌, false, List, [], ◌∷◌, length, refl, sym, ap, ◌∙◌, subst, inl, inr, ◌⊎◌, arith, Result, Ok, Err}
use Rattle.std.specs.Prelude.{codes}
use Rattle.cts_base.specs.Names.{spells}
use Rattle.cts_cmd.specs.declared.request.Given.{Given}
use Rattle.cts_cmd.specs.declared.request.Request.{Request}
use Rattle.cts_cmd.specs.declared.text_fault.TextCause.{TextCause}
use Rattle.cts_cmd.specs.declared.text_fault.TextCause.TheVariants.{NoTarget, NoCommand, NoWith, NoName, NoValue, OpenQuote, NoComma}
use Rattle.cts_cmd.specs.declared.text_fault.TextFault.{TextFault}
use Rattle.cts_cmd.specs.declared.text_fault.TextFault.TheVariants.{Refused, Memory}
use Rattle.cts_cmd.specs.Words.{is_over, is_white, IsAfterWhite, IsWordFirst}
use Rattle.cts_cmd.specs.Laws.{IsReadInOneWay}
use Rattle.cts_cmd.specs.Texts.{AreParams, AreParamsFirst, Fails, FailsAt, FailsInParams, FailsInTail, IsCommandText, IsHead, IsOrMemory, IsRead, IsTail, IsWith}
use Rattle.cts_cmd.proofs.Firsts.{after_unique, word_unique}
use Rattle.cts_cmd.proofs.Unique.{not_both, params_fail_unique, params_or_fail, params_unique, word_not_over}

no_word : (text w rest here : List ℕ) → IsWordFirst is_white text w rest → IsAfterWhite text here → here ≡ [] → ⊥
no_word text w rest here s after end = word_not_over is_white text w rest here s after (ap (is_over is_white) end)

with_unique : (text xs ys : List ℕ) → IsWith text xs → IsWith text ys → xs ≡ ys
with_unique text xs ys s t = (word_unique is_white text s.0 t.0 xs ys s.1 t.1).1

tail_unique : (ps qs : List (List ℕ × Given)) (text : List ℕ) → IsTail text ps → IsTail text qs → ps ≡ qs
tail_unique [] [] text s t = refl
tail_unique [] (q ∷ qs) text s t = absurd (no_word text t.1.0 t.0 [] t.1.1 s refl)
tail_unique (p ∷ ps) [] text s t = absurd (no_word text s.1.0 s.0 [] s.1.1 t refl)
tail_unique (p ∷ ps) (q ∷ qs) text s t = params_unique (p ∷ ps) (q ∷ qs) t.0 (subst (AreParams (p ∷ ps)) (with_unique text s.0 t.0 s.1 t.1) s.2) t.2

abbrev IsNoWith : TextCause → List ℕ → List ℕ → Type 0
IsNoWith c text here = (c ≡ NoWith) × (word : List ℕ) × (rest : List ℕ) × IsAfterWhite text here × IsWordFirst is_white text word rest × (spells word (codes "WITH") ≡ false)

abbrev AreBadParams : TextCause → List ℕ → List ℕ → Type 0
AreBadParams c text here = (rest : List ℕ) × IsWith text rest × FailsInParams c rest here

abbrev TailCause : TextCause → List ℕ → List ℕ → Type 0
TailCause c text here = IsNoWith c text here ⊎ AreBadParams c text here

tail_cause : (c : TextCause) (text here : List ℕ) → FailsInTail c text here → TailCause c text here
tail_cause NoTarget text here f = absurd f
tail_cause NoCommand text here f = absurd f
tail_cause NoWith text here f = inl (refl, f.0, f.1, f.2, f.3, f.4)
tail_cause NoName text here f = inr f
tail_cause NoComma text here f = inr f
tail_cause NoValue text here f = inr f
tail_cause OpenQuote text here f = inr f

other_word : (text word rest xs : List ℕ) → IsWordFirst is_white text word rest → spells word (codes "WITH") ≡ false → IsWith text xs → ⊥
other_word text word rest xs s differs t =
    let same = word_unique is_white text word t.0 rest xs s t.1 in
    not_both (spells t.0 (codes "WITH")) t.2 (ap (λ (w : List ℕ). spells w (codes "WITH")) (sym same.0) ∙ differs)

tail_or_fails_so : (ps : List (List ℕ × Given)) (c : TextCause) (text here : List ℕ) → IsTail text ps → TailCause c text here → ⊥
tail_or_fails_so [] c text here s (inl f) = no_word text f.1 f.2 [] f.4 s refl
tail_or_fails_so [] c text here s (inr f) = no_word text f.1.0 f.0 [] f.1.1 s refl
tail_or_fails_so (p ∷ ps) c text here s (inl f) = other_word text f.1 f.2 s.0 f.4 f.5 s.1
tail_or_fails_so (p ∷ ps) c text here s (inr f) =
    params_or_fail (p ∷ ps) f.2.0 c f.0 f.2.1 here (subst (AreParams (p ∷ ps)) (with_unique text s.0 f.0 s.1 f.1) s.2) f.2.2 f.2.3

tail_or_fails : (ps : List (List ℕ × Given)) (c : TextCause) (text here : List ℕ) → IsTail text ps → FailsInTail c text here → ⊥
tail_or_fails ps c text here s f = tail_or_fails_so ps c text here s (tail_cause c text here f)

tail_fails_so : (c d : TextCause) (text here there : List ℕ) → TailCause c text here → TailCause d text there → (c ≡ d) × (here ≡ there)
tail_fails_so c d text here there (inl f) (inl g) = (f.0 ∙ sym g.0, after_unique text here there f.3 g.3)
tail_fails_so c d text here there (inl f) (inr g) = absurd (other_word text f.1 f.2 g.0 f.4 f.5 g.1)
tail_fails_so c d text here there (inr f) (inl g) = absurd (other_word text g.1 g.2 f.0 g.4 g.5 f.1)
tail_fails_so c d text here there (inr f) (inr g) =
    let same = with_unique text f.0 g.0 f.1 g.1 in
    params_fail_unique f.2.0 g.2.0 c d g.0 f.2.1 g.2.1 here there (subst (λ x. AreParamsFirst f.2.0 x f.2.1) same f.2.2) f.2.3 g.2.2 g.2.3

-- ---- texts

head_unique : (text target command rest other name past : List ℕ) → IsHead text target command rest → IsHead text other name past → (target ≡ other) × (command ≡ name) × (rest ≡ past)
head_unique text target command rest other name past s t =
    let first = word_unique is_white text target other s.gap t.gap s.first t.first in
    let second = word_unique is_white t.gap command name rest past (subst (λ g. IsWordFirst is_white g command rest) first.1 s.second) t.second in
    (first.0, second.0, second.1)

same_request : (t u c d : List ℕ) (ps qs : List (List ℕ × Given)) → t ≡ u → c ≡ d → ps ≡ qs
    → let one : Request = record { target = t; command = c; params = ps } in let other : Request = record { target = u; command = d; params = qs } in one ≡ other
same_request t u c d ps qs e f g =
    ap (λ (x : List ℕ). let r : Request = record { target = x; command = c; params = ps } in r) e
    ∙ ap (λ (x : List ℕ). let r : Request = record { target = u; command = x; params = ps } in r) f
    ∙ ap (λ (x : List (List ℕ × Given)). let r : Request = record { target = u; command = d; params = x } in r) g

pub request_unique : (text : List ℕ) (r s : Request) → IsCommandText text r → IsCommandText text s → r ≡ s
request_unique text r s a b =
    let head = head_unique text r.target r.command a.rest s.target s.command b.rest a.head b.head in
    let params = tail_unique r.params s.params b.rest (subst (λ x. IsTail x r.params) head.2 a.tail) b.tail in
    same_request r.target s.target r.command s.command r.params s.params head.0 head.1 params

abbrev IsNoTarget : TextCause → List ℕ → List ℕ → Type 0
IsNoTarget c text here = (c ≡ NoTarget) × IsAfterWhite text here × (here ≡ [])

abbrev IsNoCommand : TextCause → List ℕ → List ℕ → Type 0
IsNoCommand c text here = (c ≡ NoCommand) × (target : List ℕ) × (gap : List ℕ) × IsWordFirst is_white text target gap × IsAfterWhite gap here × (here ≡ [])

abbrev IsBadTail : TextCause → List ℕ → List ℕ → Type 0
IsBadTail c text here = (target : List ℕ) × (command : List ℕ) × (rest : List ℕ) × IsHead text target command rest × FailsInTail c rest here

abbrev Cause : TextCause → List ℕ → List ℕ → Type 0
Cause c text here = IsNoTarget c text here ⊎ (IsNoCommand c text here ⊎ IsBadTail c text here)

cause : (c : TextCause) (text here : List ℕ) → Fails c text here → Cause c text here
cause NoTarget text here f = inl (refl, f.0, f.1)
cause NoCommand text here f = inr (inl (refl, f.0, f.1, f.2, f.3, f.4))
cause NoWith text here f = inr (inr f)
cause NoName text here f = inr (inr f)
cause NoComma text here f = inr (inr f)
cause NoValue text here f = inr (inr f)
cause OpenQuote text here f = inr (inr f)

no_second : (text target command rest other gap here : List ℕ) → IsHead text target command rest → IsWordFirst is_white text other gap → IsAfterWhite gap here → here ≡ [] → ⊥
no_second text target command rest other gap here s t after end =
    let same = word_unique is_white text target other s.gap gap s.first t in
    no_word gap command rest here (subst (λ g. IsWordFirst is_white g command rest) same.1 s.second) after end

request_or_fails_so : (text : List ℕ) (r : Request) (c : TextCause) (here : List ℕ) → IsCommandText text r → Cause c text here → ⊥
request_or_fails_so text r c here s (inl f) = no_word text r.target s.head.gap here s.head.first f.1 f.2
request_or_fails_so text r c here s (inr (inl f)) = no_second text r.target r.command s.rest f.1 f.2 here s.head f.3 f.4 f.5
request_or_fails_so text r c here s (inr (inr f)) =
    let head = head_unique text r.target r.command s.rest f.0 f.1 f.2 s.head f.3 in
    tail_or_fails r.params c f.2 here (subst (λ x. IsTail x r.params) head.2 s.tail) f.4

request_or_fails : (text : List ℕ) (r : Request) (c : TextCause) (here : List ℕ) → IsCommandText text r → Fails c text here → ⊥
request_or_fails text r c here s f = request_or_fails_so text r c here s (cause c text here f)

fails_so : (c d : TextCause) (text here there : List ℕ) → Cause c text here → Cause d text there → (c ≡ d) × (here ≡ there)
fails_so c d text here there (inl f) (inl g) = (f.0 ∙ sym g.0, f.2 ∙ sym g.2)
fails_so c d text here there (inl f) (inr (inl g)) = absurd (no_word text g.1 g.2 here g.3 f.1 f.2)
fails_so c d text here there (inl f) (inr (inr g)) = absurd (no_word text g.0 g.3.gap here g.3.first f.1 f.2)
fails_so c d text here there (inr (inl f)) (inl g) = absurd (no_word text f.1 f.2 there f.3 g.1 g.2)
fails_so c d text here there (inr (inl f)) (inr (inl g)) = (f.0 ∙ sym g.0, f.5 ∙ sym g.5)
fails_so c d text here there (inr (inl f)) (inr (inr g)) = absurd (no_second text g.0 g.1 g.2 f.1 f.2 here g.3 f.3 f.4 f.5)
fails_so c d text here there (inr (inr f)) (inl g) = absurd (no_word text f.0 f.3.gap there f.3.first g.1 g.2)
fails_so c d text here there (inr (inr f)) (inr (inl g)) = absurd (no_second text f.0 f.1 f.2 g.1 g.2 there f.3 g.3 g.4 g.5)
fails_so c d text here there (inr (inr f)) (inr (inr g)) =
    let head = head_unique text f.0 f.1 f.2 g.0 g.1 g.2 f.3 g.3 in
    tail_fails_so c d g.2 here there (tail_cause c g.2 here (subst (λ x. FailsInTail c x here) head.2 f.4)) (tail_cause d g.2 there g.4)

-- ---- one way alone

same_place : (place other a b n : ℕ) → a ≡ b → place + a ≡ n → other + b ≡ n → place ≡ other
same_place place other a b n e f g = omega (arith, e, f, g)

fault_unique : (text : List ℕ) (place other : ℕ) (c d : TextCause) → FailsAt text place c → FailsAt text other d → (place ≡ other) × (c ≡ d)
fault_unique text place other c d f g =
    let same = fails_so c d text f.0 g.0 (cause c text f.0 f.1) (cause d text g.0 g.1) in
    (same_place place other (length f.0) (length g.0) (length text) (ap (λ (x : List ℕ). length x) same.1) f.2 g.2, same.0)

pub one_way : (text : List ℕ) → IsReadInOneWay text
one_way text = record { request = request_unique text; fault = fault_unique text; either = λ r place c s f. request_or_fails text r c f.0 s f.1 }

-- ---- answers

pub taken : (text : List ℕ) (result : Result Request TextFault) (r : Request) → IsRead text result → IsCommandText text r → IsOrMemory result (Ok r)
taken text (Ok s) r is t = ap (λ (x : Request). let o : Result Request TextFault = Ok x in o) (request_unique text s r is t)
taken text (Err (Refused place c)) r is t = absurd (request_or_fails text r c is.0 t is.1)
taken text (Err Memory) r is t = tt

pub refused : (text : List ℕ) (result : Result Request TextFault) (place : ℕ) (c : TextCause) → IsRead text result → FailsAt text place c → IsOrMemory result (Err (Refused place c))
refused text (Ok s) place c is f = absurd (request_or_fails text s c f.0 is f.1)
refused text (Err (Refused other d)) place c is f =
    let same = fault_unique text other place d c is f in
    ap (λ (n : ℕ). let o : Result Request TextFault = Err (Refused n d) in o) same.0 ∙ ap (λ (x : TextCause). let o : Result Request TextFault = Err (Refused place x) in o) same.1
refused text (Err Memory) place c is f = tt
