-- One more line changes the blocks by one step, and what the blocks of all lines are.
use Rattle.std.proofs.Common.{◌≡◌, List, [], ◌∷◌, ◌++◌, map, Option, Some, None, refl, sym, ap, subst, ◌∙◌, append_assoc}
use Rattle.std.proofs.lemmas.List.{append-nil}
use Rattle.std.specs.List.{filter_map, cons_option}
use Rattle.cts_words.specs.Blocks.{begin_block, cut_at_heads, blocks, last_of, on_last, with_line, HasNoHead}

-- ---- the last one of a list

pub last_snoc : {X : Type 0} (xs : List X) (x : X) → last_of (xs ++ x ∷ []) ≡ Some x
last_snoc [] x = refl
last_snoc (y ∷ []) x = refl
last_snoc (y ∷ z ∷ xs) x = last_snoc (z ∷ xs) x

pub on_last_snoc : {X : Type 0} (f : X → X) (xs : List X) (x : X) → on_last f (xs ++ x ∷ []) ≡ xs ++ f x ∷ []
on_last_snoc f [] x = refl
on_last_snoc f (y ∷ []) x = refl
on_last_snoc f (y ∷ z ∷ xs) x = ap (λ ys. y ∷ ys) (on_last_snoc f (z ∷ xs) x)

-- The last one is taken off and put back changed.
pub put_back : {X : Type 0} (f : X → X) (old front new : List X) (x : X) → old ≡ front ++ x ∷ [] → new ≡ front ++ f x ∷ [] → new ≡ on_last f old
put_back f old front new x popped pushed = pushed ∙ sym (ap (on_last f) popped ∙ on_last_snoc f front x)

-- ---- one more line

abbrev Cut : Type 0 → Type 0 → Type 0
Cut L H = List L × List (H × List L)

abbrev end_block : {L H : Type 0} → Option H → L → Cut L H → Cut L H
end_block (Some head) l (front, bs) = (front, bs ++ (head, []) ∷ [])
end_block None l (front, []) = (front ++ l ∷ [], [])
end_block None l (front, b ∷ bs) = (front, on_last (with_line l) (b ∷ bs))

begin-end : {L H : Type 0} (first last : Option H) (k l : L) (r : Cut L H) → begin_block first k (end_block last l r) ≡ end_block last l (begin_block first k r)
begin-end None None k l (front, []) = refl
begin-end None None k l (front, b ∷ bs) = refl
begin-end None (Some h) k l (front, bs) = refl
begin-end (Some g) None k l (front, []) = refl
begin-end (Some g) None k l (front, b ∷ bs) = refl
begin-end (Some g) (Some h) k l (front, bs) = refl

begin-alone : {L H : Type 0} (o : Option H) (l : L) → begin_block o l ([], []) ≡ end_block o l ([], [])
begin-alone None l = refl
begin-alone (Some h) l = refl

cut-more : {L H : Type 0} (head_in : L → Option H) (ls : List L) (l : L) → cut_at_heads head_in (ls ++ l ∷ []) ≡ end_block (head_in l) l (cut_at_heads head_in ls)
cut-more head_in [] l = begin-alone (head_in l) l
cut-more head_in (k ∷ ls) l = ap (begin_block (head_in k) k) (cut-more head_in ls l) ∙ begin-end (head_in k) (head_in l) k l (cut_at_heads head_in ls)

pub blocks-more : {L H : Type 0} (head_in : L → Option H) (ls : List L) (l : L) (h : H) → head_in l ≡ Some h → blocks head_in (ls ++ l ∷ []) ≡ blocks head_in ls ++ (h, []) ∷ []
blocks-more head_in ls l h e = ap (λ r. r.1) (cut-more head_in ls l) ∙ rw e refl

end-none : {L H : Type 0} (l : L) (r : Cut L H) → (end_block None l r).1 ≡ on_last (with_line l) r.1
end-none l (front, []) = refl
end-none l (front, b ∷ bs) = refl

pub blocks-joined : {L H : Type 0} (head_in : L → Option H) (ls : List L) (l : L) → head_in l ≡ None → blocks head_in (ls ++ l ∷ []) ≡ on_last (with_line l) (blocks head_in ls)
blocks-joined head_in ls l e = ap (λ r. r.1) (cut-more head_in ls l) ∙ rw e (end-none l (cut_at_heads head_in ls))

-- ---- all lines

begin_heads : {L H : Type 0} (o : Option H) (l : L) (r : Cut L H) (hs : List H) → map (λ b. b.0) r.1 ≡ hs → map (λ b. b.0) (begin_block o l r).1 ≡ cons_option o hs
begin_heads None l r hs h = h
begin_heads (Some head) l r hs h = ap (λ ks. head ∷ ks) h

pub heads : {L H : Type 0} (head_in : L → Option H) (ls : List L) → map (λ b. b.0) (blocks head_in ls) ≡ filter_map head_in ls
heads head_in [] = refl
heads head_in (l ∷ ls) = begin_heads (head_in l) l (cut_at_heads head_in ls) (filter_map head_in ls) (heads head_in ls)

bodies_from : {L H : Type 0} (head_in : L → Option H) (before : List L) (l : L) (h : H) (so_far body : List L)
    → blocks head_in (before ++ l ∷ so_far) ≡ blocks head_in before ++ (h, so_far) ∷ [] → HasNoHead head_in body
    → blocks head_in (before ++ l ∷ (so_far ++ body)) ≡ blocks head_in before ++ (h, so_far ++ body) ∷ []
bodies_from {L} {H} head_in before l h so_far [] e none =
    let P : List L → Type 0 = λ ls. blocks head_in (before ++ l ∷ ls) ≡ blocks head_in before ++ (h, ls) ∷ [] in
    subst P (sym (append-nil so_far)) e
bodies_from {L} {H} head_in before l h so_far (k ∷ body) e none =
    let P : List L → Type 0 = λ ls. blocks head_in (before ++ l ∷ ls) ≡ blocks head_in before ++ (h, ls) ∷ [] in
    let more : blocks head_in (before ++ l ∷ (so_far ++ k ∷ [])) ≡ blocks head_in before ++ (h, so_far ++ k ∷ []) ∷ [] =
    ap (blocks head_in) (sym (append_assoc before (l ∷ so_far) (k ∷ [])))
    ∙ blocks-joined head_in (before ++ l ∷ so_far) k none.0
    ∙ ap (on_last (with_line k)) e
    ∙ on_last_snoc (with_line k) (blocks head_in before) (h, so_far) in
    subst P (append_assoc so_far (k ∷ []) body) (bodies_from head_in before l h (so_far ++ k ∷ []) body more none.1)

pub bodies : {L H : Type 0} (head_in : L → Option H) (before : List L) (l : L) (h : H) (body : List L)
    → head_in l ≡ Some h → HasNoHead head_in body → blocks head_in (before ++ l ∷ body) ≡ blocks head_in before ++ (h, body) ∷ []
bodies head_in before l h body e none = bodies_from head_in before l h [] body (blocks-more head_in before l h e) none
