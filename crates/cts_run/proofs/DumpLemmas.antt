-- How far a dump has come, and what it has put when it ends.
use Rattle.std.proofs.Common.{◌≡◌, ◌≢◌, ℕ, zero, suc, ◌+◌, ◌-◌, ◌^◌, ◌<◌, ◌⊎◌, inl, inr, List, [], ◌∷◌, ◌++◌, length, drop, nat_eq, Bool, true, false, Option, Some, None, Result, Ok, Err, refl, sym, ◌∙◌, ap, ap₂, subst, arith, append_assoc, length-append}
use Rattle.std.specs.Prelude.{is_some, min}
use Rattle.std.specs.List.{All, flat_map}
use Rattle.std.proofs.lemmas.Bool.{cases_order}
use Rattle.std.proofs.lemmas.Bool.Decides.{nat_tests}
use Rattle.std.proofs.lemmas.Grind.{flat_map-append}
use Rattle.std.proofs.lemmas.List.{append-nil, drop_at}
use Rattle.std.proofs.lemmas.List.Elements.{All-append, All-cons, All-nil}
use Rattle.cts_log.specs.Files.{kind_of, log_head_len}
use Rattle.cts_log.specs.Dumping.{IsDumpLine}
use Rattle.cts_log.specs.Logged.{Logged, FitsLogged, entry_bytes, entry_end, entry_of}
use Rattle.cts_log.specs.Reading.{HasNoHead, HasRead, IsLogRead, ReaderData, flagged}
use Rattle.cts_log.specs.declared.kind.LogKind.{LogKind}
use Rattle.cts_log.proofs.EntriesAgain.{read_again}
use Rattle.cts_log.proofs.LogHeads.{heads_are_exact}
use Rattle.cts_log.proofs.ReadOnce.{BeginsWithNone, begins_to_read}
use Rattle.cts_run.specs.Acts.{Act, AreDone, Outside, PutFails, is_put, puts}
use Rattle.cts_run.specs.Dump.{AreLines, IsPrinted, IsDump, PutsLines, PutsLog, dump_answer}
use Rattle.cts_run.specs.declared.halt.Halt.{Halt}
use Rattle.cts_run.specs.declared.halt.Halt.TheVariants as halt
use Rattle.cts_run.proofs.MomentLemmas.{lines_of}
use Rattle.cts_run.proofs.ActLemmas.{done_then, fails_first, fails_then, wants_whole}

-- ---- whether some numbers begin with a whole entry, also where they are no bytes

abbrev pub Not : Type 0 → Type 0
Not A = A → ⊥

both : {A B : Type 0} → (A ⊎ Not A) → (B ⊎ Not B) → (A × B) ⊎ Not (A × B)
both (inl a) (inl b) = inl (a, b)
both (inl a) (inr n) = inr (λ p. n p.1)
both (inr n) b = inr (λ p. n p.0)

pub below : (a b : ℕ) → (a < b) ⊎ Not (a < b)
below a b =
    elim (cases_order a b) [
      | inl e ↦ inr (λ l. absurd (omega (arith, e, l)))
      | inr (inl l) ↦ inl l
      | inr (inr l) ↦ inr (λ k. absurd (omega (arith, k, l)))
    ]

same_numbers : (xs ys : List ℕ) → (xs ≡ ys) ⊎ (xs ≢ ys)
same_numbers [] [] = inl refl
same_numbers [] (y ∷ ys) = inr (λ e. absurd (cc e))
same_numbers (x ∷ xs) [] = inr (λ e. absurd (cc e))
same_numbers (x ∷ xs) (y ∷ ys) = by_first (cases_order x y) (same_numbers xs ys)
  where
    by_first : (x ≡ y) ⊎ ((x < y) ⊎ (y < x)) → (xs ≡ ys) ⊎ (xs ≢ ys) → (x ∷ xs ≡ y ∷ ys) ⊎ (x ∷ xs ≢ y ∷ ys)
    by_first (inl e) (inl f) = inl (ap₂ ◌∷◌ e f)
    by_first (inl e) (inr n) = inr (λ same. n (cc same))
    by_first (inr (inl l)) f = inr (λ same. let e : x ≡ y = cc same in absurd (omega (arith, e, l)))
    by_first (inr (inr l)) f = inr (λ same. let e : x ≡ y = cc same in absurd (omega (arith, e, l)))

-- the entry fits, and was laid out in front
abbrev IsLaid : Bool → List ℕ → Type 0
IsLaid fl u =
    ((((entry_of fl u).heading.time.seconds < 2 ^ 32) × ((entry_of fl u).heading.time.micros < 2 ^ 32))
    × (((length (entry_of fl u).heading.target < 256) × (length (entry_of fl u).heading.packet < 256)) × (length (entry_of fl u).bytes < 2 ^ 32)))
    × (u ≡ entry_bytes fl (entry_of fl u) ++ drop (entry_end fl u) u)

is_laid : (fl : Bool) (u : List ℕ) → IsLaid fl u ⊎ Not (IsLaid fl u)
is_laid fl u =
    both
    (both (both (below (entry_of fl u).heading.time.seconds (2 ^ 32)) (below (entry_of fl u).heading.time.micros (2 ^ 32)))
    (both (both (below (length (entry_of fl u).heading.target) 256) (below (length (entry_of fl u).heading.packet) 256)) (below (length (entry_of fl u).bytes) (2 ^ 32))))
    (same_numbers u (entry_bytes fl (entry_of fl u) ++ drop (entry_end fl u) u))

-- without flags nothing is stored
unstored_at : (fl : Bool) (u : List ℕ) → fl ≡ false → (entry_of fl u).heading.stored ≡ false
unstored_at true u e = absurd (cc e)
unstored_at false u e = refl

fits_laid : (fl : Bool) (u : List ℕ) → IsLaid fl u → FitsLogged fl (entry_of fl u)
fits_laid fl u h = record { heading = record { seconds = h.0.0.0; micros = h.0.0.1; target = h.0.1.0.0; packet = h.0.1.0.1 }; bytes = h.0.1.1; unstored = unstored_at fl u }

-- what begins with an entry that was laid out is laid so
laid_so : (fl : Bool) (u x : List ℕ) (e : Logged) → FitsLogged fl e → u ≡ entry_bytes fl e ++ x → IsLaid fl u
laid_so fl u x e f h =
    let again = read_again fl e x f in
    let entry : entry_of fl u ≡ e = ap (entry_of fl) h ∙ again.entry in
    let end : entry_end fl u ≡ length (entry_bytes fl e) = ap (entry_end fl) h ∙ again.end in
    let behind : x ≡ drop (entry_end fl u) u = sym (ap (drop (entry_end fl u)) h ∙ drop_at (entry_bytes fl e) x (entry_end fl u) (sym end)) in
    subst (λ (g : Logged). (((g.heading.time.seconds < 2 ^ 32) × (g.heading.time.micros < 2 ^ 32))
    × (((length g.heading.target < 256) × (length g.heading.packet < 256)) × (length g.bytes < 2 ^ 32)))
    × (u ≡ entry_bytes fl g ++ drop (entry_end fl u) u)) (sym entry)
    ((((f.heading.seconds, f.heading.micros), ((f.heading.target, f.heading.packet), f.bytes))), h ∙ ap (λ v. entry_bytes fl e ++ v) behind)

-- what these numbers hold of whole entries, and a rest that begins with none
pub record IsSplit (fl : Bool) (u : List ℕ) : Type 0 where
  pub entries : List Logged
  pub rest : List ℕ
  pub is : u ≡ flat_map (entry_bytes fl) entries ++ rest
  pub fit : All (FitsLogged fl) entries
  pub none : BeginsWithNone fl rest

entry_long : (fl : Bool) (e : Logged) → 0 < length (entry_bytes fl e)
entry_long true e = omega arith
entry_long false e = omega arith

end_long : (fl : Bool) (u : List ℕ) → 0 < entry_end fl u
end_long true u = omega arith
end_long false u = omega arith

-- an entry in front, and what follows it
split_first : (fl : Bool) (u : List ℕ) → IsLaid fl u ⊎ Not (IsLaid fl u) → (IsLaid fl u → IsSplit fl (drop (entry_end fl u) u)) → IsSplit fl u
split_first fl u (inr none) after = record { entries = []; rest = u; is = refl; fit = All-nil (FitsLogged fl); none = λ e x f h. none (laid_so fl u x e f h) }
split_first fl u (inl h) after =
    let e = entry_of fl u in
    let more = after h in
    record {
      entries = e ∷ more.entries;
      rest = more.rest;
      is = h.1 ∙ (ap (λ v. entry_bytes fl e ++ v) more.is ∙ sym (append_assoc (entry_bytes fl e) (flat_map (entry_bytes fl) more.entries) more.rest));
      fit = All-cons (FitsLogged fl) e more.entries (fits_laid fl u h) more.fit;
      none = more.none;
    }

split_by : (fl : Bool) (n : ℕ) (u : List ℕ) → length u < n → IsSplit fl u
split_by fl zero u l = absurd (omega (arith, l))
split_by fl (suc n) u l =
    split_first fl u (is_laid fl u) (λ h. split_by fl n (drop (entry_end fl u) u) (omega (arith, l, entry_long fl (entry_of fl u), ap length h.1, length-append (entry_bytes fl (entry_of fl u)) (drop (entry_end fl u) u))))

-- ---- what is left of a file is read to its end

-- what a reader has before it: these entries, up to this place
pub record IsAhead (r : ReaderData) (es : List Logged) : Type 0 where
  pub kind : LogKind
  pub entries : List Logged
  pub place : ℕ
  pub fit : All (FitsLogged (flagged r)) entries
  pub read : IsLogRead r.file kind (flagged r) (es ++ entries) place

regroup : (h a b c : List ℕ) → h ++ (a ++ (b ++ c)) ≡ h ++ ((a ++ b) ++ c)
regroup h a b c = ap (λ v. h ++ v) (sym (append_assoc a b c))

pub ahead : (r : ReaderData) (es : List Logged) → HasRead r es → IsAhead r es
ahead r es h =
    let bytes : Logged → List ℕ = entry_bytes (flagged r) in
    let s = split_by (flagged r) (suc (length (drop r.place r.file))) (drop r.place r.file) (omega arith) in
    let file_is : r.file ≡ h.head ++ (flat_map bytes (es ++ s.entries) ++ s.rest) =
    h.file_is ∙ (ap (λ v. h.head ++ (flat_map bytes es ++ v)) s.is
    ∙ (regroup h.head (flat_map bytes es) (flat_map bytes s.entries) s.rest
    ∙ ap (λ v. h.head ++ (v ++ s.rest)) (sym (flat_map-append bytes es s.entries)))) in
    let front = h.head ++ flat_map bytes (es ++ s.entries) in
    record {
      kind = h.kind;
      entries = s.entries;
      place = length front;
      fit = s.fit;
      read = record {
        head = h.head;
        rest = s.rest;
        is_head = h.is_head;
        file_is = file_is;
        fit = All-append (FitsLogged (flagged r)) es s.entries h.fit s.fit;
        none = s.none;
        place_is = omega (arith, ap length file_is, length-append h.head (flat_map bytes (es ++ s.entries) ++ s.rest), length-append (flat_map bytes (es ++ s.entries)) s.rest, length-append h.head (flat_map bytes (es ++ s.entries)));
      };
    }

-- ---- lines one after the other

pub lines_then : (es fs : List Logged) (acts more : List Act) → AreLines es acts → AreLines fs more → AreLines (es ++ fs) (acts ++ more)
lines_then [] fs acts more a b = subst (AreLines fs) (sym (ap (λ t. t ++ more) a)) b
lines_then (e ∷ es) fs acts more a b = (a.0, a.1 ++ more, a.2, lines_then es fs a.1 more a.3 b, ap (λ t. t ++ more) a.4 ∙ append_assoc (puts a.0) a.1 more)

one_line : (e : Logged) (line : List ℕ) → IsDumpLine e line → AreLines (e ∷ []) (puts line)
one_line e line h = (line, [], h, refl, sym (append-nil (puts line)))

-- ---- how far a dump has come

-- The reader has read these entries of the file, and their lines were put.
pub record IsFar (file : List ℕ) (r : ReaderData) (acts : List Act) (old new : Outside) : Type 0 where
  pub file_is : r.file ≡ file
  pub entries : List Logged
  pub read : HasRead r entries
  pub lines : AreLines entries acts
  pub done : AreDone acts old new

pub begun : (r : ReaderData) (o : Outside) → HasRead r [] → IsFar r.file r [] o o
begun r o h = record { file_is = refl; entries = []; read = h; lines = refl; done = refl }

pub goes_on : (file : List ℕ) (r s : ReaderData) (acts : List Act) (line : List ℕ) (e : Logged) (old mid new : Outside) (f : IsFar file r acts old mid) → s.file ≡ r.file → HasRead s (f.entries ++ e ∷ [])
    → IsDumpLine e line → AreDone (puts line) mid new → IsFar file s (acts ++ puts line) old new
goes_on file r s acts line e old mid new f same more is put = record {
  file_is = same ∙ f.file_is;
  entries = f.entries ++ e ∷ [];
  read = more;
  lines = lines_then f.entries (e ∷ []) acts (puts line) f.lines (one_line e line is);
  done = done_then old mid new acts (puts line) f.done put;
}

-- less of the file is left after an entry
pub shorter : (r s : ReaderData) (es fs : List Logged) → HasRead r es → HasRead s fs → s ≡ record r { place = r.place + entry_end (flagged r) (drop r.place r.file) } → length s.file - s.place < length r.file - r.place
shorter r s es fs h k same =
    let place : s.place ≡ r.place + entry_end (flagged r) (drop r.place r.file) = ap (λ (t : ReaderData). t.place) same in
    let file : s.file ≡ r.file = ap (λ (t : ReaderData). t.file) same in
    omega (arith, place, ap length file, k.within, end_long (flagged r) (drop r.place r.file))

-- whatever is left, its lines stand after those so far
pub rest_of : (r : ReaderData) (es : List Logged) (acts : List Act) → HasRead r es → AreLines es acts → (more : List Act) × (due : Result (Unit {0}) Halt) × IsPrinted r.file (acts ++ more) due
rest_of r es acts h lines =
    let a = ahead r es h in
    let more = lines_of (flagged r) a.entries a.fit in
    (more.0, dump_answer a.place (length r.file), record { kind = a.kind; flagged = flagged r; entries = es ++ a.entries; place = a.place; read = a.read; lines = lines_then es a.entries acts more.0 lines more.1; due_is = refl })

-- memory was wanted
pub wants : (file : List ℕ) (r : ReaderData) (acts : List Act) (old new : Outside) → IsFar file r acts old new → PutsLines file (Err halt.Memory) old new
wants file r acts old new f =
    let all = rest_of r f.entries acts f.read f.lines in
    record {
      acts = acts ++ all.0;
      due = all.1;
      printed = subst (λ (t : List ℕ). IsPrinted t (acts ++ all.0) all.1) f.file_is all.2;
      does = wants_whole old new acts all.0 f.done;
    }

-- a put failed within the line of an entry
pub faulted : (file : List ℕ) (r s : ReaderData) (acts : List Act) (line : List ℕ) (e : Logged) (old mid new : Outside) (f : IsFar file r acts old mid) → s.file ≡ r.file → HasRead s (f.entries ++ e ∷ [])
    → IsDumpLine e line → PutFails (puts line) mid new → PutsLines file (Err halt.WriteFault) old new
faulted file r s acts line e old mid new f same more is fails =
    let all = rest_of s (f.entries ++ e ∷ []) (acts ++ puts line) more (lines_then f.entries (e ∷ []) acts (puts line) f.lines (one_line e line is)) in
    record {
      acts = (acts ++ puts line) ++ all.0;
      due = all.1;
      printed = subst (λ (t : List ℕ). IsPrinted t ((acts ++ puts line) ++ all.0) all.1) (same ∙ f.file_is) all.2;
      does = fails_first is_put old new (acts ++ puts line) all.0 (fails_then is_put old mid new acts (puts line) f.done fails);
    }

at_end : (n : ℕ) → dump_answer n n ≡ Ok tt
at_end n = let e : nat_eq n n ≡ true = grind (arith, nat_tests) in rw e refl

before_end : (place n : ℕ) → place < n → dump_answer place n ≡ Err (halt.LogRefused place)
before_end place n h = let e : nat_eq place n ≡ false = grind (arith, nat_tests) in rw e refl

pub ends_well : (file : List ℕ) (r : ReaderData) (acts : List Act) (old new : Outside) (f : IsFar file r acts old new) → (kind : LogKind) × IsLogRead r.file kind (flagged r) f.entries (length r.file) → PutsLines file (Ok tt) old new
ends_well file r acts old new f h = record {
  acts = acts;
  due = Ok tt;
  printed = subst (λ (t : List ℕ). IsPrinted t acts (Ok tt)) f.file_is (record { kind = h.0; flagged = flagged r; entries = f.entries; place = length r.file; read = h.1; lines = f.lines; due_is = sym (at_end (length r.file)) });
  does = (refl, f.done);
}

pub ends_cut : (file : List ℕ) (r : ReaderData) (acts : List Act) (place : ℕ) (old new : Outside) (f : IsFar file r acts old new) → (kind : LogKind) × IsLogRead r.file kind (flagged r) f.entries place × (place < length r.file)
    → PutsLines file (Err (halt.LogRefused place)) old new
ends_cut file r acts place old new f h = record {
  acts = acts;
  due = Err (halt.LogRefused place);
  printed = subst (λ (t : List ℕ). IsPrinted t acts (Err (halt.LogRefused place))) f.file_is (record { kind = h.0; flagged = flagged r; entries = f.entries; place = place; read = h.1; lines = f.lines; due_is = sym (before_end place (length r.file) h.2) });
  does = (refl, f.done);
}

-- ---- files without a head

pub no_head : (file : List ℕ) → kind_of file ≡ None → HasNoHead file
no_head file e kind fl head x is same =
    let known = (heads_are_exact file kind fl).1 (head, x, is, same) in
    let never : None ≡ Some kind = sym e ∙ known.0 in
    cc never

pub no_log : (file : List ℕ) (o : Outside) → kind_of file ≡ None → PutsLog file (Err (halt.LogRefused 0)) o o
no_log file o e = record {
  acts = [];
  due = Err (halt.LogRefused 0);
  is = inr (record { none = no_head file e; nothing = refl; refused = refl });
  does = (refl, refl);
}

pub with_head : (file : List ℕ) (answer : Result (Unit {0}) Halt) (old new : Outside) → PutsLines file answer old new → PutsLog file answer old new
with_head file answer old new h = record { acts = h.acts; due = h.due; is = inl h.printed; does = h.does }

-- ---- each file has a dump

by_kind : (file : List ℕ) (kind : Option LogKind) → kind_of file ≡ kind → (acts : List Act) × (due : Result (Unit {0}) Halt) × IsDump file acts due
by_kind file None e = ([], Err (halt.LogRefused 0), inr (record { none = no_head file e; nothing = refl; refused = refl }))
by_kind file (Some kind) e =
    let start : ReaderData = record { file = file; place = min log_head_len (length file) } in
    let all = rest_of start [] [] (begins_to_read file (ap is_some e)) refl in
    (all.0, all.1, inl all.2)

pub some_dump : (file : List ℕ) → (acts : List Act) × (due : Result (Unit {0}) Halt) × IsDump file acts due
some_dump file = by_kind file (kind_of file) refl
