-- The parts of a log, entry by entry, and what is given to them.
use Rattle.std.proofs.Common.{◌≡◌, ℕ, ◌<◌, Bool, true, false, List, [], ◌∷◌, ◌++◌, length, refl, sym, ◌∙◌, ap, arith, append-nil}
use Rattle.std.proofs.Common.{length-append, Option, Some, None}
use Rattle.std.specs.Prelude.{◌^◌, if◌then◌else◌, map, nat_lt, slice_range}
use Rattle.cts_framing.specs.Heads.{head_bytes}
use Rattle.cts_framing.specs.Layouts.{flag_bytes, laid_head}
use Rattle.cts_framing.proofs.HeadAgain.{head_length}
use Rattle.cts_encode.specs.Spellings.{head_for}
use Rattle.cts_log.specs.Cycling.{CycleData, begins_part, cycle_with, size_next, size_with}
use Rattle.cts_log.specs.Files.{log_head, log_head_len}
use Rattle.cts_log.specs.Logged.{FitsLogged, Logged, entry_bytes}
use Rattle.cts_log.specs.declared.kind.LogKind.{LogKind}
use Rattle.cts_log_parts.specs.Grouping.{joined, size_after}
use Rattle.cts_log_parts.specs.Growths.{CutsData, DoNotFall, begins_entry, cut_growth, cut_with, cycle_after, pieces_from, with_entry}
use Rattle.cts_log_parts.specs.Parts.{counted, entry_len, log_parts}
use Rattle.cts_log_parts.proofs.Cutting.{cuts_tell_growth, fall_later, fall_more}
use Rattle.cts_log_parts.proofs.Growing.{given_one_more, parts_are_grown}
use Rattle.cts_log_parts.proofs.Joining.{joined_assoc}
use Rattle.cts_log_parts.proofs.PartsRead.{entry_positive}

-- ---- one piece more

joined_new : (ps : List (List ℕ)) (g : List ℕ) (gs : List (List ℕ)) (x : List ℕ) → joined ps ((g ∷ gs) ++ x ∷ []) ≡ joined ps (g ∷ gs) ++ x ∷ []
joined_new [] g gs x = refl
joined_new (p ∷ []) g gs x = refl
joined_new (p ∷ q ∷ ps) g gs x = ap (λ l. p ∷ l) (joined_new (q ∷ ps) g gs x)

joined_with : (head : List ℕ) (b : Bool) (x : List ℕ) (ps : List (List ℕ)) (g : List ℕ) (gs : List (List ℕ))
    → joined ps (with_entry head b x (g ∷ gs)) ≡ with_entry head b x (joined ps (g ∷ gs))
joined_with head true x ps g gs = joined_new ps g gs (head ++ x)
joined_with head false x ps g gs = sym (joined_assoc ps (g ∷ gs) (x ∷ []))

joined_cut : (head : List ℕ) (b : Bool) (x : List ℕ) (ps : List (List ℕ)) (bytes places : List ℕ)
    → joined ps (with_entry head b x (cut_growth head places bytes)) ≡ with_entry head b x (joined ps (cut_growth head places bytes))
joined_cut head b x ps bytes [] = joined_with head b x ps bytes []
joined_cut head b x ps bytes (c ∷ cs) = joined_with head b x ps (slice_range bytes 0 c) (map (λ y. head ++ y) (pieces_from c cs bytes))

-- ---- one entry more

module _ (kind : LogKind) (fl : Bool) (digest : List ℕ) (cycle : Option ℕ) where
  -- nothing comes to the parts
  pub same_parts : (es : List Logged) → joined (log_parts kind fl digest cycle es) ([] ∷ []) ≡ log_parts kind fl digest cycle es
  same_parts es = sym (parts_are_grown kind fl digest cycle es []) ∙ ap (log_parts kind fl digest cycle) (append-nil es)

  parts_one_more : (es : List Logged) (e : Logged)
      → log_parts kind fl digest cycle (es ++ e ∷ [])
      ≡ with_entry (log_head kind fl digest) (begins_part cycle (size_after (entry_len fl) cycle log_head_len es) (entry_len fl e)) (entry_bytes fl e)
      (log_parts kind fl digest cycle es)
  parts_one_more es e =
      let s : ℕ = size_after (entry_len fl) cycle log_head_len es in
      let head = log_head kind fl digest in
      let b : Bool = begins_part cycle s (entry_len fl e) in
      let ps = log_parts kind fl digest cycle es in
      parts_are_grown kind fl digest cycle es (e ∷ [])
      ∙ ap (joined ps) (given_one_more kind fl digest cycle s [] e)
      ∙ joined_with head b (entry_bytes fl e) ps [] []
      ∙ ap (with_entry head b (entry_bytes fl e)) (same_parts es)

  -- what was given goes on with one entry
  pub grown_on : (first es : List Logged) (e : Logged) (bytes places : List ℕ) → DoNotFall 0 places (length bytes)
      → joined (log_parts kind fl digest cycle first) (cut_growth (log_head kind fl digest) places bytes) ≡ log_parts kind fl digest cycle es
      → joined (log_parts kind fl digest cycle first)
      (cut_growth (log_head kind fl digest) (if begins_part cycle (size_after (entry_len fl) cycle log_head_len es) (entry_len fl e) then places
      ++ length bytes ∷ [] else places) (bytes ++ entry_bytes fl e))
      ≡ log_parts kind fl digest cycle (es ++ e ∷ [])
  grown_on first es e bytes places fall is =
      let head = log_head kind fl digest in
      let b : Bool = begins_part cycle (size_after (entry_len fl) cycle log_head_len es) (entry_len fl e) in
      ap (joined (log_parts kind fl digest cycle first)) (cuts_tell_growth head bytes (entry_bytes fl e) places b fall)
      ∙ joined_cut head b (entry_bytes fl e) (log_parts kind fl digest cycle first) bytes places
      ∙ ap (with_entry head b (entry_bytes fl e)) is
      ∙ sym (parts_one_more es e)

-- ---- what is counted

size_push : (len : Logged → ℕ) (cycle : Option ℕ) (s : ℕ) (es : List Logged) (e : Logged)
    → size_after len cycle s (es ++ e ∷ []) ≡ size_with cycle (size_after len cycle s es) (len e)
size_push len cycle s [] e = refl
size_push len cycle s (x ∷ es) e = size_push len cycle (size_with cycle s (len x)) es e

pub counted_begins : (cycle : Option ℕ) (s n : ℕ) → begins_part cycle (counted cycle s) n ≡ begins_part cycle s n
counted_begins None s n = refl
counted_begins (Some limit) s n = refl

counted_next : (cycle : Option ℕ) (s n : ℕ) → size_next cycle (counted cycle s) n ≡ counted cycle (size_with cycle s n)
counted_next None s n = refl
counted_next (Some limit) s n = refl

-- at first a part has its head
pub counted_first : (cycle : Option ℕ) → counted cycle log_head_len ≡ log_head_len
counted_first None = refl
counted_first (Some limit) = refl

-- what a cycle counts after some entries
abbrev pub counts : Bool → Option ℕ → List Logged → CycleData
counts fl cycle es = record { limit = cycle; size = counted cycle (size_after (entry_len fl) cycle log_head_len es) }

positive : (n : ℕ) → 0 < n → nat_lt 0 n ≡ true
positive n p = grind (arith, p)

asked : (c : CycleData) (n : ℕ) → 0 < n → begins_entry c n ≡ begins_part c.limit c.size n
asked c n p = rw (positive n p) refl

counting : (c : CycleData) (n : ℕ) → 0 < n → cycle_after c n ≡ cycle_with c n
counting c n p = rw (positive n p) refl

pub begins_there : (fl : Bool) (cycle : Option ℕ) (es : List Logged) (e : Logged)
    → begins_entry (counts fl cycle es) (entry_len fl e) ≡ begins_part cycle (size_after (entry_len fl) cycle log_head_len es) (entry_len fl e)
begins_there fl cycle es e =
    asked (counts fl cycle es) (entry_len fl e) (entry_positive fl e) ∙ counted_begins cycle (size_after (entry_len fl) cycle log_head_len es) (entry_len fl e)

pub counts_on : (fl : Bool) (cycle : Option ℕ) (es : List Logged) (e : Logged)
    → cycle_after (counts fl cycle es) (entry_len fl e) ≡ counts fl cycle (es ++ e ∷ [])
counts_on fl cycle es e =
    counting (counts fl cycle es) (entry_len fl e) (entry_positive fl e)
    ∙ ap (λ (n : ℕ). record { limit = cycle; size = n })
    (counted_next cycle (size_after (entry_len fl) cycle log_head_len es) (entry_len fl e)
    ∙ ap (counted cycle) (sym (size_push (entry_len fl) cycle log_head_len es e)))

-- ---- places

pub fall_on : (b : Bool) (places bytes entry : List ℕ) → DoNotFall 0 places (length bytes)
    → DoNotFall 0 (if b then places ++ length bytes ∷ [] else places) (length (bytes ++ entry))
fall_on true places bytes entry d = fall_more 0 places (length bytes) (length (bytes ++ entry)) (let a = length-append bytes entry in omega (arith, a)) d
fall_on false places bytes entry d = fall_later 0 places (length bytes) (length (bytes ++ entry)) (let a = length-append bytes entry in omega (arith, a)) d

pub cut_on : (b : Bool) (asks : Bool) (end from : ℕ) (cuts : CutsData) → asks ≡ b → cuts.end ≡ from
    → cut_with asks end cuts ≡ record { places = if b then cuts.places ++ from ∷ [] else cuts.places; end = end }
cut_on b asks end from cuts same is =
    ap (λ (x : Bool). cut_with x end cuts) same ∙ ap (λ (n : ℕ). record { places = if b then cuts.places ++ n ∷ [] else cuts.places; end = end }) is

-- ---- how long an entry is

flags_short : (fl stored : Bool) → length (flag_bytes fl stored) < 2
flags_short true stored = omega arith
flags_short false stored = omega arith

pub entry_short : (fl : Bool) (e : Logged) → FitsLogged fl e → length (entry_bytes fl e) < 2 ^ 33
entry_short fl e f =
    let h = head_for e.heading (length e.bytes) in
    omega (
      arith,
      f.heading.target,
      f.heading.packet,
      f.bytes,
      length-append (laid_head fl e.heading.stored h) e.bytes,
      length-append (flag_bytes fl e.heading.stored) (head_bytes h),
      head_length h,
      flags_short fl e.heading.stored,
    )
