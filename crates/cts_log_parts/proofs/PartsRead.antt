-- What is read of a beginning of the parts of a log.
use Rattle.std.proofs.Common.{◌≡◌, ℕ, ◌+◌, ◌-◌, ◌<◌, ◌≤◌, Bool, true, false, List, [], ◌∷◌, ◌++◌, length, take, refl, sym, ◌∙◌, ap, subst, arith, append_assoc, append-nil, length-append}
use Rattle.std.specs.Prelude.{map, nat_le}
use Rattle.std.specs.List.{All, flat_map}
use Rattle.std.proofs.Math.Seq.{take-append_seam}
use Rattle.std.proofs.lemmas.List.{take_all, take_at}
use Rattle.std.proofs.lemmas.List.Elements.{All-cons, All-head, All-nil, All-tail}
use Rattle.std.proofs.lemmas.Bool.Decides.{nat_tests}
use Rattle.cts_framing.specs.Heads.{AreBytes, head_bytes}
use Rattle.cts_framing.specs.Layouts.{flag_bytes, laid_head}
use Rattle.cts_framing.proofs.Fronts.{le_test, take_turns}
use Rattle.cts_framing.proofs.HeadAgain.{head_length}
use Rattle.cts_encode.specs.Spellings.{head_for}
use Rattle.cts_log.specs.Files.{log_file, log_head, log_head_len}
use Rattle.cts_log.specs.Laws.{whole_within}
use Rattle.cts_log.specs.Logged.{FitsLogged, Logged, entry_bytes}
use Rattle.cts_log.specs.Reading.{HasNoHead, IsLogRead}
use Rattle.cts_log.specs.declared.kind.LogKind.{LogKind}
use Rattle.cts_log.proofs.Beginnings.{beginnings_are_read}
use Rattle.cts_log.proofs.LogHeads.{head_len, heads_are_written}
use Rattle.cts_log.proofs.ReadOnce.{logs_are_read_again}
use Rattle.cts_log_parts.specs.Grouping.{BeginsParts, StartsWith}
use Rattle.cts_log_parts.specs.Laws.{PartsAreRead, SyncedAreRead}
use Rattle.cts_log_parts.specs.Parts.{entry_len, groups_of}
use Rattle.cts_log_parts.specs.Stops.{AreRead, IsLastRead, IsPartRead, read_of}
use Rattle.cts_log_parts.proofs.Dividing.{all_entries}
use Rattle.cts_log_parts.proofs.Leaving.{left_whole}

-- an entry has a byte at least
pub entry_positive : (fl : Bool) (e : Logged) → 0 < length (entry_bytes fl e)
entry_positive fl e =
    let h = head_for e.heading (length e.bytes) in
    omega (arith, length-append (laid_head fl e.heading.stored h) e.bytes, length-append (flag_bytes fl e.heading.stored) (head_bytes h), head_length h)

-- ---- what lies whole within so many bytes

pub none_within : (fl : Bool) (es : List Logged) → whole_within fl 0 es ≡ []
none_within fl [] = refl
none_within fl (e ∷ es) = step (nat_le (length (entry_bytes fl e)) 0) refl
  where
    step : (b : Bool) → nat_le (length (entry_bytes fl e)) 0 ≡ b → whole_within fl 0 (e ∷ es) ≡ []
    step true t = absurd (let p = entry_positive fl e in grind (arith, nat_tests))
    step false t = rw t refl

pub all_within : (fl : Bool) (es : List Logged) → whole_within fl (length (flat_map (entry_bytes fl) es)) es ≡ es
all_within fl [] = refl
all_within fl (e ∷ es) = rw room (ap (λ l. e ∷ l) (ap (λ n. whole_within fl n es) rest ∙ all_within fl es))
  where
    size : length (flat_map (entry_bytes fl) (e ∷ es)) ≡ length (entry_bytes fl e) + length (flat_map (entry_bytes fl) es)
    size = length-append (entry_bytes fl e) (flat_map (entry_bytes fl) es)

    room : nat_le (length (entry_bytes fl e)) (length (flat_map (entry_bytes fl) (e ∷ es))) ≡ true
    room = le_test (length (entry_bytes fl e)) (length (flat_map (entry_bytes fl) (e ∷ es))) (omega (arith, size))

    rest : length (flat_map (entry_bytes fl) (e ∷ es)) - length (entry_bytes fl e) ≡ length (flat_map (entry_bytes fl) es)
    rest = omega (arith, size)

pub within_begins : (fl : Bool) (es : List Logged) (n : ℕ) → StartsWith es (whole_within fl n es)
within_begins fl [] n = ([], refl)
within_begins fl (e ∷ es) n = step (nat_le (length (entry_bytes fl e)) n) refl (within_begins fl es (n - length (entry_bytes fl e)))
  where
    step : (b : Bool) → nat_le (length (entry_bytes fl e)) n ≡ b → StartsWith es (whole_within fl (n - length (entry_bytes fl e)) es) → StartsWith (e ∷ es) (whole_within fl n (e ∷ es))
    step true t r = rw t (r.0, ap (λ l. e ∷ l) r.1)
    step false t r = rw t (e ∷ es, refl)

pub within_more : (fl : Bool) (es : List Logged) (m n : ℕ) → m ≤ n → StartsWith (whole_within fl n es) (whole_within fl m es)
within_more fl [] m n le = ([], refl)
within_more fl (e ∷ es) m n le = step (nat_le (length (entry_bytes fl e)) m) refl (within_more fl es (m - length (entry_bytes fl e)) (n - length (entry_bytes fl e)) (omega (arith, le)))
  where
    step : (b : Bool) → nat_le (length (entry_bytes fl e)) m ≡ b → StartsWith (whole_within fl (n - length (entry_bytes fl e)) es) (whole_within fl (m - length (entry_bytes fl e)) es) → StartsWith (whole_within fl n (e ∷ es)) (whole_within fl m (e ∷ es))
    step true t r =
        let room : nat_le (length (entry_bytes fl e)) n ≡ true = grind (arith, nat_tests) in
        rw t (rw room (r.0, ap (λ l. e ∷ l) r.1))
    step false t r = rw t (whole_within fl n (e ∷ es), refl)

pub read_none : (fl : Bool) (gs : List (List Logged)) → read_of fl gs [] ≡ []
read_none fl [] = refl
read_none fl (g ∷ gs) = refl

module _ {X : Type 0} (P : X → Type 0) where
  all_first : (xs ys : List X) → All P (xs ++ ys) → All P xs
  all_first [] ys a = All-nil P
  all_first (x ∷ xs) ys a = All-cons P x xs (All-head P x (xs ++ ys) a) (all_first xs ys (All-tail P x (xs ++ ys) a))

  all_rest : (xs ys : List X) → All P (xs ++ ys) → All P ys
  all_rest [] ys a = a
  all_rest (x ∷ xs) ys a = all_rest xs ys (All-tail P x (xs ++ ys) a)

module _ (kind : LogKind) (fl : Bool) (digest : List ℕ) (long : length digest ≡ 16) (bytes : AreBytes digest) where
  head_is : length (log_head kind fl digest) ≡ log_head_len
  head_is = head_len kind fl (log_head kind fl digest) (heads_are_written kind fl digest long bytes)

  too_short : (file : List ℕ) → length file < log_head_len → HasNoHead file
  too_short file short k g head x is e =
      let n : length file ≡ length (head ++ x) = ap length e in
      let a = length-append head x in
      let h = head_len k g head is in
      omega (arith, n, a, h, short)

  file_len : (es : List Logged) → length (log_file kind fl digest es) ≡ log_head_len + length (flat_map (entry_bytes fl) es)
  file_len es = omega (arith, length-append (log_head kind fl digest) (flat_map (entry_bytes fl) es), head_is)

  -- a whole part
  part_read : (g : List Logged) (file : List ℕ) → All (FitsLogged fl) g → file ≡ log_file kind fl digest g → IsPartRead kind fl digest file g
  part_read g file fit is = record {
    read = subst (λ f. IsLogRead f kind fl g (length f)) (sym is) (logs_are_read_again kind fl digest g long bytes fit);
    head = ap (take log_head_len) is ∙ take_at (log_head kind fl digest) (flat_map (entry_bytes fl) g) log_head_len head_is;
  }

  whole_read : (g : List Logged) (file : List ℕ) → file ≡ log_file kind fl digest g → whole_within fl (length file - log_head_len) g ≡ g
  whole_read g file is =
      let n : length file ≡ length (log_file kind fl digest g) = ap length is in
      let m : length file - log_head_len ≡ length (flat_map (entry_bytes fl) g) = omega (arith, n, file_len g) in
      ap (λ k. whole_within fl k g) m ∙ all_within fl g

  -- the last one, which may be cut
  last_read : (g : List Logged) (file : List ℕ) → All (FitsLogged fl) g → StartsWith (log_file kind fl digest g) file → IsLastRead kind fl digest file (whole_within fl (length file - log_head_len) g)
  last_read g file fit begins =
      let taken : file ≡ take (length file) (log_file kind fl digest g) = sym (take-append_seam file begins.0) ∙ ap (take (length file)) (sym begins.1) in
      let within : length file ≤ length (log_file kind fl digest g) = (let a = length-append file begins.0 in let b : length (log_file kind fl digest g) ≡ length (file ++ begins.0) = ap length begins.1 in omega (arith, a, b)) in
      record {
        read = λ enough. (
          subst (λ f. IsLogRead f kind fl (whole_within fl (length file - log_head_len) g) (length (log_file kind fl digest (whole_within fl (length file - log_head_len) g)))) (sym taken)
              (beginnings_are_read kind fl digest g (length file) long bytes fit enough within),
          ap (take log_head_len) taken ∙ take_turns log_head_len (length file) (log_file kind fl digest g)
              ∙ ap (take (length file)) (take_at (log_head kind fl digest) (flat_map (entry_bytes fl) g) log_head_len head_is)
              ∙ take_all (length file) (log_head kind fl digest) (let h = head_is in omega (arith, h, enough)),
        );
        none = λ short. (too_short file short, ap (λ n. whole_within fl n g) (let z : length file - log_head_len ≡ 0 = omega (arith, short) in z) ∙ none_within fl g);
      }

  pub parts_read : (gs : List (List Logged)) (files : List (List ℕ)) → All (FitsLogged fl) (flat_map (λ g. g) gs) → BeginsParts (map (log_file kind fl digest) gs) files
      → (ess : List (List Logged)) × AreRead kind fl digest files ess × (flat_map (λ g. g) ess ≡ read_of fl gs files) × StartsWith (flat_map (λ g. g) gs) (read_of fl gs files)
  parts_read gs [] fit b = ([], tt, sym (read_none fl gs), (flat_map (λ g. g) gs, ap (λ l. l ++ flat_map (λ g. g) gs) (sym (read_none fl gs))))
  parts_read [] (f ∷ []) fit b = absurd b
  parts_read [] (f ∷ h ∷ fs) fit b = absurd b
  parts_read (g ∷ gs) (f ∷ []) fit b =
      let es : List Logged = whole_within fl (length f - log_head_len) g in
      let r = within_begins fl g (length f - log_head_len) in
      let none = read_none fl gs in (
        es ∷ [],
        last_read g f (all_first (FitsLogged fl) g (flat_map (λ x. x) gs) fit) b,
        ap (λ l. es ++ l) (sym none),
        (
          r.0 ++ flat_map (λ x. x) gs,
          ap (λ l. l ++ flat_map (λ x. x) gs) r.1 ∙ append_assoc es r.0 (flat_map (λ x. x) gs) ∙ ap (λ l. l ++ (r.0 ++ flat_map (λ x. x) gs)) (sym (append-nil es) ∙ ap (λ l. es ++ l) (sym none)),
        ),
      )
  parts_read (g ∷ gs) (f ∷ h ∷ fs) fit b =
      let next = parts_read gs (h ∷ fs) (all_rest (FitsLogged fl) g (flat_map (λ x. x) gs) fit) b.1 in
      let whole = whole_read g f b.0 in (
        g ∷ next.0,
        (part_read g f (all_first (FitsLogged fl) g (flat_map (λ x. x) gs) fit) b.0, next.1),
        ap (λ l. g ++ l) next.2 ∙ ap (λ l. l ++ read_of fl gs (h ∷ fs)) (sym whole),
        (
          next.3.0,
          ap (λ l. g ++ l) next.3.1 ∙ sym (append_assoc g (read_of fl gs (h ∷ fs)) next.3.0) ∙ ap (λ l. (l ++ read_of fl gs (h ∷ fs)) ++ next.3.0) (sym whole),
        ),
      )

pub parts_are_read : PartsAreRead
parts_are_read kind fl digest cycle es files long bytes fit b =
    let all : flat_map (λ g. g) (groups_of fl cycle es) ≡ es = all_entries (entry_len fl) cycle log_head_len es in
    let r = parts_read kind fl digest long bytes (groups_of fl cycle es) files (subst (All (FitsLogged fl)) (sym all) fit) b in
    (r.0, r.1, r.2, subst (λ l. StartsWith l (read_of fl (groups_of fl cycle es) files)) all r.3)

-- ---- what was synced is among it

starts_length : {X : Type 0} (a b : List X) → StartsWith a b → length b ≤ length a
starts_length a b s = let n = ap length s.1 in omega (arith, n, length-append b s.0)

pub synced_are_read : SyncedAreRead
synced_are_read fl [] ps files c l = ([], refl)
synced_are_read fl (g ∷ gs) [] [] c l = ([], refl)
synced_are_read fl (g ∷ gs) [] (f ∷ fs) c l = absurd l
synced_are_read fl (g ∷ gs) (p ∷ []) [] c l =
    let none : whole_within fl (length p.synced - log_head_len) g ≡ [] = ap (λ q. whole_within fl (length q.synced - log_head_len) g) l ∙ none_within fl g in
    ([], sym (append-nil (whole_within fl (length p.synced - log_head_len) g ++ read_of fl gs []) ∙ ap (λ k. k ++ read_of fl gs []) none ∙ read_none fl gs))
synced_are_read fl (g ∷ gs) (p ∷ []) (f ∷ []) c l =
    let r = within_more fl g (length p.synced - log_head_len) (length f - log_head_len) (let h = starts_length f p.synced l.0.1 in omega (arith, h)) in
    let none = read_none fl gs in
    let one = append-nil (whole_within fl (length p.synced - log_head_len) g) in
    (r.0, ap (λ k. whole_within fl (length f - log_head_len) g ++ k) none ∙ append-nil (whole_within fl (length f - log_head_len) g) ∙ r.1 ∙ ap (λ k. k ++ r.0) (sym one ∙ ap (λ k. whole_within fl (length p.synced - log_head_len) g ++ k) (sym none)))
synced_are_read fl (g ∷ gs) (p ∷ []) (f ∷ h ∷ fs) c l = absurd l.1
synced_are_read fl (g ∷ gs) (p ∷ q ∷ ps) [] c l = absurd l
synced_are_read fl (g ∷ gs) (p ∷ q ∷ ps) (f ∷ fs) c l =
    let same : f ≡ p.synced = left_whole p f c.0 l.0 ∙ sym c.0 in
    let r = synced_are_read fl gs (q ∷ ps) fs c.1 l.1 in
    (r.0, ap (λ x. whole_within fl (length x - log_head_len) g ++ read_of fl gs fs) same ∙ ap (λ k. whole_within fl (length p.synced - log_head_len) g ++ k) r.1 ∙ sym (append_assoc (whole_within fl (length p.synced - log_head_len) g) (read_of fl gs (map (λ x. x.synced) (q ∷ ps))) r.0))
