-- A beginning of a log is read as the entries that lie whole in it.
use Rattle.std.proofs.Common.{◌≡◌, ℕ, ◌+◌, ◌-◌, ◌<◌, Bool, true, false, List, [], ◌∷◌, ◌++◌, length, take, drop, refl, sym, ◌∙◌, ap, subst, arith, append_assoc, length-append}
use Rattle.std.specs.Prelude.{nat_le}
use Rattle.std.specs.List.{All, flat_map}
use Rattle.std.proofs.lemmas.List.{length-take, take-append-drop, take_all}
use Rattle.std.proofs.lemmas.List.Elements.{All-head, All-tail, All-cons, All-nil}
use Rattle.std.proofs.lemmas.Bool.Decides.{nat_tests}
use Rattle.cts_framing.proofs.ErrorsExact.{front_taken}
use Rattle.cts_framing.proofs.Fronts.{le_tells}
use Rattle.cts_log.specs.Files.{log_file, log_head, log_head_len}
use Rattle.cts_log.specs.Laws.{BeginningsAreRead, whole_within}
use Rattle.cts_log.specs.Logged.{Logged, FitsLogged, entry_bytes, entry_end}
use Rattle.cts_log.proofs.EntriesAgain.{read_again}
use Rattle.cts_log.proofs.LogHeads.{head_len, heads_are_written}
use Rattle.cts_log.proofs.ReadOnce.{BeginsWithNone, none_in_nothing}

short : (m n : ℕ) → nat_le m n ≡ false → n < m
short m n h = grind (arith, nat_tests)

-- what is cut at `room` bytes: whole entries, and a rest that begins with none
pub record IsCutWithin (fl : Bool) (room : ℕ) (es : List Logged) : Type 0 where
  pub rest : List ℕ
  pub taken : take room (flat_map (entry_bytes fl) es) ≡ flat_map (entry_bytes fl) (whole_within fl room es) ++ rest
  pub none : BeginsWithNone fl rest
  pub fit : All (FitsLogged fl) (whole_within fl room es)

-- fewer bytes than an entry has begin with no whole one
part_of_one : (fl : Bool) (e : Logged) (x : List ℕ) (room : ℕ) → FitsLogged fl e → room < length (entry_bytes fl e) → BeginsWithNone fl (take room (entry_bytes fl e ++ x))
part_of_one fl e x room fe short f y ff laid =
    let whole : entry_bytes fl f ++ (y ++ drop room (entry_bytes fl e ++ x)) ≡ entry_bytes fl e ++ x =
    sym (append_assoc (entry_bytes fl f) y (drop room (entry_bytes fl e ++ x))) ∙ (ap (λ v. v ++ drop room (entry_bytes fl e ++ x)) (sym laid) ∙ take-append-drop room (entry_bytes fl e ++ x)) in
    let one : length (entry_bytes fl f) ≡ length (entry_bytes fl e) =
    sym (read_again fl f (y ++ drop room (entry_bytes fl e ++ x)) ff).end ∙ (ap (entry_end fl) whole ∙ (read_again fl e x fe).end) in
    let long = ap length laid in
    absurd (omega (arith, one, short, long, length-append (entry_bytes fl f) y, length-take room (entry_bytes fl e ++ x)))

step : (fl : Bool) (room : ℕ) (e : Logged) (es : List Logged) (fits : Bool) → nat_le (length (entry_bytes fl e)) room ≡ fits → All (FitsLogged fl) (e ∷ es)
    → IsCutWithin fl (room - length (entry_bytes fl e)) es → IsCutWithin fl room (e ∷ es)
step fl room e es true t a c =
    let within : whole_within fl room (e ∷ es) ≡ e ∷ whole_within fl (room - length (entry_bytes fl e)) es = rw t refl in
    record {
      rest = c.rest;
      taken =
          front_taken room (entry_bytes fl e) (flat_map (entry_bytes fl) es) (le_tells (length (entry_bytes fl e)) room t)
          ∙ (ap (λ v. entry_bytes fl e ++ v) c.taken
          ∙ (sym (append_assoc (entry_bytes fl e) (flat_map (entry_bytes fl) (whole_within fl (room - length (entry_bytes fl e)) es)) c.rest)
          ∙ ap (λ v. flat_map (entry_bytes fl) v ++ c.rest) (sym within)));
      none = c.none;
      fit = subst (All (FitsLogged fl)) (sym within) (All-cons (FitsLogged fl) e (whole_within fl (room - length (entry_bytes fl e)) es) (All-head (FitsLogged fl) e es a) c.fit);
    }
step fl room e es false t a c =
    let within : whole_within fl room (e ∷ es) ≡ [] = rw t refl in
    record {
      rest = take room (entry_bytes fl e ++ flat_map (entry_bytes fl) es);
      taken = ap (λ v. flat_map (entry_bytes fl) v ++ take room (entry_bytes fl e ++ flat_map (entry_bytes fl) es)) (sym within);
      none = part_of_one fl e (flat_map (entry_bytes fl) es) room (All-head (FitsLogged fl) e es a) (short (length (entry_bytes fl e)) room t);
      fit = subst (All (FitsLogged fl)) (sym within) (All-nil (FitsLogged fl));
    }

cut_within : (fl : Bool) (room : ℕ) (es : List Logged) → All (FitsLogged fl) es → IsCutWithin fl room es
cut_within fl room [] a = record { rest = []; taken = take_all room [] (omega arith); none = none_in_nothing fl; fit = All-nil (FitsLogged fl) }
cut_within fl room (e ∷ es) a = step fl room e es (nat_le (length (entry_bytes fl e)) room) refl a (cut_within fl (room - length (entry_bytes fl e)) es (All-tail (FitsLogged fl) e es a))

pub beginnings_are_read : BeginningsAreRead
beginnings_are_read kind fl digest es n l b a low high =
    let head = heads_are_written kind fl digest l b in
    let len : length (log_head kind fl digest) ≡ 128 = head_len kind fl (log_head kind fl digest) head in
    let c = cut_within fl (n - log_head_len) es a in
    let taken : take n (log_file kind fl digest es) ≡ log_head kind fl digest ++ (flat_map (entry_bytes fl) (whole_within fl (n - log_head_len) es) ++ c.rest) =
    front_taken n (log_head kind fl digest) (flat_map (entry_bytes fl) es) (omega (arith, len, low))
    ∙ ap (λ v. log_head kind fl digest ++ v) (ap (λ k. take (n - k) (flat_map (entry_bytes fl) es)) len ∙ c.taken) in
    let sizes = ap length taken in
    record {
      head = log_head kind fl digest;
      rest = c.rest;
      is_head = head;
      file_is = taken;
      fit = c.fit;
      none = c.none;
      place_is = omega (
        arith,
        sizes,
        length-append (log_head kind fl digest) (flat_map (entry_bytes fl) (whole_within fl (n - log_head_len) es) ++ c.rest),
        length-append (flat_map (entry_bytes fl) (whole_within fl (n - log_head_len) es)) c.rest,
        length-append (log_head kind fl digest) (flat_map (entry_bytes fl) (whole_within fl (n - log_head_len) es)),
      );
    }
