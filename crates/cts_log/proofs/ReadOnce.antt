-- What has been read of a file, and that it is read in one way.
use Rattle.std.proofs.Common.{◌≡◌, ℕ, suc, zero, Bool, ◌+◌, ◌<◌, true, false, List, [], ◌∷◌, ◌++◌, length, drop, refl, sym, ◌∙◌, ap, ap₂, subst, arith, rules, append_assoc, length-append, Some, None, Result, Ok, Err}
use Rattle.std.specs.Prelude.{is_some, min, Option}
use Rattle.std.specs.List.{All, flat_map}
use Rattle.std.proofs.lemmas.List.{append-nil, append_cancel_left, drop-drop, drop_at, drop_all, length-drop}
use Rattle.std.proofs.lemmas.Grind.{flat_map-append}
use Rattle.std.proofs.lemmas.List.Elements.{All-head, All-tail, All-append, All-cons, All-nil}
use Rattle.cts_framing.specs.Heads.{AreBytes}
use Rattle.cts_framing.proofs.Fronts.{same_front}
use Rattle.cts_framing.proofs.HeadWhole.{are_drop}
use Rattle.cts_framing.proofs.Laid.{laid_end_is}
use Rattle.cts_log.specs.Files.{flagged_of, kind_of, log_head, log_head_len}
use Rattle.cts_log.specs.Laws.{LogsAreReadAgain, LogsAreReadOnce, LogsHaveARead, NoHeadNoRead}
use Rattle.cts_log.specs.Logged.{Logged, FitsLogged, entry_bytes, entry_end, entry_of, has_entry}
use Rattle.cts_log.specs.Reading.{Answers, HasRead, IsLogRead, ReaderData, ReadsOn, flagged, left, logged}
use Rattle.cts_log.specs.declared.entry.LogEntry.{LogEntry}
use Rattle.cts_log.specs.declared.fault.LogFault.{LogFault}
use Rattle.cts_log.specs.declared.fault.LogFault.TheVariants.{BadHead, Cut}
use Rattle.cts_log.specs.declared.kind.LogKind.{LogKind}
use Rattle.cts_log.proofs.EntriesAgain.{all_there, fits_there, laid_there, read_again}
use Rattle.cts_log.proofs.LogHeads.{head_len, heads_are_exact, heads_are_written, one_head}

-- these bytes begin with no whole entry
abbrev pub BeginsWithNone : Bool → List ℕ → Type 0
BeginsWithNone fl rest = (e : Logged) (x : List ℕ) → FitsLogged fl e → rest ≡ entry_bytes fl e ++ x → ⊥

pub none_there : (fl : Bool) (u : List ℕ) → has_entry fl u ≡ false → BeginsWithNone fl u
none_there fl u h e x f l = let yes : true ≡ false = sym (ap (has_entry fl) l ∙ (read_again fl e x f).whole) ∙ h in cc yes

pub none_in_nothing : (fl : Bool) → BeginsWithNone fl []
none_in_nothing true = none_there true [] refl
none_in_nothing false = none_there false [] refl

-- ---- one way

same_entry : (fl : Bool) (e f : Logged) (x y : List ℕ) → FitsLogged fl e → FitsLogged fl f → entry_bytes fl e ++ x ≡ entry_bytes fl f ++ y → e ≡ f
same_entry fl e f x y a b h = sym (read_again fl e x a).entry ∙ (ap (entry_of fl) h ∙ (read_again fl f y b).entry)

pub entries_once : (fl : Bool) (es fs : List Logged) (r s : List ℕ) → All (FitsLogged fl) es → All (FitsLogged fl) fs → BeginsWithNone fl r → BeginsWithNone fl s
    → flat_map (entry_bytes fl) es ++ r ≡ flat_map (entry_bytes fl) fs ++ s → (es ≡ fs) × (r ≡ s)
entries_once fl [] [] r s a b n m h = (refl, h)
entries_once fl [] (f ∷ fs) r s a b n m h =
    absurd (n f (flat_map (entry_bytes fl) fs ++ s) (All-head (FitsLogged fl) f fs b) (h ∙ append_assoc (entry_bytes fl f) (flat_map (entry_bytes fl) fs) s))
entries_once fl (e ∷ es) [] r s a b n m h =
    absurd (m e (flat_map (entry_bytes fl) es ++ r) (All-head (FitsLogged fl) e es a) (sym h ∙ append_assoc (entry_bytes fl e) (flat_map (entry_bytes fl) es) r))
entries_once fl (e ∷ es) (f ∷ fs) r s a b n m h =
    let laid : entry_bytes fl e ++ (flat_map (entry_bytes fl) es ++ r) ≡ entry_bytes fl f ++ (flat_map (entry_bytes fl) fs ++ s) =
    sym (append_assoc (entry_bytes fl e) (flat_map (entry_bytes fl) es) r) ∙ (h ∙ append_assoc (entry_bytes fl f) (flat_map (entry_bytes fl) fs) s) in
    let same : e ≡ f = same_entry fl e f (flat_map (entry_bytes fl) es ++ r) (flat_map (entry_bytes fl) fs ++ s) (All-head (FitsLogged fl) e es a) (All-head (FitsLogged fl) f fs b) laid in
    let after : flat_map (entry_bytes fl) es ++ r ≡ flat_map (entry_bytes fl) fs ++ s =
    append_cancel_left (entry_bytes fl e) (flat_map (entry_bytes fl) es ++ r) (flat_map (entry_bytes fl) fs ++ s) (laid ∙ ap (λ (g : Logged). entry_bytes fl g ++ (flat_map (entry_bytes fl) fs ++ s)) (sym same)) in
    let more = entries_once fl es fs r s (All-tail (FitsLogged fl) e es a) (All-tail (FitsLogged fl) f fs b) n m after in
    (ap₂ ◌∷◌ same more.0, more.1)

-- with flags or without
same_read : (file : List ℕ) (kind other : LogKind) (fl : Bool) (es fs : List Logged) (place end : ℕ) → IsLogRead file kind fl es place → IsLogRead file other fl fs end → (es ≡ fs) × (place ≡ end)
same_read file kind other fl es fs place end r s =
    let joined : r.head ++ (flat_map (entry_bytes fl) es ++ r.rest) ≡ s.head ++ (flat_map (entry_bytes fl) fs ++ s.rest) = sym r.file_is ∙ s.file_is in
    let heads : r.head ≡ s.head =
    same_front r.head s.head (flat_map (entry_bytes fl) es ++ r.rest) (flat_map (entry_bytes fl) fs ++ s.rest) (head_len kind fl r.head r.is_head ∙ sym (head_len other fl s.head s.is_head)) joined in
    let after = append_cancel_left r.head (flat_map (entry_bytes fl) es ++ r.rest) (flat_map (entry_bytes fl) fs ++ s.rest) (joined ∙ ap (λ v. v ++ (flat_map (entry_bytes fl) fs ++ s.rest)) (sym heads)) in
    let same = entries_once fl es fs r.rest s.rest r.fit s.fit r.none s.none after in
    let rests : length r.rest ≡ length s.rest = ap length same.1 in
    (same.0, omega (arith, r.place_is, s.place_is, rests))

pub logs_are_read_once : LogsAreReadOnce
logs_are_read_once file kind other fl too es fs place end r s =
    let kinds = one_head kind other fl too r.head s.head (flat_map (entry_bytes fl) es ++ r.rest) (flat_map (entry_bytes too) fs ++ s.rest) r.is_head s.is_head (sym r.file_is ∙ s.file_is) in
    let once = same_read file kind other fl es fs place end r (subst (λ (g : Bool). IsLogRead file other g fs end) (sym kinds.1) s) in
    (kinds.0, kinds.1, once.0, once.1)

pub no_head_no_read : NoHeadNoRead
no_head_no_read file kind fl es place n r = n kind fl r.head (flat_map (entry_bytes fl) es ++ r.rest) r.is_head r.file_is

-- ---- what was written is read again

pub logs_are_read_again : LogsAreReadAgain
logs_are_read_again kind fl digest es l b a = record {
  head = log_head kind fl digest;
  rest = [];
  is_head = heads_are_written kind fl digest l b;
  file_is = ap (λ v. log_head kind fl digest ++ v) (sym (append-nil (flat_map (entry_bytes fl) es)));
  fit = a;
  none = none_in_nothing fl;
  place_is = omega arith;
}

-- ---- the reader's steps

some_tells : (file : List ℕ) (o : Option LogKind) → kind_of file ≡ o → is_some o ≡ true → (kind : LogKind) × (kind_of file ≡ Some kind)
some_tells file None e h = cc h
some_tells file (Some kind) e h = (kind, e)

pub begins_to_read : (file : List ℕ) → is_some (kind_of file) ≡ true → HasRead (record { file = file; place = min log_head_len (length file) }) []
begins_to_read file h =
    let k = some_tells file (kind_of file) refl h in
    let t = (heads_are_exact file k.0 (flagged_of file)).0 (k.1, refl) in
    let long : length t.0 ≡ 128 = head_len k.0 (flagged_of file) t.0 t.2 in
    let l = ap length t.3 in
    let at : min log_head_len (length file) ≡ length t.0 = omega (arith, long, l, length-append t.0 t.1) in
    let after : t.1 ≡ drop (min log_head_len (length file)) file = sym (ap (drop (min log_head_len (length file))) t.3 ∙ drop_at t.0 t.1 (min log_head_len (length file)) (sym at)) in
    record {
      kind = k.0;
      head = t.0;
      is_head = t.2;
      file_is = t.3 ∙ ap (λ v. t.0 ++ v) after;
      fit = All-nil (FitsLogged (flagged_of file));
      within = omega arith;
    }

joined : (fl : Bool) (es : List Logged) (e : Logged) → flat_map (entry_bytes fl) es ++ entry_bytes fl e ≡ flat_map (entry_bytes fl) (es ++ e ∷ [])
joined fl es e = ap (λ v. flat_map (entry_bytes fl) es ++ v) (sym (append-nil (entry_bytes fl e))) ∙ sym (flat_map-append (entry_bytes fl) es (e ∷ []))

module _ (r : ReaderData) (es : List Logged) (b : AreBytes r.file) (h : HasRead r es) where
  abbrev fl : Bool
  fl = flagged r

  pub one_more : has_entry fl (left r) ≡ true → HasRead (record r { place = r.place + entry_end fl (left r) }) (es ++ entry_of fl (left r) ∷ [])
  one_more t =
      let lb = are_drop r.place r.file b in
      let laid = laid_there fl (left r) lb t in
      let ends = ap length laid in
      let again = (read_again fl (entry_of fl (left r)) (drop (entry_end fl (left r)) (left r)) (fits_there fl (left r) lb t)).end in
      record {
        kind = h.kind;
        head = h.head;
        is_head = h.is_head;
        file_is =
            h.file_is
            ∙ ap (λ v. h.head ++ v) (ap (λ v. flat_map (entry_bytes fl) es ++ v) (laid ∙ ap (λ v. entry_bytes fl (entry_of fl (left r)) ++ v) (drop-drop (entry_end fl (left r)) r.place r.file))
            ∙ (sym (append_assoc (flat_map (entry_bytes fl) es) (entry_bytes fl (entry_of fl (left r))) (drop (r.place + entry_end fl (left r)) r.file))
            ∙ ap (λ v. v ++ drop (r.place + entry_end fl (left r)) r.file) (joined fl es (entry_of fl (left r)))));
        fit = All-append (FitsLogged fl) es (entry_of fl (left r) ∷ []) h.fit (All-cons (FitsLogged fl) (entry_of fl (left r)) [] (fits_there fl (left r) lb t) (All-nil (FitsLogged fl)));
        within = omega (arith, h.within, all_there fl (left r) lb t, length-drop r.place r.file);
      }

pub read_to : (r : ReaderData) (es : List Logged) → HasRead r es → BeginsWithNone (flagged r) (left r) → (kind : LogKind) × IsLogRead r.file kind (flagged r) es r.place
read_to r es h n = (
  h.kind,
  record {
    head = h.head;
    rest = left r;
    is_head = h.is_head;
    file_is = h.file_is;
    fit = h.fit;
    none = n;
    place_is = omega (arith, h.within, length-drop r.place r.file);
  },
)

pub readers_read_on : (old new : ReaderData) (answer : Result (Option LogEntry) LogFault) (es : List Logged) → AreBytes old.file → Answers old answer new → HasRead old es → ReadsOn old es answer new
readers_read_on old new (Ok (Some e)) es b a h =
    let more = one_more old es b h a.1 in
    subst (λ (r : ReaderData). HasRead r (es ++ logged e ∷ [])) (sym a.3) (subst (λ (l : Logged). HasRead (record old { place = old.place + entry_end (flagged old) (left old) }) (es ++ l ∷ [])) (sym a.2) more)
readers_read_on old new (Ok None) es b a h =
    let nothing : left old ≡ [] = drop_all old.place old.file (omega (arith, a.1)) in
    let r = read_to old es h (subst (BeginsWithNone (flagged old)) (sym nothing) (none_in_nothing (flagged old))) in
    (r.0, subst (λ (n : ℕ). IsLogRead old.file r.0 (flagged old) es n) a.1 r.1)
readers_read_on old new (Err BadHead) es b a h =
    let known = (heads_are_exact old.file h.kind (flagged old)).1 (h.head, flat_map (entry_bytes (flagged old)) es ++ left old, h.is_head, h.file_is) in
    let never : None ≡ Some h.kind = sym a.0 ∙ known.0 in
    cc never
readers_read_on old new (Err (Cut place)) es b a h =
    let r = read_to old es h (none_there (flagged old) (left old) a.3) in
    (r.0, subst (λ (n : ℕ). IsLogRead old.file r.0 (flagged old) es n) (sym a.1) r.1, omega (arith, a.1, a.2))

-- ---- a file with a head is read

-- what is left grows shorter with each entry
entry_long : (fl : Bool) (u : List ℕ) → 0 < entry_end fl u
entry_long fl u = omega (arith, laid_end_is fl u)

abbrev SomeRead : List ℕ → Type 0
SomeRead file = (kind : LogKind) × (fs : List Logged) × (place : ℕ) × IsLogRead file kind (flagged_of file) fs place

-- an entry more, or the end
reads_by : (t : Bool) (r : ReaderData) (es : List Logged) → has_entry (flagged r) (left r) ≡ t → HasRead r es → (has_entry (flagged r) (left r) ≡ true → SomeRead r.file) → SomeRead r.file
reads_by true r es e h more = more e
reads_by false r es e h more = let x = read_to r es h (none_there (flagged r) (left r) e) in (x.0, es, r.place, x.1)

reads_from : (n : ℕ) (r : ReaderData) (es : List Logged) → AreBytes r.file → HasRead r es → length r.file < n + r.place → SomeRead r.file
reads_from zero r es b h l = let within = h.within in absurd (omega (arith, l, within))
reads_from (suc n) r es b h l =
    let long = entry_long (flagged r) (left r) in
    reads_by (has_entry (flagged r) (left r)) r es refl h
    (λ e. reads_from n (record r { place = r.place + entry_end (flagged r) (left r) }) (es ++ entry_of (flagged r) (left r) ∷ []) b (one_more r es b h e) (omega (arith, l, long)))

inside : (x y : LogKind) → Some x ≡ Some y → x ≡ y
inside x y e = search (rules, e)

pub logs_have_a_read : LogsHaveARead
logs_have_a_read file kind b e =
    let start : ReaderData = record { file = file; place = min log_head_len (length file) } in
    let x = reads_from (suc (length file)) start [] b (begins_to_read file (ap is_some e)) (omega arith) in
    let known = (heads_are_exact file x.0 (flagged_of file)).1 (x.3.head, flat_map (entry_bytes (flagged_of file)) x.1 ++ x.3.rest, x.3.is_head, x.3.file_is) in
    let same : Some x.0 ≡ Some kind = sym known.0 ∙ e in
    (x.1, x.2, subst (λ (k : LogKind). IsLogRead file k (flagged_of file) x.1 x.2) (inside x.0 kind same) x.3)
