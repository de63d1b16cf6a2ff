-- What appends, syncs and new parts make of the parts of a log.
use Rattle.std.proofs.Common.{◌≡◌, ℕ, ◌<◌, ◌+◌, get_or, List, [], ◌∷◌, ◌++◌, length, take, drop, refl, sym, ◌∙◌, ap, subst, append_assoc, append-nil, Option, Some, None, Result, Ok, Err, option_map}
use Rattle.std.proofs.lemmas.List.{take-append-drop}
use Rattle.cts_outside.specs.Vaults.{Appends, BeginsPart, IsSynced, Log, Logs, Syncs, all_synced, at_kind, with_bytes, with_part}
use Rattle.cts_outside.specs.declared.sink.PutFailed.{PutFailed}
use Rattle.cts_outside.specs.declared.vault.LogKind.{LogKind}
use Rattle.cts_outside.specs.declared.vault.LogKind.TheVariants.{Tlm, Cmd}
use Rattle.cts_log_parts.specs.Grouping.{BeginsParts, joined}
use Rattle.cts_log_parts.specs.Told.{AreBegunParts, AreWholeParts, BegunIf, Grows, LeftIf, PutsGrowth, WholeIf, bytes_of, other_kind, told_of}
use Rattle.cts_log_parts.specs.Growths.{headed, pieces_from}
use Rattle.cts_log_parts.proofs.Cutting.{closed_then}
use Rattle.cts_log_parts.proofs.Joining.{begins_cut, begins_grown, begins_same, joined_assoc, joined_end, joined_none}

-- ---- one call, at one log

-- parts that are whole, where their last one goes on
goes_on : (p : Log) (ps : List (List ℕ)) (bytes : List ℕ) → bytes_of p ≡ ps → bytes_of (with_bytes bytes p) ≡ joined ps (bytes ∷ [])
goes_on p ps bytes is = sym (joined_end p.past p.bytes (bytes ∷ [])) ∙ ap (λ l. joined l (bytes ∷ [])) is

whole_more : (p : Log) (ps : List (List ℕ)) (bytes : List ℕ) → AreWholeParts p ps → AreWholeParts (all_synced (with_bytes bytes p)) (joined ps (bytes ∷ []))
whole_more p ps bytes w = (goes_on p ps bytes w.0, refl)

begun_late : (p : Log) (ps : List (List ℕ)) (bytes : List ℕ) → AreWholeParts p ps → AreBegunParts (with_bytes bytes p) (joined ps (bytes ∷ []))
begun_late p ps bytes w = (
  subst (λ l. BeginsParts l (bytes_of (with_bytes bytes p))) (goes_on p ps bytes w.0) (begins_same (bytes_of (with_bytes bytes p))),
  (bytes, ap (λ l. l ++ bytes) (sym w.1)),
)

begun_cut : (p : Log) (ps : List (List ℕ)) (bytes : List ℕ) (n : ℕ) → AreWholeParts p ps → AreBegunParts (with_bytes (take n bytes) p) (joined ps (bytes ∷ []))
begun_cut p ps bytes n w =
    let whole : p.bytes ++ bytes ≡ (p.bytes ++ take n bytes) ++ drop n bytes = ap (λ l. p.bytes ++ l) (sym (take-append-drop n bytes)) ∙ sym (append_assoc p.bytes (take n bytes) (drop n bytes)) in
    let all : p.past ++ ((p.bytes ++ take n bytes) ++ drop n bytes) ∷ [] ≡ joined ps (bytes ∷ []) = ap (λ l. p.past ++ l ∷ []) (sym whole) ∙ goes_on p ps bytes w.0 in (
      subst (λ l. BeginsParts l (bytes_of (with_bytes (take n bytes) p))) all (begins_cut p.past (p.bytes ++ take n bytes) (drop n bytes)),
      (take n bytes, ap (λ l. l ++ take n bytes) (sym w.1)),
    )

whole_begun : (p : Log) (ps h : List (List ℕ)) → AreWholeParts p ps → AreBegunParts p (joined ps h)
whole_begun p ps h w = (
  begins_grown ps (bytes_of p) h (subst (λ l. BeginsParts l (bytes_of p)) w.0 (begins_same (bytes_of p))),
  ([], sym w.1 ∙ sym (append-nil p.synced)),
)

grows_same : (told : Option Log) → Grows {T = Unit {0}} {E = PutFailed} told told ([] ∷ []) (Ok tt)
grows_same None ps w = tt
grows_same (Some p) ps w = (sym (joined_none p.past p.bytes) ∙ ap (λ l. joined l ([] ∷ [])) w.0, w.1)

grows_cut : (old new : Option Log) (bytes : List ℕ) (n : ℕ) (e : PutFailed) → new ≡ option_map (with_bytes (take n bytes)) old → Grows {T = Unit {0}} old new (bytes ∷ []) (Err e)
grows_cut None new bytes n e is ps w = subst (λ (o : Option Log). BegunIf (joined ps (bytes ∷ [])) o) (sym is) (let u : Unit {0} = tt in u)
grows_cut (Some p) new bytes n e is ps w = subst (λ (o : Option Log). BegunIf (joined ps (bytes ∷ [])) o) (sym is) (begun_cut p ps bytes n w)

grows_late : (old new : Option Log) (bytes : List ℕ) (e : PutFailed) → new ≡ option_map (with_bytes bytes) old → Grows {T = Unit {0}} old new (bytes ∷ []) (Err e)
grows_late None new bytes e is ps w = subst (λ (o : Option Log). BegunIf (joined ps (bytes ∷ [])) o) (sym is) (let u : Unit {0} = tt in u)
grows_late (Some p) new bytes e is ps w = subst (λ (o : Option Log). BegunIf (joined ps (bytes ∷ [])) o) (sym is) (begun_late p ps bytes w)

grows_synced : (old new : Option Log) (bytes : List ℕ) (u : Unit {0}) → new ≡ option_map all_synced (option_map (with_bytes bytes) old) → Grows {E = PutFailed} old new (bytes ∷ []) (Ok u)
grows_synced None new bytes u is ps w = subst (λ (o : Option Log). WholeIf (joined ps (bytes ∷ [])) o) (sym is) (let v : Unit {0} = tt in v)
grows_synced (Some p) new bytes u is ps w = subst (λ (o : Option Log). WholeIf (joined ps (bytes ∷ [])) o) (sym is) (whole_more p ps bytes w)

-- then a part begins
new_part : (ps : List (List ℕ)) (bytes : List ℕ) → joined (joined ps (bytes ∷ [])) ([] ∷ [] ∷ []) ≡ joined ps (bytes ∷ [] ∷ [])
new_part ps bytes = joined_assoc ps (bytes ∷ []) ([] ∷ [] ∷ []) ∙ ap (λ l. joined ps (l ∷ [] ∷ [])) (append-nil bytes)

grows_closed : (old mid new : Option Log) (bytes : List ℕ) (u v : Unit {0}) → Grows {E = PutFailed} old mid (bytes ∷ []) (Ok u) → new ≡ option_map with_part mid → Grows {E = PutFailed} old new (bytes ∷ [] ∷ []) (Ok v)
grows_closed old None new bytes u v p is ps w = subst (λ (o : Option Log). WholeIf (joined ps (bytes ∷ [] ∷ [])) o) (sym is) (let x : Unit {0} = tt in x)
grows_closed old (Some m) new bytes u v p is ps w =
    let q = p ps w in
    let all : bytes_of (with_part m) ≡ joined ps (bytes ∷ [] ∷ []) =
    append_assoc m.past (m.bytes ∷ []) ([] ∷ []) ∙ ap (λ l. m.past ++ l ∷ [] ∷ []) (sym (append-nil m.bytes)) ∙ sym (joined_end m.past m.bytes ([] ∷ [] ∷ []))
    ∙ ap (λ l. joined l ([] ∷ [] ∷ [])) q.0 ∙ new_part ps bytes in
    subst (λ (o : Option Log). WholeIf (joined ps (bytes ∷ [] ∷ [])) o) (sym is) (all, refl)

grows_unclosed : (old mid new : Option Log) (bytes : List ℕ) (u : Unit {0}) (e : PutFailed) → Grows {E = PutFailed} old mid (bytes ∷ []) (Ok u) → new ≡ mid → Grows {T = Unit {0}} old new (bytes ∷ [] ∷ []) (Err e)
grows_unclosed old None new bytes u e p is ps w = subst (λ (o : Option Log). BegunIf (joined ps (bytes ∷ [] ∷ [])) o) (sym is) (let x : Unit {0} = tt in x)
grows_unclosed old (Some m) new bytes u e p is ps w =
    subst (λ (o : Option Log). BegunIf (joined ps (bytes ∷ [] ∷ [])) o) (sym is) (subst (AreBegunParts m) (new_part ps bytes) (whole_begun m (joined ps (bytes ∷ [])) ([] ∷ [] ∷ []) (p ps w)))

-- one after another
grows_then : (old mid new : Option Log) (g h : List (List ℕ)) (u : Unit {0}) (result : Result (Unit {0}) PutFailed) → Grows {E = PutFailed} old mid g (Ok u) → Grows mid new h result → Grows old new (joined g h) result
grows_then old mid new g h u result p q ps w = subst (λ l. LeftIf result l new) (joined_assoc ps g h) (q (joined ps g) (p ps w))

begun_more : (told : Option Log) (ps h : List (List ℕ)) → BegunIf ps told → BegunIf (joined ps h) told
begun_more None ps h b = tt
begun_more (Some p) ps h b = (begins_grown ps (bytes_of p) h b.0, b.1)

grows_less : (old new : Option Log) (g h : List (List ℕ)) (e : PutFailed) → Grows {T = Unit {0}} old new g (Err e) → Grows {T = Unit {0}} old new (joined g h) (Err e)
grows_less old new g h e p ps w = subst (λ l. BegunIf l new) (joined_assoc ps g h) (begun_more new (joined ps g) h (p ps w))

-- ---- one log of two

told_at : (kind : LogKind) (f : Log → Log) (told : Option Logs) → told_of kind (option_map (at_kind kind f) told) ≡ option_map f (told_of kind told)
told_at Tlm f None = refl
told_at Tlm f (Some logs) = refl
told_at Cmd f None = refl
told_at Cmd f (Some logs) = refl

other_at : (kind : LogKind) (f : Log → Log) (told : Option Logs) → told_of (other_kind kind) (option_map (at_kind kind f) told) ≡ told_of (other_kind kind) told
other_at Tlm f None = refl
other_at Tlm f (Some logs) = refl
other_at Cmd f None = refl
other_at Cmd f (Some logs) = refl

pub synced_after : (kind : LogKind) (old new : Option Logs) (u : Unit {0}) → Syncs {E = PutFailed} kind old new (Ok u) → IsSynced kind new
synced_after Tlm None new u is = subst (IsSynced Tlm) (sym is) (let v : Unit {0} = tt in v)
synced_after Tlm (Some logs) new u is = subst (IsSynced Tlm) (sym is) refl
synced_after Cmd None new u is = subst (IsSynced Cmd) (sym is) (let v : Unit {0} = tt in v)
synced_after Cmd (Some logs) new u is = subst (IsSynced Cmd) (sym is) refl

pub synced_new : (kind : LogKind) (old new : Option Logs) (u : Unit {0}) → BeginsPart {E = PutFailed} kind old new (Ok u) → IsSynced kind new
synced_new Tlm None new u is = subst (IsSynced Tlm) (sym is) (let v : Unit {0} = tt in v)
synced_new Tlm (Some logs) new u is = subst (IsSynced Tlm) (sym is) refl
synced_new Cmd None new u is = subst (IsSynced Cmd) (sym is) (let v : Unit {0} = tt in v)
synced_new Cmd (Some logs) new u is = subst (IsSynced Cmd) (sym is) refl

module _ (kind : LogKind) where
  pub puts_same : (told : Option Logs) → PutsGrowth {T = Unit {0}} {E = PutFailed} kind told told ([] ∷ []) (Ok tt)
  puts_same told = (grows_same (told_of kind told), refl)

  pub puts_nothing : (told : Option Logs) (bytes : List ℕ) → bytes ≡ [] → PutsGrowth {T = Unit {0}} {E = PutFailed} kind told told (bytes ∷ []) (Ok tt)
  puts_nothing told bytes none = subst (λ b. PutsGrowth {T = Unit {0}} {E = PutFailed} kind told told (b ∷ []) (Ok tt)) (sym none) (puts_same told)

  pub puts_cut : (old new : Option Logs) (bytes : List ℕ) (e : PutFailed) → Appends {T = Unit {0}} kind old new bytes (Err e) → PutsGrowth {T = Unit {0}} kind old new (bytes ∷ []) (Err e)
  puts_cut old new bytes e a = (
    grows_cut (told_of kind old) (told_of kind new) bytes a.0 e (ap (told_of kind) a.2 ∙ told_at kind (with_bytes (take a.0 bytes)) old),
    ap (told_of (other_kind kind)) a.2 ∙ other_at kind (with_bytes (take a.0 bytes)) old,
  )

  pub puts_synced : (old mid new : Option Logs) (bytes : List ℕ) (result : Result (Unit {0}) PutFailed) → mid ≡ option_map (at_kind kind (with_bytes bytes)) old → Syncs kind mid new result → PutsGrowth kind old new (bytes ∷ []) result
  puts_synced old mid new bytes (Ok u) a s = (
    grows_synced (told_of kind old) (told_of kind new) bytes u (ap (told_of kind) s ∙ told_at kind all_synced mid ∙ ap (option_map all_synced) (ap (told_of kind) a ∙ told_at kind (with_bytes bytes) old)),
    ap (told_of (other_kind kind)) s ∙ other_at kind all_synced mid ∙ ap (told_of (other_kind kind)) a ∙ other_at kind (with_bytes bytes) old,
  )
  puts_synced old mid new bytes (Err e) a s = (
    grows_late (told_of kind old) (told_of kind new) bytes e (ap (told_of kind) (s ∙ a) ∙ told_at kind (with_bytes bytes) old),
    ap (told_of (other_kind kind)) (s ∙ a) ∙ other_at kind (with_bytes bytes) old,
  )

  -- then a part begins
  pub puts_closed : (old mid new : Option Logs) (bytes : List ℕ) (u : Unit {0}) (result : Result (Unit {0}) PutFailed) → PutsGrowth {E = PutFailed} kind old mid (bytes ∷ []) (Ok u) → BeginsPart kind mid new result
      → PutsGrowth kind old new (bytes ∷ [] ∷ []) result
  puts_closed old mid new bytes u (Ok v) p b = (
    grows_closed (told_of kind old) (told_of kind mid) (told_of kind new) bytes u v p.0 (ap (told_of kind) b ∙ told_at kind with_part mid),
    ap (told_of (other_kind kind)) b ∙ other_at kind with_part mid ∙ p.1,
  )
  puts_closed old mid new bytes u (Err e) p b = (
    grows_unclosed (told_of kind old) (told_of kind mid) (told_of kind new) bytes u e p.0 (ap (told_of kind) b),
    ap (told_of (other_kind kind)) b ∙ p.1,
  )

  -- ---- one after another

  pub puts_then : (old mid new : Option Logs) (g h : List (List ℕ)) (u : Unit {0}) (result : Result (Unit {0}) PutFailed) → PutsGrowth {E = PutFailed} kind old mid g (Ok u) → PutsGrowth kind mid new h result → PutsGrowth kind old new (joined g h) result
  puts_then old mid new g h u result p q = (grows_then (told_of kind old) (told_of kind mid) (told_of kind new) g h u result p.0 q.0, q.1 ∙ p.1)

  puts_less : (old new : Option Logs) (g h : List (List ℕ)) (e : PutFailed) → PutsGrowth {T = Unit {0}} kind old new g (Err e) → PutsGrowth {T = Unit {0}} kind old new (joined g h) (Err e)
  puts_less old new g h e p = (grows_less (told_of kind old) (told_of kind new) g h e p.0, p.1)

  -- ---- a new part

  -- a part is begun, and then its head is put
  pub part_begun : (old mid new : Option Logs) (head : List ℕ) (u : Unit {0}) (result : Result (Unit {0}) PutFailed) → BeginsPart {E = PutFailed} kind old mid (Ok u) → PutsGrowth kind mid new (head ∷ []) result
      → PutsGrowth kind old new ([] ∷ head ∷ []) result
  part_begun old mid new head u result b p = puts_then old mid new ([] ∷ [] ∷ []) (head ∷ []) tt result (puts_closed old old mid [] tt (Ok u) (puts_same old) b) p

  pub part_refused : (old new : Option Logs) (head : List ℕ) (e : PutFailed) → BeginsPart {T = Unit {0}} kind old new (Err e) → PutsGrowth {T = Unit {0}} kind old new ([] ∷ head ∷ []) (Err e)
  part_refused old new head e b = puts_less old new ([] ∷ [] ∷ []) (head ∷ []) e (puts_closed old old new [] tt (Err e) (puts_same old) b)

  -- a piece is put before it
  closed_by : (bytes head : List ℕ) → joined (bytes ∷ []) ([] ∷ head ∷ []) ≡ bytes ∷ head ∷ []
  closed_by bytes head = ap (λ l. l ∷ head ∷ []) (append-nil bytes)

  pub piece_closed : (old mid new : Option Logs) (bytes head : List ℕ) (u : Unit {0}) (result : Result (Unit {0}) PutFailed) → PutsGrowth {E = PutFailed} kind old mid (bytes ∷ []) (Ok u) → PutsGrowth kind mid new ([] ∷ head ∷ []) result
      → PutsGrowth kind old new (bytes ∷ head ∷ []) result
  piece_closed old mid new bytes head u result p q = subst (λ g. PutsGrowth kind old new g result) (closed_by bytes head) (puts_then old mid new (bytes ∷ []) ([] ∷ head ∷ []) u result p q)

  pub piece_refused : (old new : Option Logs) (bytes head : List ℕ) (e : PutFailed) → PutsGrowth {T = Unit {0}} kind old new (bytes ∷ []) (Err e) → PutsGrowth {T = Unit {0}} kind old new (bytes ∷ head ∷ []) (Err e)
  piece_refused old new bytes head e p = subst (λ g. PutsGrowth {T = Unit {0}} kind old new g (Err e)) (closed_by bytes head) (puts_less old new (bytes ∷ []) ([] ∷ head ∷ []) e p)

  -- ---- pieces

  -- a piece was put and closed, and then those that are left
  pub pieces_then : (old mid new : Option Logs) (head p bytes : List ℕ) (from : ℕ) (places : List ℕ) (u : Unit {0}) (result : Result (Unit {0}) PutFailed) → PutsGrowth {E = PutFailed} kind old mid (p ∷ head ∷ []) (Ok u)
      → PutsGrowth kind mid new (headed head (pieces_from from places bytes)) result → PutsGrowth kind old new (headed head (p ∷ pieces_from from places bytes)) result
  pieces_then old mid new head p bytes from places u result a b =
      subst (λ g. PutsGrowth kind old new g result) (closed_then head p bytes from places) (puts_then old mid new (p ∷ head ∷ []) (headed head (pieces_from from places bytes)) u result a b)

  pub pieces_refused : (old new : Option Logs) (head p bytes : List ℕ) (from : ℕ) (places : List ℕ) (e : PutFailed) → PutsGrowth {T = Unit {0}} kind old new (p ∷ head ∷ []) (Err e)
      → PutsGrowth {T = Unit {0}} kind old new (headed head (p ∷ pieces_from from places bytes)) (Err e)
  pieces_refused old new head p bytes from places e a =
      subst (λ g. PutsGrowth {T = Unit {0}} kind old new g (Err e)) (closed_then head p bytes from places) (puts_less old new (p ∷ head ∷ []) (headed head (pieces_from from places bytes)) e a)
