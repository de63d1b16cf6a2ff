-- What the puts into both logs make of their parts.
use Rattle.std.proofs.Common.{◌≡◌, ℕ, List, [], ◌∷◌, ◌++◌, sym, refl, ap, ◌∙◌, subst, append-nil, Option, Some, None, Result, Ok, Err}
use Rattle.cts_def.specs.Sites.{SiteData}
use Rattle.cts_log_parts.specs.Grouping.{BeginsParts, joined}
use Rattle.cts_log_parts.specs.Growths.{cut_growth}
use Rattle.cts_log_parts.specs.Told.{AreBegunParts, AreWholeParts, Grows, PutsGrowth, bytes_of, told_of}
use Rattle.cts_log_parts.proofs.Joining.{begins_grown, begins_same}
use Rattle.cts_outside.specs.Vaults.{IsSynced, Log, Logs}
use Rattle.cts_outside.specs.declared.sink.PutFailed.{PutFailed}
use Rattle.cts_outside.specs.declared.vault.LogKind.{LogKind}
use Rattle.cts_outside.specs.declared.vault.LogKind.TheVariants.{Tlm, Cmd}
use Rattle.cts_scribe.specs.declared.heads.Heads.{Heads}
use Rattle.cts_scribe.specs.Growing.{AreHeads}
use Rattle.cts_scribe.specs.Logs.{head_of, parts}
use Rattle.cts_scribe.specs.Vaults.{AreBlank, AreSynced, IsBlank, IsLeft, LogsSo, PutsBoth}

-- ---- what is synced

-- logs to which nothing was appended are
pub blank_synced : (told : Option Logs) → AreBlank told → AreSynced told
blank_synced None b = (tt, tt)
blank_synced (Some logs) b = (b.0.1 ∙ sym b.0.0, b.1.1 ∙ sym b.1.0)

-- and so is a log that is as one was that is
pub same_synced : (kind : LogKind) (old new : Option Logs) → told_of kind new ≡ told_of kind old → IsSynced kind old → IsSynced kind new
same_synced kind old None e s = tt
same_synced Tlm None (Some n) e s = absurd cc
same_synced Cmd None (Some n) e s = absurd cc
same_synced Tlm (Some o) (Some n) e s = let same : n.tlm ≡ o.tlm = cc in ap (λ (l : Log). l.synced) same ∙ s ∙ sym (ap (λ (l : Log). l.bytes) same)
same_synced Cmd (Some o) (Some n) e s = let same : n.cmd ≡ o.cmd = cc in ap (λ (l : Log). l.synced) same ∙ s ∙ sym (ap (λ (l : Log). l.bytes) same)

-- ---- one log

-- parts that are whole are a beginning of themselves, and of more
whole_begun : (l : Log) (ps h : List (List ℕ)) → AreWholeParts l ps → AreBegunParts l (joined ps h)
whole_begun l ps h w = (
  begins_grown ps (bytes_of l) h (subst (λ x. BeginsParts x (bytes_of l)) w.0 (begins_same (bytes_of l))),
  ([], sym w.1 ∙ sym (append-nil l.synced)),
)

pub full_begun : (l : Log) (ps : List (List ℕ)) → AreWholeParts l ps → AreBegunParts l ps
full_begun l ps w = (subst (λ x. BeginsParts x (bytes_of l)) w.0 (begins_same (bytes_of l)), ([], sym w.1 ∙ sym (append-nil l.synced)))

left_begun : (result : Result (Unit {0}) PutFailed) (l : Log) (ps : List (List ℕ)) → AreWholeParts l ps → IsLeft result l ps
left_begun (Ok u) l ps w = w
left_begun (Err e) l ps w = full_begun l ps w

-- ---- both logs

-- the first fails
pub both_first : (old new : Option Logs) (tlm cmd : List (List ℕ)) (fault : PutFailed) → PutsGrowth {T = Unit {0}} Tlm old new tlm (Err fault)
    → PutsBoth old new tlm cmd (Err fault)
both_first old None tlm cmd fault puts t c w = tt
both_first None (Some n) tlm cmd fault puts t c w = absurd (let e = puts.1 in cc)
both_first (Some o) (Some n) tlm cmd fault puts t c w =
    let e = puts.1 in
    let same : n.cmd ≡ o.cmd = cc in
    (puts.0 t w.0, subst (λ (l : Log). AreBegunParts l (joined c cmd)) (sym same) (whole_begun o.cmd c cmd w.1))

left_grown : (result : Result (Unit {0}) PutFailed) (o n : Log) (ps growth : List (List ℕ)) → Grows (Some o) (Some n) growth result → AreWholeParts o ps
    → IsLeft result n (joined ps growth)
left_grown (Ok u) o n ps growth g w = g ps w
left_grown (Err e) o n ps growth g w = g ps w

-- the first succeeds
pub both_second : (old mid new : Option Logs) (tlm cmd : List (List ℕ)) (u : Unit {0}) (result : Result (Unit {0}) PutFailed)
    → PutsGrowth {E = PutFailed} Tlm old mid tlm (Ok u) → PutsGrowth Cmd mid new cmd result
    → PutsBoth old new tlm cmd result
both_second old mid None tlm cmd u result first second t c w = tt
both_second old None (Some n) tlm cmd u result first second t c w = absurd (let e = second.1 in cc)
both_second None (Some m) (Some n) tlm cmd u result first second t c w = absurd (let e = first.1 in cc)
both_second (Some o) (Some m) (Some n) tlm cmd u result first second t c w =
    let e = first.1 in
    let f = second.1 in
    let same : m.cmd ≡ o.cmd = cc in
    let kept : n.tlm ≡ m.tlm = cc in (
      subst (λ (l : Log). IsLeft result l (joined t tlm)) (sym kept) (left_begun result m.tlm (joined t tlm) (first.0 t w.0)),
      left_grown result m.cmd n.cmd c cmd second.0 (subst (λ (l : Log). AreWholeParts l c) (sym same) w.1),
    )

-- ---- the heads

-- what a head gives where nothing is cut
pub head_growth : (head places : List ℕ) → places ≡ [] → cut_growth head places head ≡ head ∷ []
head_growth head places none = ap (λ (l : List ℕ). cut_growth head l head) none

one_blank : (l : Log) → IsBlank l → AreWholeParts l ([] ∷ [])
one_blank l b = (ap (λ (p : List (List ℕ)). p ++ l.bytes ∷ []) b.2 ∙ ap (λ (x : List ℕ). x ∷ []) b.0, b.1 ∙ sym b.0)

both_blank : (told : Option Logs) → AreBlank told → LogsSo AreWholeParts ([] ∷ []) ([] ∷ []) told
both_blank None b = tt
both_blank (Some logs) b = (one_blank logs.tlm b.0, one_blank logs.cmd b.1)

-- the parts of no entries are a head
none_parts : (kind : LogKind) (site : SiteData) (digest : List ℕ) → parts kind site digest [] ≡ head_of kind site digest ∷ []
none_parts Tlm site digest = ap (λ (l : List ℕ). l ∷ []) (append-nil (head_of Tlm site digest))
none_parts Cmd site digest = ap (λ (l : List ℕ). l ∷ []) (append-nil (head_of Cmd site digest))

-- the heads are put first
pub heads_put : (site : SiteData) (digest : List ℕ) (heads : Heads) (old new : Option Logs) (result : Result (Unit {0}) PutFailed) → AreHeads site digest heads
    → PutsBoth old new (heads.tlm ∷ []) (heads.cmd ∷ []) result → AreBlank old
    → LogsSo (IsLeft result) (parts Tlm site digest []) (parts Cmd site digest []) new
heads_put site digest heads old new result are puts blank =
    subst (λ t. LogsSo (IsLeft result) t (parts Cmd site digest []) new) (ap (λ (l : List ℕ). l ∷ []) are.tlm ∙ sym (none_parts Tlm site digest))
    (subst (λ c. LogsSo (IsLeft result) (heads.tlm ∷ []) c new) (ap (λ (l : List ℕ). l ∷ []) are.cmd ∙ sym (none_parts Cmd site digest))
    (puts ([] ∷ []) ([] ∷ []) (both_blank old blank)))

-- logs to which nothing was appended are a beginning of the parts of no entries
pub blank_begun : (kind : LogKind) (site : SiteData) (digest : List ℕ) (l : Log) → IsBlank l → AreBegunParts l (parts kind site digest [])
blank_begun kind site digest l b = (
  subst (λ ps. BeginsParts ps (bytes_of l)) (sym (none_parts kind site digest))
      (subst (λ ps. BeginsParts (head_of kind site digest ∷ []) ps) (sym (one_blank l b).0) (head_of kind site digest, refl)),
  ([], b.0 ∙ sym (append-nil l.synced ∙ b.1)),
)
