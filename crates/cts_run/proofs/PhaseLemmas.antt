-- At which of its phases a command halts.
use Rattle.std.proofs.Common.{◌≡◌, ℕ, false, List, [], ◌∷◌, ◌++◌, Option, Some, None, Result, Ok, Err, refl, ◌∙◌, ap, subst, arith, inl, inr}
use Rattle.std.specs.Option.{option_or}
use Rattle.cts_outside.specs.Causes.{Rose}
use Rattle.cts_outside.specs.Seen.{FilesSeen, SinkSeen, VaultSeen}
use Rattle.cts_run.specs.Phases.{FileCounts, HaltCounts, HaltsAt, HaltsIn, IsFound, IsRead, LoadCounts, LoadHalts, Phase, first_halt, is_fault}
use Rattle.cts_run.specs.Putting.{HaltFaults, HaltLogs}
use Rattle.cts_run.specs.declared.halt.Halt.{Halt}
use Rattle.cts_run.specs.declared.halt.Halt.TheVariants as halt

-- ---- one phase in front of others

first_here : (p : Phase) (ps : List Phase) (h : Halt) → p.halts ≡ Some h → first_halt (p ∷ ps) ≡ Some h
first_here p ps h e = ap (λ (o : Option Halt). option_or o (first_halt ps)) e

-- what a command halts for at the first phase
pub here : (p : Phase) (ps : List Phase) (h : Halt) → HaltsAt p h → HaltsIn (p ∷ ps) h
here p ps halt.Memory k = tt
here p ps (halt.ReadFault name) k = inl k
here p ps (halt.Absent name) k = first_here p ps (halt.Absent name) k
here p ps halt.WriteFault k = absurd k
here p ps halt.LogFault k = absurd k
here p ps (halt.Refused name kind line cause) k = first_here p ps (halt.Refused name kind line cause) k
here p ps (halt.ShelfEmpty kind needed stocked) k = first_here p ps (halt.ShelfEmpty kind needed stocked) k
here p ps (halt.HistoryFull entries bytes) k = first_here p ps (halt.HistoryFull entries bytes) k
here p ps (halt.LogRefused place) k = first_here p ps (halt.LogRefused place) k
here p ps (halt.UnknownName name) k = first_here p ps (halt.UnknownName name) k
here p ps (halt.HubRefused cause) k = first_here p ps (halt.HubRefused cause) k
here p ps halt.Misused k = first_here p ps halt.Misused k

-- ---- phases in front of others

front_by : (o r s : Option Halt) (h : Halt) → (r ≡ Some h → s ≡ Some h) → option_or o r ≡ Some h → option_or o s ≡ Some h
front_by (Some x) r s h k e = e
front_by None r s h k e = k e

pub first_front : (ps qs : List Phase) (h : Halt) → first_halt ps ≡ Some h → first_halt (ps ++ qs) ≡ Some h
first_front [] qs h e = absurd (cc e)
first_front (p ∷ ps) qs h e = front_by p.halts (first_halt ps) (first_halt (ps ++ qs)) h (first_front ps qs h) e

past_by : (o r s t : Option Halt) → (r ≡ None → s ≡ t) → option_or o r ≡ None → option_or o s ≡ t
past_by (Some x) r s t k e = absurd (cc e)
past_by None r s t k e = k e

pub first_past : (ps qs : List Phase) → first_halt ps ≡ None → first_halt (ps ++ qs) ≡ first_halt qs
first_past [] qs e = refl
first_past (p ∷ ps) qs e = past_by p.halts (first_halt ps) (first_halt (ps ++ qs)) (first_halt qs) (first_past ps qs) e

both_none : (o r : Option Halt) → option_or o r ≡ None → (o ≡ None) × (r ≡ None)
both_none (Some x) r e = absurd (cc e)
both_none None r e = (refl, e)

read_front : (ps qs : List Phase) (name : List ℕ) → IsRead name ps → IsRead name (ps ++ qs)
read_front [] qs name k = absurd k
read_front (p ∷ ps) qs name (inl k) = inl k
read_front (p ∷ ps) qs name (inr k) = inr (k.0, read_front ps qs name k.1)

pub read_past : (ps qs : List Phase) (name : List ℕ) → first_halt ps ≡ None → IsRead name qs → IsRead name (ps ++ qs)
read_past [] qs name e k = k
read_past (p ∷ ps) qs name e k =
    let none = both_none p.halts (first_halt ps) e in
    inr (none.0, read_past ps qs name none.1 k)

-- a command that halts at one of its first phases
pub front : (ps qs : List Phase) (h : Halt) → HaltsIn ps h → HaltsIn (ps ++ qs) h
front ps qs halt.Memory k = tt
front ps qs (halt.ReadFault name) k = read_front ps qs name k
front ps qs (halt.Absent name) k = first_front ps qs (halt.Absent name) k
front ps qs halt.WriteFault k = absurd k
front ps qs halt.LogFault k = absurd k
front ps qs (halt.Refused name kind line cause) k = first_front ps qs (halt.Refused name kind line cause) k
front ps qs (halt.ShelfEmpty kind needed stocked) k = first_front ps qs (halt.ShelfEmpty kind needed stocked) k
front ps qs (halt.HistoryFull entries bytes) k = first_front ps qs (halt.HistoryFull entries bytes) k
front ps qs (halt.LogRefused place) k = first_front ps qs (halt.LogRefused place) k
front ps qs (halt.UnknownName name) k = first_front ps qs (halt.UnknownName name) k
front ps qs (halt.HubRefused cause) k = first_front ps qs (halt.HubRefused cause) k
front ps qs halt.Misused k = first_front ps qs halt.Misused k

-- a command that halts after phases that have no reason to
pub past : (ps qs : List Phase) (h : Halt) → first_halt ps ≡ None → HaltsIn qs h → HaltsIn (ps ++ qs) h
past ps qs halt.Memory e k = tt
past ps qs (halt.ReadFault name) e k = read_past ps qs name e k
past ps qs (halt.Absent name) e k = first_past ps qs e ∙ k
past ps qs halt.WriteFault e k = absurd k
past ps qs halt.LogFault e k = absurd k
past ps qs (halt.Refused name kind line cause) e k = first_past ps qs e ∙ k
past ps qs (halt.ShelfEmpty kind needed stocked) e k = first_past ps qs e ∙ k
past ps qs (halt.HistoryFull entries bytes) e k = first_past ps qs e ∙ k
past ps qs (halt.LogRefused place) e k = first_past ps qs e ∙ k
past ps qs (halt.UnknownName name) e k = first_past ps qs e ∙ k
past ps qs (halt.HubRefused cause) e k = first_past ps qs e ∙ k
past ps qs halt.Misused e k = first_past ps qs e ∙ k

-- one phase that has none
pub none_alone : (p : Phase) → p.halts ≡ None → first_halt (p ∷ []) ≡ None
none_alone p e = ap (λ (o : Option Halt). option_or o None) e

pub none_both : (p q : Phase) → p.halts ≡ None → q.halts ≡ None → first_halt (p ∷ q ∷ []) ≡ None
none_both p q e f = first_past (p ∷ []) (q ∷ []) (none_alone p e) ∙ none_alone q f

-- ---- counts

halt_after : (h : Halt) (files mid files' : FilesSeen) → IsFound files mid → HaltCounts h mid files' → HaltCounts h files files'
halt_after halt.Memory files mid files' f k = (k.0 ∙ f.0, k.1 ∙ f.1)
halt_after (halt.ReadFault name) files mid files' f k = (subst (λ (n : ℕ). Rose n files'.faults) f.0 k.0, k.1 ∙ f.1)
halt_after (halt.Absent name) files mid files' f k = (k.0 ∙ f.0, subst (λ (n : ℕ). Rose n files'.absences) f.1 k.1)
halt_after halt.WriteFault files mid files' f k = (k.0 ∙ f.0, k.1 ∙ f.1)
halt_after halt.LogFault files mid files' f k = (k.0 ∙ f.0, k.1 ∙ f.1)
halt_after (halt.Refused name kind line cause) files mid files' f k = (k.0 ∙ f.0, k.1 ∙ f.1)
halt_after (halt.ShelfEmpty kind needed stocked) files mid files' f k = (k.0 ∙ f.0, k.1 ∙ f.1)
halt_after (halt.HistoryFull entries bytes) files mid files' f k = (k.0 ∙ f.0, k.1 ∙ f.1)
halt_after (halt.LogRefused place) files mid files' f k = (k.0 ∙ f.0, k.1 ∙ f.1)
halt_after (halt.UnknownName name) files mid files' f k = (k.0 ∙ f.0, k.1 ∙ f.1)
halt_after (halt.HubRefused cause) files mid files' f k = (k.0 ∙ f.0, k.1 ∙ f.1)
halt_after halt.Misused files mid files' f k = (k.0 ∙ f.0, k.1 ∙ f.1)

-- files that were found, and then the counts of what came after
pub counts_after : {T : Type 0} (answer : Result T Halt) (files mid files' : FilesSeen) → IsFound files mid → FileCounts answer mid files' → FileCounts answer files files'
counts_after (Ok x) files mid files' f k = (k.0 ∙ f.0, k.1 ∙ f.1)
counts_after (Err h) files mid files' f k = halt_after h files mid files' f k

pub load_after : (h : Halt) (files mid files' : FilesSeen) → IsFound files mid → LoadHalts h mid files' → LoadHalts h files files'
load_after halt.Memory files mid files' f k = (k.0 ∙ f.0, k.1 ∙ f.1)
load_after (halt.ReadFault name) files mid files' f k = (subst (λ (n : ℕ). Rose n files'.faults) f.0 k.0, k.1 ∙ f.1)
load_after (halt.Absent name) files mid files' f k = (k.0 ∙ f.0, subst (λ (n : ℕ). Rose n files'.absences) f.1 k.1)
load_after halt.WriteFault files mid files' f k = absurd k
load_after halt.LogFault files mid files' f k = absurd k
load_after (halt.Refused name kind line cause) files mid files' f k = (k.0 ∙ f.0, k.1 ∙ f.1)
load_after (halt.ShelfEmpty kind needed stocked) files mid files' f k = (k.0 ∙ f.0, k.1 ∙ f.1)
load_after (halt.HistoryFull entries bytes) files mid files' f k = absurd k
load_after (halt.LogRefused place) files mid files' f k = (k.0 ∙ f.0, k.1 ∙ f.1)
load_after (halt.UnknownName name) files mid files' f k = (k.0 ∙ f.0, k.1 ∙ f.1)
load_after (halt.HubRefused cause) files mid files' f k = absurd k
load_after halt.Misused files mid files' f k = absurd k

pub loads_after : {T : Type 0} (answer : Result T Halt) (files mid files' : FilesSeen) → IsFound files mid → LoadCounts answer mid files' → LoadCounts answer files files'
loads_after (Ok x) files mid files' f k = (k.0 ∙ f.0, k.1 ∙ f.1)
loads_after (Err h) files mid files' f k = load_after h files mid files' f k

-- the counts where a file can't be loaded
pub load_counts : (h : Halt) (files files' : FilesSeen) → LoadHalts h files files' → HaltCounts h files files'
load_counts halt.Memory files files' k = k
load_counts (halt.ReadFault name) files files' k = k
load_counts (halt.Absent name) files files' k = k
load_counts halt.WriteFault files files' k = absurd k
load_counts halt.LogFault files files' k = absurd k
load_counts (halt.Refused name kind line cause) files files' k = k
load_counts (halt.ShelfEmpty kind needed stocked) files files' k = k
load_counts (halt.HistoryFull entries bytes) files files' k = absurd k
load_counts (halt.LogRefused place) files files' k = k
load_counts (halt.UnknownName name) files files' k = k
load_counts (halt.HubRefused cause) files files' k = absurd k
load_counts halt.Misused files files' k = absurd k

pub load_faults : (h : Halt) (files files' : FilesSeen) (out : SinkSeen) → LoadHalts h files files' → HaltFaults h out out
load_faults halt.Memory files files' out k = refl
load_faults (halt.ReadFault name) files files' out k = refl
load_faults (halt.Absent name) files files' out k = refl
load_faults halt.WriteFault files files' out k = absurd k
load_faults halt.LogFault files files' out k = absurd k
load_faults (halt.Refused name kind line cause) files files' out k = refl
load_faults (halt.ShelfEmpty kind needed stocked) files files' out k = refl
load_faults (halt.HistoryFull entries bytes) files files' out k = absurd k
load_faults (halt.LogRefused place) files files' out k = refl
load_faults (halt.UnknownName name) files files' out k = refl
load_faults (halt.HubRefused cause) files files' out k = absurd k
load_faults halt.Misused files files' out k = absurd k

pub load_logs : (h : Halt) (files files' : FilesSeen) (vault : VaultSeen) → LoadHalts h files files' → HaltLogs h vault vault
load_logs halt.Memory files files' vault k = refl
load_logs (halt.ReadFault name) files files' vault k = refl
load_logs (halt.Absent name) files files' vault k = refl
load_logs halt.WriteFault files files' vault k = absurd k
load_logs halt.LogFault files files' vault k = absurd k
load_logs (halt.Refused name kind line cause) files files' vault k = refl
load_logs (halt.ShelfEmpty kind needed stocked) files files' vault k = refl
load_logs (halt.HistoryFull entries bytes) files files' vault k = absurd k
load_logs (halt.LogRefused place) files files' vault k = refl
load_logs (halt.UnknownName name) files files' vault k = refl
load_logs (halt.HubRefused cause) files files' vault k = absurd k
load_logs halt.Misused files files' vault k = absurd k

-- files that never fail and have every name
pub sure_counts : (h : Halt) (told : Option (List ℕ → Option (List ℕ))) (files : FilesSeen) → LoadHalts h (record { told = told; faults = 0; absences = 0 }) (record { told = told; faults = 0; absences = 0 }) → HaltCounts h files files
sure_counts halt.Memory told files k = (refl, refl)
sure_counts (halt.ReadFault name) told files k = absurd (omega (arith, k.0.1))
sure_counts (halt.Absent name) told files k = absurd (omega (arith, k.1.1))
sure_counts halt.WriteFault told files k = absurd k
sure_counts halt.LogFault told files k = absurd k
sure_counts (halt.Refused name kind line cause) told files k = (refl, refl)
sure_counts (halt.ShelfEmpty kind needed stocked) told files k = (refl, refl)
sure_counts (halt.HistoryFull entries bytes) told files k = absurd k
sure_counts (halt.LogRefused place) told files k = (refl, refl)
sure_counts (halt.UnknownName name) told files k = (refl, refl)
sure_counts (halt.HubRefused cause) told files k = absurd k
sure_counts halt.Misused told files k = absurd k

-- what is no fault of the outside leaves all counts
pub load_stays : (h : Halt) (files mid : FilesSeen) → is_fault h ≡ false → IsFound files mid → LoadHalts h files mid
load_stays halt.Memory files mid f k = k
load_stays (halt.ReadFault name) files mid f k = absurd (cc f)
load_stays (halt.Absent name) files mid f k = absurd (cc f)
load_stays halt.WriteFault files mid f k = absurd (cc f)
load_stays halt.LogFault files mid f k = absurd (cc f)
load_stays (halt.Refused name kind line cause) files mid f k = k
load_stays (halt.ShelfEmpty kind needed stocked) files mid f k = k
load_stays (halt.HistoryFull entries bytes) files mid f k = absurd (cc f)
load_stays (halt.LogRefused place) files mid f k = k
load_stays (halt.UnknownName name) files mid f k = k
load_stays (halt.HubRefused cause) files mid f k = absurd (cc f)
load_stays halt.Misused files mid f k = absurd (cc f)

pub faults_stay : (h : Halt) (out : SinkSeen) → is_fault h ≡ false → HaltFaults h out out
faults_stay halt.Memory out f = refl
faults_stay (halt.ReadFault name) out f = refl
faults_stay (halt.Absent name) out f = refl
faults_stay halt.WriteFault out f = absurd (cc f)
faults_stay halt.LogFault out f = absurd (cc f)
faults_stay (halt.Refused name kind line cause) out f = refl
faults_stay (halt.ShelfEmpty kind needed stocked) out f = refl
faults_stay (halt.HistoryFull entries bytes) out f = absurd (cc f)
faults_stay (halt.LogRefused place) out f = refl
faults_stay (halt.UnknownName name) out f = refl
faults_stay (halt.HubRefused cause) out f = absurd (cc f)
faults_stay halt.Misused out f = absurd (cc f)

pub logs_stay : (h : Halt) (vault : VaultSeen) → is_fault h ≡ false → HaltLogs h vault vault
logs_stay halt.Memory vault f = refl
logs_stay (halt.ReadFault name) vault f = absurd (cc f)
logs_stay (halt.Absent name) vault f = absurd (cc f)
logs_stay halt.WriteFault vault f = absurd (cc f)
logs_stay halt.LogFault vault f = absurd (cc f)
logs_stay (halt.Refused name kind line cause) vault f = refl
logs_stay (halt.ShelfEmpty kind needed stocked) vault f = refl
logs_stay (halt.HistoryFull entries bytes) vault f = absurd (cc f)
logs_stay (halt.LogRefused place) vault f = refl
logs_stay (halt.UnknownName name) vault f = refl
logs_stay (halt.HubRefused cause) vault f = absurd (cc f)
logs_stay halt.Misused vault f = absurd (cc f)
