-- One device after another leaves its place and goes with its task.
use Rattle.std.proofs.Common.{◌≡◌, ℕ, true, Bool, ◌+◌, List, [], ◌∷◌, ◌++◌, length, map, drop, Option, Some, refl, sym, ◌∙◌, ap, subst, arith}
use Rattle.std.proofs.Common.{append_assoc, length-append}
use Rattle.std.specs.List.{AllByRecursion}
use Rattle.std.proofs.lemmas.Grind.{drop_more_same}
use Rattle.std.proofs.lemmas.List.{append-nil, map-append, drop-drop}
use Rattle.cts_server.specs.Places.{IsThere}
use Rattle.cts_server.specs.declared.running.Task.{Task}
use Rattle.cts_chain.specs.Shapes.{ChainData}
use Rattle.cts_def.specs.Sites.{SiteData}
use Rattle.cts_entry.specs.Workers.{is_desk}
use Rattle.cts_outside.specs.Lines.{Line, aimed, told_after}
use Rattle.cts_outside.specs.Seen.{LineSeen}
use Rattle.cts_outside.specs.declared.link.Aim.{Aim}
use Rattle.cts_server.specs.Aims.{aimed_at}
use Rattle.cts_server.specs.Making.{AreFit, AreTasks, FitsLine, ReadyDesk, ReadyLine, Taken}

-- a number of devices have left their places
pub record Taking {A X D : Type 0} (Of : ℕ → A → X → D → Type 0) (first : ℕ) (all left : List A) (old new : List (Option X))
    (before after : List (Task D)) (place : ℕ) : Type 0 where
  pub aims : List A
  pub devices : List X
  pub made : List (Task D)
  pub all_are : aims ++ left ≡ all
  pub stood : old ≡ map Some devices ++ drop place old
  pub count : length devices ≡ place
  pub others : drop place new ≡ drop place old
  pub long : length new ≡ length old
  pub tasks : after ≡ before ++ made
  pub are : AreTasks Of first aims devices made

module _ {A X D : Type 0} (Of : ℕ → A → X → D → Type 0) where
  tasks_more : (by : ℕ) (aims : List A) (xs : List X) (ts : List (Task D)) (a : A) (x : X) (t : Task D)
      → AreTasks Of by aims xs ts → t.by ≡ by + length xs → Of (by + length xs) a x t.work → AreTasks Of by (aims ++ a ∷ []) (xs ++ x ∷ []) (ts ++ t ∷ [])
  tasks_more by [] [] [] a x t are is of = (is ∙ omega arith, subst (λ (n : ℕ). Of n a x t.work) (omega arith) of, tt)
  tasks_more by [] [] (u ∷ ts) a x t are is of = absurd are
  tasks_more by [] (y ∷ xs) ts a x t are is of = absurd are
  tasks_more by (b ∷ aims) [] ts a x t are is of = absurd are
  tasks_more by (b ∷ aims) (y ∷ xs) [] a x t are is of = absurd are
  tasks_more by (b ∷ aims) (y ∷ xs) (u ∷ ts) a x t are is of =
      let next : by + length (y ∷ xs) ≡ (by + 1) + length xs = omega arith in
      (are.0, are.1, tasks_more (by + 1) aims xs ts a x t are.2 (is ∙ next) (subst (λ (n : ℕ). Of n a x t.work) next of))

  pub begun : (first : ℕ) (all : List A) (old : List (Option X)) (before : List (Task D)) → Taking Of first all all old old before before 0
  begun first all old before = record {
    aims = [];
    devices = [];
    made = [];
    all_are = refl;
    stood = refl;
    count = refl;
    others = refl;
    long = refl;
    tasks = sym (append-nil before);
    are = tt;
  }

  pub took : (first : ℕ) (all left rest : List A) (old new newer : List (Option X)) (before after later : List (Task D)) (place n : ℕ) (a : A) (x : X)
      (t : Task D)
      → Taking Of first all left old new before after place
      → left ≡ a ∷ rest → drop place new ≡ Some x ∷ drop (place + 1) new → drop (place + 1) newer ≡ drop (place + 1) new → length newer ≡ length new
      → later ≡ after ++ t ∷ [] → n ≡ first + place → t.by ≡ n → Of n a x t.work
      → Taking Of first all rest old newer before later (place + 1)
  took first all left rest old new newer before after later place n a x t k split stands others long pushed at is of =
      let here : n ≡ first + length k.devices = at ∙ ap (λ (i : ℕ). first + i) (sym k.count) in
      let next : drop (place + 1) old ≡ drop (place + 1) new = sym (drop_more_same new old place k.others) in
      record {
        aims = k.aims ++ a ∷ [];
        devices = k.devices ++ x ∷ [];
        made = k.made ++ t ∷ [];
        all_are = append_assoc k.aims (a ∷ []) rest ∙ ap (λ (l : List A). k.aims ++ l) (sym split) ∙ k.all_are;
        stood = k.stood ∙ ap (λ (l : List (Option X)). map Some k.devices ++ l) (sym k.others ∙ stands ∙ ap (λ (l : List (Option X)). Some x ∷ l) (sym next))
            ∙ sym (append_assoc (map Some k.devices) (Some x ∷ []) (drop (place + 1) old)) ∙ ap (λ (l : List (Option X)). l ++ drop (place + 1) old)
            (sym (map-append Some k.devices (x ∷ [])));
        count = length-append k.devices (x ∷ []) ∙ ap (λ (n : ℕ). n + 1) k.count;
        others = others ∙ sym next;
        long = long ∙ k.long;
        tasks = pushed ∙ ap (λ (l : List (Task D)). l ++ t ∷ []) k.tasks ∙ append_assoc before k.made (t ∷ []);
        are = tasks_more first k.aims k.devices k.made a x t k.are (is ∙ here) (subst (λ (i : ℕ). Of i a x t.work) here of);
      }

  pub taken_all : (first : ℕ) (all left : List A) (old new : List (Option X)) (before after : List (Task D)) (place : ℕ)
      → Taking Of first all left old new before after place → left ≡ [] → Taken Of first all old new before after
  taken_all first all left old new before after place k none = record {
    devices = k.devices;
    made = k.made;
    stood = k.stood ∙ ap (λ (n : ℕ). map Some k.devices ++ drop n old) (sym k.count);
    others = ap (λ (n : ℕ). drop n new) k.count ∙ k.others ∙ ap (λ (n : ℕ). drop n old) (sym k.count);
    long = k.long;
    tasks = k.tasks;
    are = subst (λ (l : List A). AreTasks Of first l k.devices k.made)
        (sym (append-nil k.aims) ∙ ap (λ (l : List A). k.aims ++ l) (sym none) ∙ k.all_are) k.are;
  }

pub fit_more : {A C : Type 0} (Fits : ℕ → C → Type 0) (by : ℕ) (left rest : List A) (cs ds : List C) (a : A) (c : C) → AreFit Fits by left cs
    → left ≡ a ∷ rest → cs ≡ c ∷ ds → Fits by c × AreFit Fits (by + 1) rest ds
fit_more Fits by left rest cs ds a c fit split cut = subst (λ (l : List _). AreFit Fits by (a ∷ rest) l) cut
    (subst (λ (l : List _). AreFit Fits by l cs) split fit)

module _ {X : Type 0} where
  pub there_more : (place : ℕ) (new newer : List (Option X)) (x : X) → AllByRecursion IsThere (drop place new) → drop place new ≡ Some x ∷ drop
      (place + 1) new → drop (place + 1) newer ≡ drop (place + 1) new
      → AllByRecursion IsThere (drop (place + 1) newer)
  there_more place new newer x there stands others = subst (λ (l : List (Option X)). AllByRecursion IsThere l) (sym others)
      (subst (λ (l : List (Option X)). AllByRecursion IsThere l) stands there).1

-- what is left of a list once one more has left it
pub rest_is : {C : Type 0} (n : ℕ) (all cs ds : List C) (c : C) → cs ≡ drop n all → cs ≡ c ∷ ds → ds ≡ drop (n + 1) all
rest_is n all cs ds c is cut = ap (drop 1) (sym cut ∙ is) ∙ drop-drop 1 n all

-- ---- what is ready

-- a dialer that was aimed shows nothing else
pub aim_shows : (aim : Aim) (before now : LineSeen) → now.told ≡ told_after (aimed aim) before.told → now.linked ≡ before.linked
    → now.finished ≡ before.finished → now.faults ≡ before.faults → now.failed_dials ≡ before.failed_dials → now ≡ aimed_at aim before
aim_shows aim before now told linked finished faults dials =
    ap (λ (t : Option Line). record now { told = t }) told
    ∙ ap (λ (b : Bool). record now { told = told_after (aimed aim) before.told; linked = b }) linked
    ∙ ap (λ (b : Bool). record now { told = told_after (aimed aim) before.told; linked = before.linked; finished = b }) finished
    ∙ ap (λ (n : ℕ). record before { told = told_after (aimed aim) before.told; faults = n; failed_dials = now.failed_dials }) faults
    ∙ ap (λ (n : ℕ). record before { told = told_after (aimed aim) before.told; failed_dials = n }) dials

pub line_ready : (site : SiteData) (by : ℕ) (aim : Aim) (before now : LineSeen) (chain : ChainData) → FitsLine site by chain → now
    ≡ aimed_at aim before → ReadyLine site by aim before now chain
line_ready site by aim before now chain fit is = record { aimed = is; can = record { same = refl; line = fit.0; fresh = fit.1 } }

pub desk_ready : (site : SiteData) (by : ℕ) (aim : Aim) (before now : LineSeen) → is_desk site by ≡ true → now.told ≡ told_after (aimed aim) before.told
    → now.linked ≡ before.linked → now.finished ≡ before.finished → now.faults ≡ before.faults → now.failed_dials ≡ before.failed_dials
    → ReadyDesk site by aim before now
desk_ready site by aim before now is told linked finished faults dials = record { aimed = aim_shows aim before now told linked finished faults dials; can = is }

pub door_more : {A X : Type 0} (Fits : ℕ → Option X → Type 0) (by place : ℕ) (left rest : List A) (new newer : List (Option X)) (a : A) (x : X)
    → AreFit Fits by left (drop place new) → left ≡ a ∷ rest → drop place new ≡ Some x ∷ drop (place + 1) new → drop (place + 1) newer ≡ drop (place + 1) new
    → Fits by (Some x) × AreFit Fits (by + 1) rest (drop (place + 1) newer)
door_more Fits by place left rest new newer a x fit split stands others =
    let h = fit_more Fits by left rest (drop place new) (drop (place + 1) new) a (Some x) fit split stands in
    (h.0, subst (λ (l : List (Option _)). AreFit Fits (by + 1) rest l) (sym others) h.1)
