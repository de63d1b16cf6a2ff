-- All tasks of a site.
use Rattle.std.proofs.Common.{◌≡◌, ℕ, ◌+◌, ◌≤◌, List, [], ◌∷◌, ◌++◌, length, Option, refl, sym, ◌∙◌, ap, subst, arith, append_assoc, length-append}
use Rattle.std.specs.List.{AllByRecursion}
use Rattle.cts_outside.specs.declared.link.Aim.{Aim}
use Rattle.cts_server.specs.declared.running.Task.{Task}
use Rattle.cts_server.specs.Tasks.{Rising}
use Rattle.cts_server.specs.Making.{AreTasks, Staffed, Taken}
use Rattle.cts_server.proofs.Order.{all_append, rise_before}

module _ {A X D : Type 0} (Of : ℕ → A → X → D → Type 0) where
  pub as_many : (by : ℕ) (aims : List A) (xs : List X) (ts : List (Task D)) → AreTasks Of by aims xs ts → (length xs ≡ length aims) × (length ts ≡ length aims)
  as_many by [] [] [] are = (refl, refl)
  as_many by [] [] (t ∷ ts) are = absurd are
  as_many by [] (x ∷ xs) ts are = absurd are
  as_many by (a ∷ aims) [] ts are = absurd are
  as_many by (a ∷ aims) (x ∷ xs) [] are = absurd are
  as_many by (a ∷ aims) (x ∷ xs) (t ∷ ts) are = let h = as_many (by + 1) aims xs ts are.2 in (omega (arith, h.0), omega (arith, h.1))

  -- what holds of each task by what it was made of
  pub each_task : (P : Task D → Type 0) → ((n : ℕ) (a : A) (x : X) (t : Task D) → t.by ≡ n → Of n a x t.work → P t)
      → (by : ℕ) (aims : List A) (xs : List X) (ts : List (Task D)) → AreTasks Of by aims xs ts → AllByRecursion P ts
  each_task P f by [] [] [] are = tt
  each_task P f by [] [] (t ∷ ts) are = absurd are
  each_task P f by [] (x ∷ xs) ts are = absurd are
  each_task P f by (a ∷ aims) [] ts are = absurd are
  each_task P f by (a ∷ aims) (x ∷ xs) [] are = absurd are
  each_task P f by (a ∷ aims) (x ∷ xs) (t ∷ ts) are = (f by a x t are.0 are.1, each_task P f (by + 1) aims xs ts are.2)

module _ {X Y D : Type 0} (LineOf : ℕ → Aim → X → D → Type 0) (SlotOf DeskOf : ℕ → Aim → Y → D → Type 0) (ScribeOf : D → Type 0) (lines slots desks : List Aim)
    (lp lq : List (Option X)) (sp sq dp dq : List (Option Y)) (tasks : List (Task D))
    (s : Staffed LineOf SlotOf DeskOf ScribeOf lines slots desks lp lq sp sq dp dq tasks) where
  pub tasks_are : tasks ≡ s.of_lines.made ++ (s.of_slots.made ++ (s.of_desks.made ++ s.last ∷ []))
  tasks_are =
      let a : s.after_slots ≡ s.of_lines.made ++ s.of_slots.made = s.of_slots.tasks ∙ ap (λ (l : List (Task D)). l ++ s.of_slots.made) s.of_lines.tasks in
      let b : s.after_desks ≡ s.of_lines.made ++ (s.of_slots.made ++ s.of_desks.made) = s.of_desks.tasks
      ∙ ap (λ (l : List (Task D)). l ++ s.of_desks.made) a ∙ append_assoc s.of_lines.made s.of_slots.made s.of_desks.made in
      s.all ∙ ap (λ (l : List (Task D)). l ++ s.last ∷ []) b
      ∙ append_assoc s.of_lines.made (s.of_slots.made ++ s.of_desks.made) (s.last ∷ [])
      ∙ ap (λ (l : List (Task D)). s.of_lines.made ++ l) (append_assoc s.of_slots.made s.of_desks.made (s.last ∷ []))

  -- the numbers rise
  pub staff_rises : length lines ≤ 16 → length slots ≤ 8 → length desks ≤ 4 → Rising 0 tasks
  staff_rises few_lines few_slots few_desks =
      subst (Rising 0) (sym tasks_are)
      (rise_before LineOf 0 0 16 lines s.of_lines.devices s.of_lines.made (s.of_slots.made ++ (s.of_desks.made ++ s.last ∷ [])) s.of_lines.are
      (omega arith) (omega (arith, few_lines)) (omega arith)
      (rise_before SlotOf 16 16 24 slots s.of_slots.devices s.of_slots.made (s.of_desks.made ++ s.last ∷ []) s.of_slots.are (omega arith)
      (omega (arith, few_slots)) (omega arith)
      (rise_before DeskOf 24 24 28 desks s.of_desks.devices s.of_desks.made (s.last ∷ []) s.of_desks.are (omega arith) (omega (arith, few_desks)) (omega arith)
      (omega (arith, s.by), omega (arith, s.by), tt))))

  -- each task has what holds of its kind
  pub staff_all : (P : Task D → Type 0) → ((n : ℕ) (a : Aim) (x : X) (t : Task D) → t.by ≡ n → LineOf n a x t.work → P t)
      → ((n : ℕ) (a : Aim) (x : Y) (t : Task D) → t.by ≡ n → SlotOf n a x t.work → P t)
      → ((n : ℕ) (a : Aim) (x : Y) (t : Task D) → t.by ≡ n → DeskOf n a x t.work → P t) → ((t : Task D) → t.by ≡ 28 → ScribeOf t.work → P t)
      → AllByRecursion P tasks
  staff_all P l m d c =
      subst (AllByRecursion P) (sym tasks_are)
      (all_append P s.of_lines.made _ (each_task LineOf P l 0 lines s.of_lines.devices s.of_lines.made s.of_lines.are)
      (all_append P s.of_slots.made _ (each_task SlotOf P m 16 slots s.of_slots.devices s.of_slots.made s.of_slots.are)
      (all_append P s.of_desks.made _ (each_task DeskOf P d 24 desks s.of_desks.devices s.of_desks.made s.of_desks.are)
      (c s.last s.by s.of_scribe, tt))))

  -- as many tasks as aims, and one more
  pub staff_count : length tasks ≡ length lines + length slots + length desks + 1
  staff_count =
      let a = as_many LineOf 0 lines s.of_lines.devices s.of_lines.made s.of_lines.are in
      let b = as_many SlotOf 16 slots s.of_slots.devices s.of_slots.made s.of_slots.are in
      let d = as_many DeskOf 24 desks s.of_desks.devices s.of_desks.made s.of_desks.are in
      ap length tasks_are ∙ simp length-append (omega (arith, a.1, b.1, d.1))

-- as many tasks came as there are aims
pub taken_count : {A X D : Type 0} (Of : ℕ → A → X → D → Type 0) (first : ℕ) (aims : List A) (old new : List (Option X))
    (before after : List (Task D)) → Taken Of first aims old new before after → length after ≡ length before + length aims
taken_count Of first aims old new before after k = ap length k.tasks ∙ length-append before k.made ∙ ap (λ (n : ℕ). length before + n)
    (as_many Of first aims k.devices k.made k.are).1
