-- The devices of all tasks are back in their places.
use Rattle.std.proofs.Common.{◌≡◌, ℕ, suc, ◌+◌, List, [], ◌∷◌, ◌++◌, length, map, drop, Option, Some, None, refl, sym, ◌∙◌, ap, subst}
use Rattle.std.specs.List.{AllZip, cons_option, filter_map}
use Rattle.std.proofs.lemmas.List.{append-nil, length-map, map-append, map-id}
use Rattle.std.proofs.lemmas.List.Elements.{filter_map-append}
use Rattle.cts_outside.specs.declared.link.Aim.{Aim}
use Rattle.cts_server.specs.declared.kinds.ByKind.{ByKind}
use Rattle.cts_server.specs.declared.kinds.ByKind.TheVariants.{Interface, Slot, Desk, Scribe}
use Rattle.cts_server.specs.declared.running.Task.{Task}
use Rattle.cts_server.specs.Kinds.{the_desk, the_interface, the_scribe, the_slot}
use Rattle.cts_server.specs.Places.{CameBack, filled}
use Rattle.cts_server.specs.Making.{AreTasks, Staffed, Taken}
use Rattle.cts_server.proofs.Whole.{tasks_are}

-- ---- items of one kind

pub filter_map-map : {X Y Z : Type 0} (h : Y → Option Z) (f : X → Y) (xs : List X) → filter_map h (map f xs) ≡ filter_map (λ (x : X). h (f x)) xs
filter_map-map h f [] = refl
filter_map-map {Z} h f (x ∷ xs) = ap (λ (l : List Z). cons_option (h (f x)) l) (filter_map-map h f xs)

pub all_of : {X Y Z : Type 0} (h : Y → Option Z) (make : X → Y) (f : X → Z) → ((x : X) → h (make x) ≡ Some (f x)) → (xs : List X)
    → filter_map h (map make xs) ≡ map f xs
all_of h make f is [] = refl
all_of {Z} h make f is (x ∷ xs) = ap (λ (o : Option Z). cons_option o (filter_map h (map make xs))) (is x) ∙ ap (λ (l : List Z). f x ∷ l)
    (all_of h make f is xs)

pub none_of : {X Y Z : Type 0} (h : Y → Option Z) (make : X → Y) → ((x : X) → h (make x) ≡ None) → (xs : List X) → filter_map h (map make xs) ≡ []
none_of h make not [] = refl
none_of {Z} h make not (x ∷ xs) = ap (λ (o : Option Z). cons_option o (filter_map h (map make xs))) (not x) ∙ none_of h make not xs

-- ---- the tasks of one kind, and what each of them left

-- What two lists of tasks left, in their order.
pub record Cut {X Y : Type 0} (R : X → Y → Type 0) (xs more : List X) (ys : List Y) : Type 0 where
  pub front : List Y
  pub back : List Y
  pub parts : ys ≡ front ++ back
  pub first : AllZip R xs front
  pub rest : AllZip R more back

pub zip_cut : {X Y : Type 0} (R : X → Y → Type 0) (xs more : List X) (ys : List Y) → AllZip R (xs ++ more) ys → Cut R xs more ys
zip_cut R [] more ys z = record { front = []; back = ys; parts = refl; first = tt; rest = z }
zip_cut R (x ∷ xs) more [] z = absurd z
zip_cut {Y} R (x ∷ xs) more (y ∷ ys) z = let h = zip_cut R xs more ys z.1
    in record { front = y ∷ h.front; back = h.back; parts = ap (λ (l : List Y). y ∷ l) h.parts; first = (z.0, h.first); rest = h.rest }

pub zip_one : {X Y : Type 0} (R : X → Y → Type 0) (x : X) (ys : List Y) → AllZip R (x ∷ []) ys → (y : Y) × (ys ≡ y ∷ []) × R x y
zip_one R x [] z = absurd z
zip_one R x (y ∷ []) z = (y, refl, z.0)
zip_one R x (y ∷ (u ∷ ys)) z = absurd z.1

module _ {X D T N S W : Type 0} (Of : ℕ → Aim → X → D → Type 0) (Does : Task D → T → Type 0) (sort : T → S) (make : N → S) (device : N → X)
    (left : N → W) (Owes : ℕ → Aim → X → X → W → Type 0)
    (does : (n : ℕ) (a : Aim) (x : X) (t : Task D) (i : T) → t.by ≡ n → Of n a x t.work → Does t i → (p : N) × (sort i ≡ make p)
    × Owes n a x (device p) (left p)) where
  -- What the tasks left is of their kind, and these are its parts; their devices may come back.
  pub record Sorted (by : ℕ) (aims : List Aim) (xs : List X) (items : List T) : Type 0 where
    pub parts : List N
    pub are : map sort items ≡ map make parts
    pub many : length parts ≡ length aims
    pub devices : length xs ≡ length aims
    pub back : (old new : List (Option X)) → new ≡ old → CameBack Owes by aims (map Some xs ++ old) (map Some (map device parts) ++ new) (map left parts)

  sorted : (by : ℕ) (aims : List Aim) (xs : List X) (ts : List (Task D)) (items : List T) → AreTasks Of by aims xs ts → AllZip Does ts items
      → Sorted by aims xs items
  sorted by [] [] [] [] are z = record { parts = []; are = refl; many = refl; devices = refl; back = λ old new same. same }
  sorted by [] [] [] (i ∷ items) are z = absurd z
  sorted by [] [] (t ∷ ts) items are z = absurd are
  sorted by [] (x ∷ xs) ts items are z = absurd are
  sorted by (a ∷ aims) [] ts items are z = absurd are
  sorted by (a ∷ aims) (x ∷ xs) [] items are z = absurd are
  sorted by (a ∷ aims) (x ∷ xs) (t ∷ ts) [] are z = absurd z
  sorted by (a ∷ aims) (x ∷ xs) (t ∷ ts) (i ∷ items) are z =
      let o = does by a x t i are.0 are.1 z.0 in
      let h = sorted (by + 1) aims xs ts items are.2 z.1 in
      record {
        parts = o.0 ∷ h.parts;
        are = ap (λ (s : S). s ∷ map sort items) o.1 ∙ ap (λ (l : List S). make o.0 ∷ l) h.are;
        many = ap suc h.many;
        devices = ap suc h.devices;
        back = λ old new same. (o.2, h.back old new same);
      }

  -- the devices came back to the places that they had left
  pub came_back : (by : ℕ) (aims : List Aim) (before after : List (Task D)) (items : List T) (old mid new : List (Option X))
      (k : Taken Of by aims old mid before after) (h : Sorted by aims k.devices items)
      → new ≡ filled (map device h.parts) mid → CameBack Owes by aims old new (map left h.parts)
  came_back by aims before after items old mid new k h is =
      let n : length (map device h.parts) ≡ length k.devices = length-map h.parts device ∙ h.many ∙ sym h.devices in
      let same : drop (length (map device h.parts)) mid ≡ drop (length k.devices) old = ap (λ (i : ℕ). drop i mid) n ∙ k.others in
      subst (λ (l : List (Option X)). CameBack Owes by aims l new (map left h.parts)) (sym k.stood)
      (subst (λ (l : List (Option X)). CameBack Owes by aims (filled k.devices old) l (map left h.parts)) (sym is)
      (h.back (drop (length k.devices) old) (drop (length (map device h.parts)) mid) same))

-- ---- all of them

module _ {X Y T N M K C A B E : Type 0} (lines slots desks : List Aim) (lp lq : List (Option X)) (sp sq dp dq : List (Option Y))
    (sort : T → ByKind N M K C) (dl : N → X) (ds : M → Y) (dd : K → Y) (wl : N → A) (ws : M → B) (wd : K → E)
    (OwesL : ℕ → Aim → X → X → A → Type 0) (OwesS : ℕ → Aim → Y → Y → B → Type 0) (OwesD : ℕ → Aim → Y → Y → E → Type 0) (OwesC : C → Type 0) where
  -- All tasks have left what is of their kinds, and all devices may come back.
  pub record AllSorted (items : List T) : Type 0 where
    pub ls : List N
    pub ss : List M
    pub ks : List K
    pub c : C
    pub are : map sort items ≡ map Interface ls ++ (map Slot ss ++ (map Desk ks ++ Scribe c ∷ []))
    pub many_lines : length ls ≡ length lines
    pub many_slots : length ss ≡ length slots
    pub many_desks : length ks ≡ length desks
    pub lines_back : (new : List (Option X)) → new ≡ filled (map dl ls) lq → CameBack OwesL 0 lines lp new (map wl ls)
    pub slots_back : (new : List (Option Y)) → new ≡ filled (map ds ss) sq → CameBack OwesS 16 slots sp new (map ws ss)
    pub desks_back : (new : List (Option Y)) → new ≡ filled (map dd ks) dq → CameBack OwesD 24 desks dp new (map wd ks)
    pub owes : OwesC c

  module _ {D : Type 0} (LineOf : ℕ → Aim → X → D → Type 0) (SlotOf DeskOf : ℕ → Aim → Y → D → Type 0) (ScribeOf : D → Type 0) (Does : Task D → T → Type 0)
      (fl : (n : ℕ) (a : Aim) (x : X) (t : Task D) (i : T) → t.by ≡ n → LineOf n a x t.work → Does t i → (p : N) × (sort i ≡ Interface p)
      × OwesL n a x (dl p) (wl p))
      (fs : (n : ℕ) (a : Aim) (x : Y) (t : Task D) (i : T) → t.by ≡ n → SlotOf n a x t.work → Does t i → (p : M) × (sort i ≡ Slot p)
      × OwesS n a x (ds p) (ws p))
      (fd : (n : ℕ) (a : Aim) (x : Y) (t : Task D) (i : T) → t.by ≡ n → DeskOf n a x t.work → Does t i → (p : K) × (sort i ≡ Desk p)
      × OwesD n a x (dd p) (wd p))
      (fc : (t : Task D) (i : T) → t.by ≡ 28 → ScribeOf t.work → Does t i → (p : C) × (sort i ≡ Scribe p) × OwesC p)
      (tasks : List (Task D)) (s : Staffed LineOf SlotOf DeskOf ScribeOf lines slots desks lp lq sp sq dp dq tasks) where
    pub all_sorted : (items : List T) → AllZip Does tasks items → AllSorted items
    all_sorted items z =
        let cl = zip_cut Does s.of_lines.made (s.of_slots.made ++ (s.of_desks.made ++ s.last ∷ [])) items
        (subst (λ (l : List (Task D)). AllZip Does l items) (tasks_are LineOf SlotOf DeskOf ScribeOf lines slots desks lp lq sp sq dp dq tasks s) z) in
        let cs = zip_cut Does s.of_slots.made (s.of_desks.made ++ s.last ∷ []) cl.back cl.rest in
        let cd = zip_cut Does s.of_desks.made (s.last ∷ []) cs.back cs.rest in
        let cc = zip_one Does s.last cd.back cd.rest in
        let l = sorted LineOf Does sort Interface dl wl OwesL fl 0 lines s.of_lines.devices s.of_lines.made cl.front s.of_lines.are cl.first in
        let m = sorted SlotOf Does sort Slot ds ws OwesS fs 16 slots s.of_slots.devices s.of_slots.made cs.front s.of_slots.are cs.first in
        let d = sorted DeskOf Does sort Desk dd wd OwesD fd 24 desks s.of_desks.devices s.of_desks.made cd.front s.of_desks.are cd.first in
        let e = fc s.last cc.0 s.by s.of_scribe cc.2 in
        let at_last : map sort cd.back ≡ Scribe e.0 ∷ [] = ap (map sort) cc.1 ∙ ap (λ (x : ByKind N M K C). x ∷ []) e.1 in
        let at_desks : map sort cs.back ≡ map Desk d.parts ++ Scribe e.0 ∷ [] = ap (map sort) cd.parts ∙ map-append sort cd.front cd.back
        ∙ ap (λ (x : List (ByKind N M K C)). x ++ map sort cd.back) d.are ∙ ap (λ (x : List (ByKind N M K C)). map Desk d.parts ++ x) at_last in
        let at_slots : map sort cl.back ≡ map Slot m.parts ++ (map Desk d.parts ++ Scribe e.0 ∷ []) = ap (map sort) cs.parts
        ∙ map-append sort cs.front cs.back ∙ ap (λ (x : List (ByKind N M K C)). x ++ map sort cs.back) m.are
        ∙ ap (λ (x : List (ByKind N M K C)). map Slot m.parts ++ x) at_desks in
        record {
          ls = l.parts;
          ss = m.parts;
          ks = d.parts;
          c = e.0;
          are = ap (map sort) cl.parts ∙ map-append sort cl.front cl.back ∙ ap (λ (x : List (ByKind N M K C)). x ++ map sort cl.back) l.are
              ∙ ap (λ (x : List (ByKind N M K C)). map Interface l.parts ++ x) at_slots;
          many_lines = l.many;
          many_slots = m.many;
          many_desks = d.many;
          lines_back = λ new is. came_back LineOf Does sort Interface dl wl OwesL fl 0 lines [] s.after_lines cl.front lp lq new s.of_lines l is;
          slots_back = λ new is. came_back SlotOf Does sort Slot ds ws OwesS fs 16 slots s.after_lines s.after_slots cs.front sp sq new s.of_slots m is;
          desks_back = λ new is. came_back DeskOf Does sort Desk dd wd OwesD fd 24 desks s.after_slots s.after_desks cd.front dp dq new s.of_desks d is;
          owes = e.2;
        }

-- ---- what is found among them

module _ {T N M K C : Type 0} (sort : T → ByKind N M K C) (items : List T) (ls : List N) (ss : List M) (ks : List K) (c : C)
    (are : map sort items ≡ map Interface ls ++ (map Slot ss ++ (map Desk ks ++ Scribe c ∷ []))) where
  -- what is taken of the items, kind by kind
  pub taken : {Z : Type 0} (h : ByKind N M K C → Option Z) (zl zs zd zc : List Z) → filter_map h (map Interface ls) ≡ zl → filter_map h (map Slot ss)
      ≡ zs → filter_map h (map Desk ks) ≡ zd → filter_map h (Scribe c ∷ []) ≡ zc
      → filter_map (λ (i : T). h (sort i)) items ≡ zl ++ (zs ++ (zd ++ zc))
  taken {Z} h zl zs zd zc el es ed ec =
      sym (filter_map-map h sort items) ∙ ap (filter_map h) are
      ∙ filter_map-append h (map Interface ls) _ ∙ ap (λ (l : List Z). l ++ filter_map h (map Slot ss ++ (map Desk ks ++ Scribe c ∷ []))) el
      ∙ ap (λ (l : List Z). zl ++ l) (filter_map-append h (map Slot ss) _ ∙ ap (λ (l : List Z). l ++ filter_map h (map Desk ks ++ Scribe c ∷ [])) es
      ∙ ap (λ (l : List Z). zs ++ l) (filter_map-append h (map Desk ks) _ ∙ ap (λ (l : List Z). l ++ filter_map h (Scribe c ∷ [])) ed
      ∙ ap (λ (l : List Z). zd ++ l) ec))

  pub lines_are : filter_map (λ (i : T). the_interface (sort i)) items ≡ ls
  lines_are = taken the_interface ls [] [] [] (all_of the_interface Interface (λ (n : N). n) (λ n. refl) ls ∙ map-id ls)
      (none_of the_interface Slot (λ n. refl) ss) (none_of the_interface Desk (λ n. refl) ks) refl ∙ append-nil ls

  pub slots_are : filter_map (λ (i : T). the_slot (sort i)) items ≡ ss
  slots_are = taken the_slot [] ss [] [] (none_of the_slot Interface (λ n. refl) ls) (all_of the_slot Slot (λ (n : M). n) (λ n. refl) ss ∙ map-id ss)
      (none_of the_slot Desk (λ n. refl) ks) refl ∙ append-nil ss

  pub desks_are : filter_map (λ (i : T). the_desk (sort i)) items ≡ ks
  desks_are = taken the_desk [] [] ks [] (none_of the_desk Interface (λ n. refl) ls) (none_of the_desk Slot (λ n. refl) ss)
      (all_of the_desk Desk (λ (n : K). n) (λ n. refl) ks ∙ map-id ks) refl ∙ append-nil ks

  pub scribe_is : filter_map (λ (i : T). the_scribe (sort i)) items ≡ c ∷ []
  scribe_is = taken the_scribe [] [] [] (c ∷ []) (none_of the_scribe Interface (λ n. refl) ls) (none_of the_scribe Slot (λ n. refl) ss)
      (none_of the_scribe Desk (λ n. refl) ks) refl
