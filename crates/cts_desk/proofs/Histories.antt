-- The history grows: what stands of a desk's exchanges.
use Rattle.std.proofs.Common.{◌≡◌, ℕ, ◌==◌, Bool, true, false, List, [], ◌∷◌, ◌++◌, length, sym, refl, ap, ◌∙◌, subst, append-nil, append_assoc, Option, inr}
use Rattle.std.proofs.Math.Bool.{and-false}
use Rattle.std.specs.Prelude.{◌&&◌, ◌||◌}
use Rattle.std.specs.List.{All, list_any}
use Rattle.std.proofs.lemmas.List.{map-append}
use Rattle.std.proofs.lemmas.List.Elements.{All-head, All-tail}
use Rattle.std.proofs.lemmas.List.Folds.{list_any-append}
use Rattle.cts_entry.specs.declared.entry.Entry.{Entry}
use Rattle.cts_def.specs.Makers.{scribe}
use Rattle.cts_def.specs.Sites.{SiteData}
use Rattle.cts_entry.specs.Workers.{is_desk, is_interface, is_slot, is_worker}
use Rattle.cts_entry.specs.Legal.{has_ended, is_ended}
use Rattle.cts_table.specs.declared.basis.Basis.{Basis}
use Rattle.cts_turn.specs.declared.rule.View.{View}
use Rattle.cts_turn.specs.Lists.{has, StartsWith, AllBy}
use Rattle.cts_turn.specs.Passes.{left}
use Rattle.cts_turn.specs.Rule.{entered}
use Rattle.cts_desk.specs.Exchanges.{Exchange, Exchanges, IsAnswered, Among}
use Rattle.cts_trace.specs.Makers.{of_maker}
use Rattle.cts_trace.proofs.Others.{nothing_own, of_maker_append, strange_ended}
use Rattle.cts_worker.specs.Lasts.{MayEnd}
use Rattle.cts_desk.specs.Holds.{AskedHold, IsReady}
use Rattle.cts_worker.specs.Holds.{Hold}
use Rattle.cts_desk.specs.Growing.{exchanges_more}
use Rattle.cts_desk.specs.Serving.{Going}

-- a hold, from what the turn tells of it
abbrev pub a_hold : {G : Type 0} (m : ℕ) (old held new : View Entry G) (whole added : List Entry) → held ≡ entered old whole → StartsWith whole old.seen
    → ((k : ℕ) → has k old.makers ≡ true → of_maker k whole ≡ of_maker k old.seen) → has m old.makers ≡ true → new ≡ left held (whole ++ added) → Hold m old new added
a_hold m old held new whole added enters begins own mine leaves = record {
  others = begins.0;
  strange = nothing_own m whole old.seen begins.0 begins.1 (own m mine);
  seen = ap (λ v. v.seen) leaves ∙ ap (λ l. l ++ added) begins.1 ∙ append_assoc old.seen begins.0 added;
  found = ap (λ v. v.found) leaves ∙ ap (λ v. v.found) enters ∙ ap (λ l. old.found ++ length l ∷ []) begins.1;
  makers = ap (λ v. v.makers) leaves ∙ ap (λ v. v.makers) enters;
}

pub all_by : (m : ℕ) (makers : List ℕ) (es : List Entry) → has m makers ≡ true → All (λ (e : Entry). e.by ≡ m) es → AllBy (λ e. e.by) makers es
all_by m makers [] mine all = tt
all_by m makers (e ∷ es) mine all =
    let P : Entry → Type 0 = λ x. x.by ≡ m in
    (subst (λ n. has n makers ≡ true) (sym (All-head P e es all)) mine, all_by m makers es mine (All-tail P e es all))

-- ---- who has ended

or_false : (a b : Bool) → (a || b) ≡ false → (a ≡ false) × (b ≡ false)
or_false true b e = absurd cc
or_false false b e = (refl, e)

pub none_last : (by : ℕ) (es : List Entry) → list_any (λ (e : Entry). is_ended e.what) es ≡ false → has_ended by es ≡ false
none_last by [] none = refl
none_last by (e ∷ es) none =
    let both = or_false (is_ended e.what) (list_any (λ (x : Entry). is_ended x.what) es) none in
    ap (λ b. b || has_ended by es) (ap (λ b. (e.by == by) && b) both.0 ∙ and-false (e.by == by)) ∙ none_last by es both.1

pub ended_append : (by : ℕ) (xs ys : List Entry) → has_ended by (xs ++ ys) ≡ (has_ended by xs || has_ended by ys)
ended_append by xs ys = list_any-append (λ (e : Entry). (e.by == by) && is_ended e.what) xs ys

-- who had not ended has not in all entries, where its own are those that were seen
pub active_whole : (by : ℕ) (whole seen : List Entry) → StartsWith whole seen → of_maker by whole ≡ of_maker by seen → has_ended by seen ≡ false → has_ended by whole ≡ false
active_whole by whole seen begins own active =
    ap (has_ended by) begins.1 ∙ ended_append by seen begins.0 ∙ ap (λ b. b || has_ended by begins.0) active ∙ strange_ended by begins.0 (nothing_own by whole seen begins.0 begins.1 own)

pub active_hold : (m : ℕ) (old new : View Entry Basis) (added : List Entry) → Hold m old new added → list_any (λ (e : Entry). is_ended e.what) added ≡ false → has_ended m old.seen ≡ false → has_ended m new.seen ≡ false
active_hold m old new added hold lasts active =
    ap (has_ended m) hold.seen ∙ ended_append m old.seen (hold.others ++ added) ∙ ap (λ b. b || has_ended m (hold.others ++ added)) active
    ∙ ended_append m hold.others added ∙ ap (λ b. b || has_ended m added) (strange_ended m hold.others hold.strange) ∙ none_last m added lasts

pub ready_hold : (b : Basis) (m : ℕ) (old new : View Entry Basis) (added : List Entry) → Hold m old new added → list_any (λ (e : Entry). is_ended e.what) added ≡ false → IsReady b m old → IsReady b m new
ready_hold b m old new added hold lasts ready = record {
  makers = ap (has m) hold.makers ∙ ready.makers;
  desk = ready.desk;
  active = active_hold m old new added hold lasts ready.active;
}

-- ---- the exchanges

-- one more exchange at the end
pub exchanges_snoc : (b : Basis) (by : ℕ) (before : List Entry) (xs : List Exchange) (rest gap added : List Entry) (x : Exchange)
    → Exchanges b by before xs [] rest → of_maker by gap ≡ [] → x.front ≡ length (before ++ (rest ++ gap)) → IsAnswered b by (before ++ (rest ++ gap)) x added
    → Exchanges b by before (xs ++ x ∷ []) [] (rest ++ (gap ++ added))
exchanges_snoc b by before [] rest gap added x s none at answered = (
  rest ++ gap,
  added,
  [],
  sym (append_assoc rest gap added) ∙ ap (λ l. (rest ++ gap) ++ l) (sym (append-nil added)),
  of_maker_append by rest gap ∙ ap (λ l. l ++ of_maker by gap) s ∙ none,
  at,
  answered,
  refl,
)
exchanges_snoc b by before (y ∷ xs) rest gap added x s none at answered =
    let to : before ++ (rest ++ gap) ≡ (before ++ (s.0 ++ s.1)) ++ (s.2 ++ gap) =
    ap (λ l. before ++ (l ++ gap)) s.3 ∙ ap (λ l. before ++ l) (append_assoc s.0 (s.1 ++ s.2) gap ∙ ap (λ l. s.0 ++ l) (append_assoc s.1 s.2 gap) ∙ sym (append_assoc s.0 s.1 (s.2 ++ gap))) ∙ sym (append_assoc before (s.0 ++ s.1) (s.2 ++ gap)) in (
      s.0,
      s.1,
      s.2 ++ (gap ++ added),
      ap (λ l. l ++ (gap ++ added)) s.3 ∙ append_assoc s.0 (s.1 ++ s.2) (gap ++ added) ∙ ap (λ l. s.0 ++ l) (append_assoc s.1 s.2 (gap ++ added)),
      s.4,
      s.5,
      s.6,
      exchanges_snoc b by (before ++ (s.0 ++ s.1)) xs s.2 gap added x s.7 none (at ∙ ap length to) (subst (λ l. IsAnswered b by l x added) to answered),
    )

pub among_snoc : (xs ys : List ℕ) (x : ℕ) → Among xs ys → Among (xs ++ x ∷ []) (ys ++ x ∷ [])
among_snoc [] ys x a = (ys, [], refl, tt)
among_snoc (y ∷ xs) ys x a = (a.0, a.1 ++ x ∷ [], ap (λ l. l ++ x ∷ []) a.2 ∙ append_assoc a.0 (y ∷ a.1) (x ∷ []), among_snoc xs a.1 x a.3)

-- ---- a desk's history so far

pub going_ask : (b : Basis) (m : ℕ) (body : List ℕ) (front : ℕ) (text : Option (List ℕ)) (fronts : List ℕ) (old new : View Entry Basis) (xs : List Exchange)
    → AskedHold b m body front text old new → Going b m fronts old xs → Going b m (fronts ++ front ∷ []) new (xs ++ record { body = body; front = front; text = text } ∷ [])
going_ask b m body front text fronts old new xs asked g =
    let x : Exchange = record { body = body; front = front; text = text } in record {
      fronts_are = ap (λ l. l ++ front ∷ []) g.fronts_are ∙ sym (map-append (λ (y : Exchange). y.front) xs (x ∷ []));
      among = subst (Among (fronts ++ front ∷ [])) (ap (λ n. old.found ++ n ∷ []) asked.front_is ∙ sym asked.hold.found) (among_snoc fronts old.found front g.among);
      stand = subst (λ l. Exchanges b m [] (xs ++ x ∷ []) [] l) (sym asked.hold.seen)
          (exchanges_snoc b m [] xs old.seen asked.hold.others asked.added x g.stand asked.hold.strange asked.front_is asked.answered);
    }

-- ---- the last entries

-- the exchanges stand before the last entries
pub exchanges_end : (b : Basis) (by : ℕ) (xs : List Exchange) (seen others last : List Entry) → Exchanges b by [] xs [] seen → of_maker by others ≡ [] → of_maker by last ≡ last → Exchanges b by [] xs last (seen ++ (others ++ last))
exchanges_end b by xs seen others last s none own =
    subst (λ l. Exchanges b by [] xs l (seen ++ (others ++ last))) (of_maker_append by others last ∙ ap (λ l. l ++ of_maker by last) none ∙ own) (exchanges_more b by [] xs [] seen (others ++ last) s)

-- ---- a desk as a worker

third : (a b c d : Bool) → c ≡ true → (a || b || c || d) ≡ true
third true true c d e = refl
third true false c d e = refl
third false true c d e = refl
third false false true d e = refl
third false false false d e = absurd (let f : false ≡ true = e in cc)

pub desk_works : (site : SiteData) (by : ℕ) → is_desk site by ≡ true → is_worker site by ≡ true
desk_works site by desk = third (is_interface site by) (is_slot site by) (is_desk site by) (by == scribe) desk

pub desk_may_end : (b : Basis) (by : ℕ) (v : View Entry Basis) → IsReady b by v → MayEnd b.site by v.seen
desk_may_end b by v ready = record { worker = desk_works b.site by ready.desk; active = ready.active; off = inr (ap (λ (d : Bool). d || (by == scribe)) ready.desk) }
