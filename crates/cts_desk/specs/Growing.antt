-- What stands of a desk's exchanges where more entries came: lemmas that a source of replies cites.
use Rattle.std.proofs.Common.{◌≡◌, ℕ, List, [], ◌∷◌, ◌++◌, length, sym, refl, ap, ◌∙◌, subst, append-nil, append_assoc}
use Rattle.cts_entry.specs.declared.entry.Entry.{Entry}
use Rattle.cts_table.specs.declared.basis.Basis.{Basis}
use Rattle.cts_turn.specs.declared.rule.View.{View}
use Rattle.cts_trace.specs.Makers.{of_maker}
use Rattle.cts_trace.proofs.Others.{of_maker_append}
use Rattle.cts_worker.specs.Holds.{Hold}
use Rattle.cts_desk.specs.Exchanges.{Exchange, Exchanges, Among}
use Rattle.cts_desk.specs.Serving.{Going}

-- more entries after them, and which of those are the desk's
pub exchanges_more : (b : Basis) (by : ℕ) (before : List Entry) (xs : List Exchange) (last rest new : List Entry)
    → Exchanges b by before xs last rest → Exchanges b by before xs (last ++ of_maker by new) (rest ++ new)
exchanges_more b by before [] last rest new s = of_maker_append by rest new ∙ ap (λ l. l ++ of_maker by new) s
exchanges_more b by before (x ∷ xs) last rest new s = (
  s.0,
  s.1,
  s.2 ++ new,
  ap (λ l. l ++ new) s.3 ∙ append_assoc s.0 (s.1 ++ s.2) new ∙ ap (λ l. s.0 ++ l) (append_assoc s.1 s.2 new),
  s.4,
  s.5,
  s.6,
  exchanges_more b by (before ++ (s.0 ++ s.1)) xs last s.2 new s.7,
)

pub among_more : (xs ys more : List ℕ) → Among xs ys → Among xs (ys ++ more)
among_more [] ys more a = tt
among_more (x ∷ xs) ys more a = (a.0, a.1 ++ more, ap (λ l. l ++ more) a.2 ∙ append_assoc a.0 (x ∷ a.1) more, among_more xs a.1 more a.3)

-- a desk that has appended nothing has none
pub going_begins : (b : Basis) (m : ℕ) (v : View Entry Basis) → of_maker m v.seen ≡ [] → Going b m [] v []
going_begins b m v none = record { fronts_are = refl; among = tt; stand = none }

-- a look
pub going_look : (b : Basis) (m : ℕ) (fronts : List ℕ) (old new : View Entry Basis) (xs : List Exchange)
    → Hold m old new [] → Going b m fronts old xs → Going b m fronts new xs
going_look b m fronts old new xs hold g = record {
  fronts_are = g.fronts_are;
  among = subst (Among fronts) (sym hold.found) (among_more fronts old.found (length (old.seen ++ hold.others) ∷ []) g.among);
  stand = subst (λ l. Exchanges b m [] xs [] l) (sym (hold.seen ∙ ap (λ l. old.seen ++ l) (append-nil hold.others)))
      (subst (λ l. Exchanges b m [] xs l (old.seen ++ hold.others)) hold.strange (exchanges_more b m [] xs [] old.seen hold.others g.stand));
}
