-- Who is not connected in a legal history.
use Rattle.std.proofs.Common.{◌≡◌, ℕ, ◌≤◌, ◌==◌, Bool, true, false, List, [], ◌∷◌, ◌++◌, length, Option, Some, None, unwrap_or, refl, sym, ap, ◌∙◌, subst, arith, append-nil, append_assoc, inl, inr}
use Rattle.std.specs.Prelude.{if◌then◌else◌}
use Rattle.cts_def.specs.Sites.{SiteData, IsSoundSite}
use Rattle.cts_entry.specs.declared.entry.Entry.{Entry}
use Rattle.cts_entry.specs.declared.what.What.{What}
use Rattle.cts_entry.specs.declared.what.What.TheVariants.{Opened, Packet, Closed, Command, SetLimits, Enable, LimitsSetIs, Injected, Unrouted, Stop, Ended}
use Rattle.cts_entry.specs.Histories.{connects, connects_maker, is_connected, latest, or_earlier}
use Rattle.cts_entry.specs.Legal.{Rules, IsLine, IsAllowed, AllAllowed, Allows, has_ended}
use Rattle.cts_entry.specs.Workers.{is_interface, is_slot}
use Rattle.cts_entry.proofs.Appending.{connected-append}
use Rattle.cts_table.specs.declared.basis.Basis.{Basis}
use Rattle.cts_table.specs.Keeping.{IsKept, rules_of}
use Rattle.cts_table.proofs.Active.{connected_active}
use Rattle.cts_worker.specs.Lasts.{never_connects}
use Rattle.cts_worker.specs.Laws.{DeskIsOff, EndedIsOff}

-- ---- who has ended

not_both : (on ended : Bool) → (on ≡ true → ended ≡ false) → ended ≡ true → on ≡ false
not_both true ended active is = absurd (let f : true ≡ false = sym is ∙ active refl in cc)
not_both false ended active is = refl

pub ended_is_off : EndedIsOff
ended_is_off b history by kept ended = not_both (is_connected by history) (has_ended by history) (connected_active b history by kept) ended

-- ---- a desk and the scribe

no_interface : (site : SiteData) (by : ℕ) → IsSoundSite site → never_connects site by ≡ true → is_interface site by ≡ true → ⊥
no_interface site by sound never is = let few : length site.interfaces ≤ 16 = sound.few_interfaces in grind arith

no_slot : (site : SiteData) (by : ℕ) → IsSoundSite site → never_connects site by ≡ true → is_slot site by ≡ true → ⊥
no_slot site by sound never is = let few : length site.routers ≤ 4 = sound.few_routers in grind arith

no_line : (b : Basis) (by : ℕ) → IsSoundSite b.site → never_connects b.site by ≡ true → IsLine (rules_of b) by → ⊥
no_line b by sound never line = elim line [
  | inl s ↦ no_slot b.site by sound never s
  | inr i ↦ no_interface b.site by sound never i
]

-- what a maker says that is no line opens nothing
no_open : (what : What) (r : Rules) (before : List Entry) (by : ℕ) → (IsLine r by → ⊥) → Allows r before by what → connects what ≡ Some true → ⊥
no_open Opened r before by is_no a h = is_no a.0
no_open (Packet ident stored bytes) r before by is_no a h = cc h
no_open (Closed why loss unposted unsent) r before by is_no a h = cc h
no_open (Command interface command bytes) r before by is_no a h = cc h
no_open (SetLimits enabled packet item persistence set limits) r before by is_no a h = cc h
no_open (Enable packet item enabled) r before by is_no a h = cc h
no_open (LimitsSetIs set) r before by is_no a h = cc h
no_open (Injected packet bytes) r before by is_no a h = cc h
no_open (Unrouted why bytes) r before by is_no a h = cc h
no_open Stop r before by is_no a h = cc h
no_open Ended r before by is_no a h = cc h

stays_off : (o c : Option Bool) → (o ≡ Some true → ⊥) → unwrap_or c false ≡ false → unwrap_or (or_earlier o c) false ≡ false
stays_off None c is_no off = off
stays_off (Some false) c is_no off = refl
stays_off (Some true) c is_no off = absurd (is_no refl)

own_only : (same : Bool) (o : Option Bool) → (same ≡ true → o ≡ Some true → ⊥) → (if same then o else None) ≡ Some true → ⊥
own_only true o none h = none refl h
own_only false o none h = cc h

same_of : (a b : ℕ) → (a == b) ≡ true → a ≡ b
same_of a b h = grind arith

off_step : (r : Rules) (before : List Entry) (e : Entry) (by : ℕ) → (IsLine r by → ⊥) → IsAllowed r before e → is_connected by before ≡ false → is_connected by (before ++ e ∷ []) ≡ false
off_step r before e by is_no allowed off =
    connected-append by before (e ∷ [])
    ∙ stays_off (connects_maker by e) (latest (connects_maker by) before)
    (own_only (e.by == by) (connects e.what) (λ is opens. no_open e.what r before e.by (λ line. is_no (subst (IsLine r) (same_of e.by by is) line)) allowed.says opens)) off

off_from : (r : Rules) (by : ℕ) (before es : List Entry) → (IsLine r by → ⊥) → is_connected by before ≡ false → AllAllowed r before es → is_connected by (before ++ es) ≡ false
off_from r by before [] is_no off all = ap (is_connected by) (append-nil before) ∙ off
off_from r by before (e ∷ es) is_no off all = ap (is_connected by) (sym (append_assoc before (e ∷ []) es)) ∙ off_from r by (before ++ e ∷ []) es is_no (off_step r before e by is_no all.0 off) all.1

pub desk_is_off : DeskIsOff
desk_is_off b history by kept sound never = off_from (rules_of b) by [] history (no_line b by sound never) refl kept.legal.each
