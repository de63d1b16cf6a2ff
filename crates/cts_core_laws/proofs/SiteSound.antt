-- The environment of a site: its chains are sound, and its desks reply once to each body, in their own name and legally.
use Rattle.std.proofs.Common.{◌≡◌, ℕ, ◌+◌, ◌-◌, ◌≤◌, Bool, true, false, ◌&&◌, ◌||◌, length, ◌∙◌, ap, arith}
use Rattle.std.specs.Prelude.{nat_le, nat_lt}
use Rattle.std.proofs.lemmas.Bool.Decides.{nat_tests}
use Rattle.cts_api.specs.Points.{point_of}
use Rattle.cts_api.proofs.Leaving.{of_their_desk, replies_are_legal}
use Rattle.cts_api.proofs.OneReply.{reply_one}
use Rattle.cts_api.proofs.SomeReply.{some_reply}
use Rattle.cts_def.specs.Makers.{first_desk, first_slot, router_of, server}
use Rattle.cts_def.specs.Sites.{IsSoundSite, SiteData}
use Rattle.cts_table.specs.declared.basis.Basis.{Basis}
use Rattle.cts_entry.specs.Workers.{is_desk}
use Rattle.cts_framing.proofs.Sound.{chains_are_sound}
use Rattle.cts_core.specs.Environments.{environment_of}
use Rattle.cts_core_laws.specs.Laws.{AreApart, IsAnsweredByDesks, IsAnsweredLegally, IsSoundEnvironment}
use Rattle.cts_core.specs.States.{is_line}
use Rattle.cts_core.proofs.Building.{and_false}
use Rattle.cts_core.proofs.Following.{none_ended}

pub site_sound : (base : Basis) → IsSoundEnvironment (environment_of base)
site_sound base = record {
  chains = λ by. chains_are_sound base.site by;
  some_answer = λ history desk now body. some_reply (point_of base history) (first_desk + desk) now body;
  one_answer = λ history desk now body a b x y. reply_one (point_of base history) (first_desk + desk) now body a b x y;
}

pub by_desks : (base : Basis) → IsAnsweredByDesks (environment_of base)
by_desks base = λ history desk now body a is. (of_their_desk (point_of base history) (first_desk + desk) now body a is).0

-- a desk is the maker of its number
desk_is : (site : SiteData) (desk : ℕ) → nat_lt desk site.desks ≡ true → is_desk site (first_desk + desk) ≡ true
desk_is site desk there =
    let at : first_desk + desk - first_desk ≡ desk = omega arith in
    let high : nat_le first_desk (first_desk + desk) ≡ true = grind (arith, nat_tests) in
    ap (λ (b : Bool). b && nat_lt (first_desk + desk - first_desk) site.desks) high ∙ (ap (λ (n : ℕ). nat_lt n site.desks) at ∙ there)

pub legally : (base : Basis) → IsAnsweredLegally base
legally base = record {
  legal = λ history desk now body a there last is legal. replies_are_legal base history (first_desk + desk) now body a (desk_is base.site desk there) (none_ended (first_desk + desk) history last) legal is;
  none_ended = λ history desk now body a is. (of_their_desk (point_of base history) (first_desk + desk) now body a is).1;
}

-- ---- makers are apart

not_below : (n m : ℕ) → m ≤ n → nat_lt n m ≡ false
not_below n m h = grind (arith, nat_tests)

neither : (a b : Bool) → a ≡ false → b ≡ false → (a || b) ≡ false
neither true b x y = x
neither false b x y = y

-- a number after those of slots is that of no line
no_line : (base : Basis) (by : ℕ) → IsSoundSite base.site → first_desk ≤ by → is_line (environment_of base) by ≡ false
no_line base by sound high =
    neither (nat_le first_slot by && nat_lt (router_of by) (length base.site.routers)) (nat_lt by (length base.site.interfaces))
    (and_false (nat_le first_slot by) (nat_lt (router_of by) (length base.site.routers)) (not_below (router_of by) (length base.site.routers) (omega (arith, high, sound.few_routers))))
    (not_below by (length base.site.interfaces) (omega (arith, high, sound.few_interfaces)))

pub apart : (base : Basis) → IsSoundSite base.site → AreApart (environment_of base)
apart base sound = record {
  server = no_line base server sound (omega arith);
  desks = λ desk there. no_line base (first_desk + desk) sound (omega arith);
}
