-- Packets are known again by their names.
use Rattle.std.proofs.Common.{◌≡◌, ℕ, zero, suc, ◌<◌, Bool, true, false, ◌&&◌, List, [], ◌∷◌, map, refl, sym, ◌∙◌, ap, subst, arith, nat_lt, Some}
use Rattle.std.specs.Prelude.{IsTrue, nat_eq, slice_get, option_map}
use Rattle.std.specs.Cmp.Lexicographic.{pointwise}
use Rattle.std.specs.List.{AllByRecursion}
use Rattle.std.proofs.lemmas.Bool.{false≢true}
use Rattle.std.proofs.lemmas.Bool.Decides.{nat_tests}
use Rattle.std.proofs.lemmas.Cmp.{nat_list_eq_equiv}
use Rattle.std.proofs.lemmas.Option.{slice_get-map, get_or_from_slice_get}
use Rattle.cts_base.specs.Names.{spells, upper}
use Rattle.cts_def.specs.Items.{is_same}
use Rattle.cts_def.specs.Makers.{first_slot}
use Rattle.cts_def.specs.Names.{names_at, names_of}
use Rattle.cts_def.specs.Packets.{DefinitionsData, PacketData, is_named, is_of, unknown}
use Rattle.cts_def.specs.Sites.{SiteData, targets_at}
use Rattle.cts_def.specs.declared.ident.Ident.{Ident}
use Rattle.cts_def.specs.declared.ident.Ident.TheVariants.{Known, Unknown}
use Rattle.cts_ident.specs.Identification.{first_of, named}
use Rattle.cts_ident.proofs.FirstMatches.{named_of, unknown_is_none}
use Rattle.cts_ident_laws.specs.Named.{HaveNames, IsNamed, IsOfTargets, NamesAreKnown, outer_names}

module _ (site : SiteData) (interface : ℕ) (h : interface < first_slot) where
  pub named_is : (target name : List ℕ) → named site interface target name ≡ first_of (targets_at site.interfaces interface) site.definitions.telemetry (is_named target name)
  named_is target name = let t : nat_lt interface first_slot ≡ true = grind (arith, nat_tests) in rw t refl

spells_itself : (text : List ℕ) → map upper text ≡ text → spells text text ≡ true
spells_itself text e = ap (λ t. pointwise nat_eq t text) e ∙ nat_list_eq_equiv.refl text

and_true : (a b : Bool) → a ≡ true → b ≡ true → (a && b) ≡ true
and_true true b h k = k
and_true false b h k = absurd (false≢true h)

and_first : (a b : Bool) → (a && b) ≡ true → a ≡ true
and_first true b h = refl
and_first false b h = absurd (false≢true h)

is_named_so : (p : PacketData) → IsNamed p → is_named p.target p.name p ≡ true
is_named_so p n = and_true (spells p.target p.target) (spells p.name p.name) (spells_itself p.target n.target) (spells_itself p.name n.name)

pub each_at : {X : Type 0} (P : X → Type 0) (xs : List X) (n : ℕ) (x : X) → AllByRecursion P xs → slice_get xs n ≡ Some x → P x
each_at P [] n x all e = cc
each_at P (y ∷ xs) zero x all e = let same : y ≡ x = cc in subst P same all.0
each_at P (y ∷ xs) (suc n) x all e = each_at P xs n x all.1 e

pub names_are : (d : DefinitionsData) (n : ℕ) (p : PacketData) → slice_get d.telemetry n ≡ Some p → names_at d.telemetry n ≡ (p.target, p.name)
names_are d n p e = get_or_from_slice_get (map names_of d.telemetry) n (names_of p) ([], []) (slice_get-map names_of d.telemetry n ∙ ap (option_map names_of) e)

-- no packet is named so
none_unknown : (p : PacketData) → is_same p.target unknown ≡ false → is_named unknown unknown p ≡ true → ⊥
none_unknown p none h =
    let t : pointwise nat_eq unknown p.target ≡ true = and_first (spells unknown p.target) (spells unknown p.name) h in
    false≢true (sym none ∙ (nat_list_eq_equiv.symm p.target unknown ∙ t))

module _ (site : SiteData) (interface : ℕ) (h : interface < first_slot) (names : HaveNames site.definitions) where
  known_again : (n : ℕ) (p : PacketData) → slice_get site.definitions.telemetry n ≡ Some p → IsTrue (is_of (targets_at site.interfaces interface) p) → named site interface p.target p.name ≡ Known n
  known_again n p at of =
      let both = named_of (targets_at site.interfaces interface) site.definitions.telemetry p.target p.name n (named site interface p.target p.name) names.distinct (named_is site interface h p.target p.name) in
      both.1 (record { packet = p; at = at; target = of; passes = is_named_so p (each_at IsNamed site.definitions.telemetry n p names.each at) })

  unknown_again : named site interface unknown unknown ≡ Unknown
  unknown_again =
      let both = unknown_is_none (targets_at site.interfaces interface) site.definitions.telemetry (is_named unknown unknown) in
      named_is site interface h unknown unknown
      ∙ both.1 (λ n m. none_unknown m.packet (each_at IsNamed site.definitions.telemetry n m.packet names.each m.at).known m.passes)

  again : (i : Ident) → IsOfTargets site.definitions (targets_at site.interfaces interface) i → named site interface (outer_names site.definitions i).0 (outer_names site.definitions i).1 ≡ i
  again (Known n) of =
      let e = names_are site.definitions n of.0 of.1 in
      ap (λ (t : List ℕ × List ℕ). named site interface t.0 t.1) e ∙ known_again n of.0 of.1 of.2
  again Unknown of = unknown_again

pub names_are_known : NamesAreKnown
names_are_known site interface i h names of = again site interface h names i of
