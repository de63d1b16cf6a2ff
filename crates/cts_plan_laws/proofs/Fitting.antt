-- The words of the statements of a site are right for their places.
use Rattle.std.specs.Option.{option_eq}
use Rattle.std.proofs.Common.{arith, zero, suc, ◌+◌, ◌<◌, ◌≡◌, ℕ, Bool, true, false, cond, List, [], ◌∷◌, ◌++◌, Option, Some, None, Ok, refl, sym, ◌∙◌, ap, subst}
use Rattle.std.specs.Prelude.{slice_get, is_none, nat_eq, ◌||◌, ◌&&◌, nat_lt, length, zip, not, if◌then◌else◌}
use Rattle.std.specs.List.{list_any}
use Rattle.std.proofs.lemmas.Bool.Decides.{nat_tests}
use Rattle.cts_base.specs.Names.{is_name, in_upper_case}
use Rattle.cts_def.specs.declared.proto_spec.Kind.{Kind}
use Rattle.cts_def.specs.Packets.{DefinitionsData}
use Rattle.cts_def.specs.Sites.{SiteData}
use Rattle.cts_words.specs.declared.statement.Statement.{Statement}
use Rattle.cts_words.specs.Refusals.{or_else, first_refusal, NoneRefused}
use Rattle.cts_words.proofs.Refused.{first_one_is_refused}
use Rattle.cts_words.proofs.Finds.{none_passes}
use Rattle.cts_plan.specs.declared.keyword.Keyword.{Keyword}
use Rattle.cts_plan.specs.declared.keyword.Keyword.TheVariants as keyword
use Rattle.cts_plan.specs.declared.keyword.Role.{Role}
use Rattle.cts_plan.specs.declared.keyword.Role.TheVariants.{Client, Server}
use Rattle.cts_plan.specs.declared.keyword.Field.{Field}
use Rattle.cts_plan.specs.declared.keyword.Field.TheVariants as field
use Rattle.cts_plan.specs.Words.{word, is_nil, port_of}
use Rattle.cts_plan.specs.declared.draft.Draft.{Draft}
use Rattle.cts_plan.specs.Forms.{role_of, opening_fields, head_fields, protocol_of, parameters, parameter_fields, fields_of, any_field, is_other_choice, is_bad_name, is_no_number}
use Rattle.cts_plan.specs.Lines.{port_at, name_of, line_of, is_bad_length}
use Rattle.cts_plan.specs.Causes.{are_two_at, is_two_ports, is_file_unknown, is_unrouted, holds, order, is_wrong_count, is_not_number, is_length, is_protocol_missing, has_wrong_rest}
use Rattle.cts_reader.specs.Reading.{at_line, unless_refused}
use Rattle.cts_plan.specs.Completing.{Refused, due}
use Rattle.cts_plan.specs.SiteFiles.{parts, opening, opens, ready, cause_in, after, refusal, at_end, site_in}
use Rattle.cts_plan.proofs.Lists.{neither}
use Rattle.cts_plan_laws.specs.SiteLaws.{Fits, StatementsFit}
use Rattle.cts_plan_laws.proofs.WordsRead.{fits_at}
use Rattle.cts_plan_laws.proofs.FirstRefused.{none_holds}

-- ---- a name on the opening line

name_at : (role : Option Role) (ws : List (List ℕ)) → nat_lt (length ws) (length (opening_fields role)) ≡ false
    → list_any (λ p. is_bad_name p.0 p.1) (zip (opening_fields role) ws) ≡ false → not (is_name (word ws 0)) ≡ false
name_at None [] count names = absurd cc
name_at (Some Client) [] count names = absurd cc
name_at (Some Server) [] count names = absurd cc
name_at None (w ∷ ws) count names = (neither (not (is_name w)) _ names).0
name_at (Some Client) (w ∷ ws) count names = (neither (not (is_name w)) _ names).0
name_at (Some Server) (w ∷ ws) count names = (neither (not (is_name w)) _ names).0

name_found : (b : Bool) (w : List ℕ) → not b ≡ false → (name : List ℕ) × ((if b then Some (in_upper_case w) else None) ≡ Some name)
name_found true w e = (in_upper_case w, refl)
name_found false w e = absurd cc

named : (k : Keyword) (ws : List (List ℕ)) → nat_lt (length ws) (length (head_fields k ws)) ≡ false → list_any (λ p. is_bad_name p.0 p.1) (zip (head_fields k ws) ws) ≡ false
    → opening k ≡ true → (name : List ℕ) × (name_of (word ws 0) ≡ Some name)
unfolding head_fields
named keyword.Interface ws count names is = name_found (is_name (word ws 0)) (word ws 0) (name_at (role_of keyword.Interface ws) ws count names)
named keyword.Router ws count names is = name_found (is_name (word ws 0)) (word ws 0) (name_at (role_of keyword.Router ws) ws count names)
named keyword.Title ws count names is = absurd cc
named keyword.Port ws count names is = absurd cc
named keyword.Desks ws count names is = absurd cc
named keyword.LogLayout ws count names is = absurd cc
named keyword.LogCycle ws count names is = absurd cc
named keyword.Target ws count names is = absurd cc
named keyword.Protocol ws count names is = absurd cc
named keyword.ReconnectDelay ws count names is = absurd cc
named keyword.DontReconnect ws count names is = absurd cc
named keyword.Log ws count names is = absurd cc
named keyword.DontLog ws count names is = absurd cc
named keyword.Route ws count names is = absurd cc

-- ---- a port on the opening line

-- the word at a place that the line has
word_there : (ws : List (List ℕ)) (k : ℕ) → k < length ws → slice_get ws k ≡ Some (word ws k)
word_there [] k h = absurd (omega (arith, h))
word_there (w ∷ ws) zero h = refl
word_there (w ∷ ws) (suc k) h = word_there ws k (omega (arith, h))

-- a word that is not `nil` and no other than a port is one
port_found : (w : List ℕ) (n : Bool) (o : Option ℕ) → is_nil w ≡ n → port_of w ≡ o → n ≡ false → (not n && is_none o) ≡ false → (port : ℕ) × (port_of w ≡ Some port)
port_found w true o e f nil fails = absurd cc
port_found w false None e f nil fails = absurd cc
port_found w false (Some port) e f nil fails = (port, f)

port_by : (fields : List Field) (ws : List (List ℕ)) (k : ℕ) → nat_lt (length ws) (length fields) ≡ false → k < length fields → slice_get fields k ≡ Some field.PortOrNil
    → list_any (λ p. is_no_number p.0 p.1) (zip fields ws) ≡ false → are_two_at ws k ≡ false → (port : ℕ) × (port_of (word ws k) ≡ Some port)
port_by fields ws k count within at numbers two =
    let enough : k < length ws = grind (arith, nat_tests) in
    let fits = fits_at is_no_number fields ws k field.PortOrNil (word ws k) numbers at (word_there ws k enough) in
    let both = neither (is_nil (word ws k) || is_nil (word ws (k + 1))) (not (option_eq nat_eq (port_of (word ws k)) (port_of (word ws (k + 1))))) two in
    let nil = neither (is_nil (word ws k)) (is_nil (word ws (k + 1))) both.0 in
    port_found (word ws k) (is_nil (word ws k)) (port_of (word ws k)) refl refl nil.0 fits

port_in : (role : Option Role) (ws : List (List ℕ)) → is_none role ≡ false → nat_lt (length ws) (length (opening_fields role)) ≡ false
    → list_any (λ p. is_no_number p.0 p.1) (zip (opening_fields role) ws) ≡ false → are_two_at ws (port_at role) ≡ false → (port : ℕ) × (port_of (word ws (port_at role)) ≡ Some port)
port_in None ws known count numbers two = absurd cc
port_in (Some Client) ws known count numbers two = port_by (opening_fields (Some Client)) ws 3 count (omega arith) refl numbers two
port_in (Some Server) ws known count numbers two = port_by (opening_fields (Some Server)) ws 2 count (omega arith) refl numbers two

ported : (k : Keyword) (ws : List (List ℕ)) → nat_lt (length ws) (length (head_fields k ws)) ≡ false → list_any (λ p. is_no_number p.0 p.1) (zip (head_fields k ws) ws) ≡ false
    → is_file_unknown k ws ≡ false → is_two_ports k ws ≡ false → opening k ≡ true → (port : ℕ) × (port_of (word ws (port_at (role_of k ws))) ≡ Some port)
unfolding head_fields
ported keyword.Interface ws count numbers known two is = port_in (role_of keyword.Interface ws) ws known count numbers two
ported keyword.Router ws count numbers known two is = port_in (role_of keyword.Router ws) ws known count numbers two
ported keyword.Title ws count numbers known two is = absurd cc
ported keyword.Port ws count numbers known two is = absurd cc
ported keyword.Desks ws count numbers known two is = absurd cc
ported keyword.LogLayout ws count numbers known two is = absurd cc
ported keyword.LogCycle ws count numbers known two is = absurd cc
ported keyword.Target ws count numbers known two is = absurd cc
ported keyword.Protocol ws count numbers known two is = absurd cc
ported keyword.ReconnectDelay ws count numbers known two is = absurd cc
ported keyword.DontReconnect ws count numbers known two is = absurd cc
ported keyword.Log ws count numbers known two is = absurd cc
ported keyword.DontLog ws count numbers known two is = absurd cc
ported keyword.Route ws count numbers known two is = absurd cc

-- ---- a statement that is not refused

fields_pass : (fails : Field → List ℕ → Bool) (k : Keyword) (ws : List (List ℕ)) (kind : Kind) → any_field fails k ws ≡ false → protocol_of k ws ≡ Some kind
    → list_any (λ p. fails p.0 p.1) (zip (parameter_fields kind) (parameters k ws)) ≡ false
fields_pass fails k ws kind none is =
    ap (λ o. list_any (λ p. fails p.0 p.1) (zip (fields_of o) (parameters k ws))) (sym is)
    ∙ (neither (list_any (λ p. fails p.0 p.1) (zip (head_fields k ws) ws)) (list_any (λ p. fails p.0 p.1) (zip (fields_of (protocol_of k ws)) (parameters k ws))) none).1

fits_where : (k : Keyword) (ws : List (List ℕ)) → is_wrong_count k ws ≡ false → is_file_unknown k ws ≡ false → any_field is_bad_name k ws ≡ false → is_not_number k ws ≡ false
    → is_two_ports k ws ≡ false → Fits k ws
fits_where k ws count known names numbers two =
    let counts = neither (nat_lt (length ws) (length (head_fields k ws)) || is_protocol_missing k ws || has_wrong_rest k ws) (any_field is_other_choice k ws) count in
    let heads = neither (nat_lt (length ws) (length (head_fields k ws)) || is_protocol_missing k ws) (has_wrong_rest k ws) counts.0 in
    let enough = neither (nat_lt (length ws) (length (head_fields k ws))) (is_protocol_missing k ws) heads.0 in
    let bad_names = neither (list_any (λ p. is_bad_name p.0 p.1) (zip (head_fields k ws) ws)) (list_any (λ p. is_bad_name p.0 p.1) (zip (fields_of (protocol_of k ws)) (parameters k ws))) names in
    let bad_numbers = neither (any_field is_no_number k ws) (is_length (protocol_of k ws) && is_bad_length (parameters k ws)) numbers in
    let head_numbers = neither (list_any (λ p. is_no_number p.0 p.1) (zip (head_fields k ws) ws)) (list_any (λ p. is_no_number p.0 p.1) (zip (fields_of (protocol_of k ws)) (parameters k ws))) bad_numbers.0 in
    record {
      named = named k ws enough.0 bad_names.0;
      ported = ported k ws enough.0 head_numbers.0 known two;
      fit = λ kind is. record {
        choices = fields_pass is_other_choice k ws kind counts.1 is;
        numbers = fields_pass is_no_number k ws kind bad_numbers.0 is;
      };
    }

pub words_fit : (s : Draft) (n : ℕ) (p : Keyword × List (List ℕ)) → or_else (cond (opens (Some p)) (due s) None) (at_line n (cause_in (ready (Some p) s) n (Some p))) ≡ None → Fits p.0 p.1
words_fit s n p none =
    let stands = ready (Some p) s in
    let l = line_of n p.0 p.1 in
    let passes = none_passes (λ c. holds c stands p.0 p.1 l) order (none_holds s n p none) in
    fits_where p.0 p.1 passes.1.0 (neither (is_file_unknown p.0 p.1) (is_unrouted stands l) passes.1.1.0).0 passes.1.1.1.0 passes.1.1.1.1.0 passes.1.1.1.1.1.1.0

fits_after : (d : DefinitionsData) (before : List Statement) (t : Statement) (p : Option (Keyword × List (List ℕ))) (k : Keyword) (ws : List (List ℕ))
    → or_else (cond (opens p) (due (after d before)) None) (at_line t.line (cause_in (ready p (after d before)) t.line p)) ≡ None → p ≡ Some (k, ws) → Fits k ws
fits_after d before t None k ws none is = absurd cc
fits_after d before t (Some p) k ws none is =
    let same : p ≡ (k, ws) = cc in
    subst (λ (q : Keyword × List (List ℕ)). Fits q.0 q.1) same (words_fit (after d before) t.line p none)

none_refused : (d : DefinitionsData) (all : List Statement) (s : SiteData) (o : Option Refused) → first_refusal (refusal d) (at_end d) [] all ≡ o → unless_refused (site_in (after d all)) o ≡ Ok s → NoneRefused (refusal d) all
none_refused d all s None e said = ((first_one_is_refused (refusal d) (at_end d) all None).0 e).0
none_refused d all s (Some r) e said = absurd cc

pub statements_fit : StatementsFit
statements_fit d front t rest s e k ws is =
    let all : List Statement = front ++ t ∷ rest in
    fits_after d front t (parts t.words) k ws (none_refused d all s (first_refusal (refusal d) (at_end d) [] all) refl e front t rest refl) is
