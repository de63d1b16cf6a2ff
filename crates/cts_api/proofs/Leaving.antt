-- What a reply appends: nothing, or one entry of its desk that the history has room for; so it leaves a legal history legal.
use Rattle.std.proofs.Common.{◌≡◌, ◌⊎◌, ℕ, ◌≤◌, ◌+◌, Bool, true, false, ◌&&◌, List, [], ◌∷◌, ◌++◌, Option, Some, None, refl, sym, ◌∙◌, ap, subst, append-nil, inl, inr}
use Rattle.std.specs.Prelude.{if◌then◌else◌, ◌||◌, map, nat_le}
use Rattle.std.specs.List.{All, list_any}
use Rattle.std.proofs.lemmas.Bool.{leb-true}
use Rattle.std.proofs.lemmas.List.Elements.{All-nil, All-cons}
use Rattle.cts_def.specs.declared.time.Time.{Time}
use Rattle.cts_entry.specs.declared.entry.Entry.{Entry}
use Rattle.cts_entry.specs.declared.what.What.{What}
use Rattle.cts_entry.specs.Histories.{bytes_in, entries_in}
use Rattle.cts_entry.specs.Legal.{IsLegal, has_ended, is_ended}
use Rattle.cts_entry.specs.Workers.{is_desk}
use Rattle.cts_entry.proofs.Allowing.{allowed_append}
use Rattle.cts_entry.proofs.Appending.{bytes-append, entries-append}
use Rattle.cts_rpc.specs.Requests.{Outcome, not_json, not_request, bad_params, calls}
use Rattle.cts_table.specs.Keeping.{rules_of}
use Rattle.cts_table.specs.declared.basis.Basis.{Basis}
use Rattle.serde_json.specs.Data.{Data}
use Rattle.cts_api.specs.Answers.{Done, answer}
use Rattle.cts_methods.specs.Asking.{Asking}
use Rattle.cts_api.specs.Saying.{Said, gives, refused}
use Rattle.cts_methods.specs.Kinds.{listed}
use Rattle.cts_api.specs.Legal.{RepliesAreLegal, RepliesAreOfTheirDesk}
use Rattle.cts_methods.specs.Methods.{method_named, params_of}
use Rattle.cts_api.specs.Points.{Point, point_of}
use Rattle.cts_api.specs.Replies.{IsReply, IsReplyFor, IsReplyOf, IsReplyTo, Reply, done_reply, fit, history_full, made, posted, said_to}
use Rattle.cts_methods.specs.declared.method.Method.{Method}
use Rattle.cts_api.proofs.Allowed.{DoneMay, MayPost, OneMay, answer_may, ends_none, may_be_said}

module _ (h : Point) (by : ℕ) (time : Time) where
  -- nothing, or an entry of this desk for which there is room
  abbrev pub Leaves : List Entry → Type 0
  Leaves entries = (entries ≡ []) ⊎ ((what : What) × MayPost h what × (entries ≡ made by time what ∷ []) × (fit h entries ≡ true))

  one_leaves : (whats : List What) → OneMay h whats → fit h (map (made by time) whats) ≡ true → Leaves (map (made by time) whats)
  one_leaves [] may room = inl refl
  one_leaves (what ∷ []) may room = inr (what, may, refl, room)
  one_leaves (what ∷ (other ∷ more)) may room = absurd may

  fit_leaves : (id : Option Data) (result : Data) (whats : List What) (fits : Bool) → OneMay h whats → fit h (map (made by time) whats) ≡ fits
      → Leaves (if fits then done_reply id result (map (made by time) whats) else history_full id).entries
  fit_leaves id result whats true may room = one_leaves whats may room
  fit_leaves id result whats false may room = inl refl

  said_leaves : (id : Option Data) (said : Said Done) → DoneMay h said → Leaves (said_to h by time id said).entries
  said_leaves id (refused code message) may = inl refl
  said_leaves id (gives d) may = fit_leaves id d.result (posted h d.posting) (fit h (map (made by time) (posted h d.posting))) may refl

  -- a reply that is one with no entries
  none_leaves : (a b : Reply) → a ≡ b → b.entries ≡ [] → Leaves a.entries
  none_leaves a b same none = inl (ap (λ (x : Reply). x.entries) same ∙ none)

  to_leaves : (id : Option Data) (asked : Option Asking) (a : Reply) → IsReplyTo h by time id asked a → Leaves a.entries
  to_leaves id None a is = none_leaves a _ is refl
  to_leaves id (Some asking) a (r, has, is) = subst (λ (x : Reply). Leaves x.entries) (sym is) (said_leaves id (answer h r asking) (answer_may h r asking))

  of_leaves : (id : Option Data) (params : List Data) (m : Option Method) (a : Reply) → IsReplyOf h by time id params m a → Leaves a.entries
  of_leaves id params None a is = none_leaves a _ is refl
  of_leaves id params (Some m) a is = to_leaves id (params_of m params) a is

  for_leaves : (o : Outcome) (a : Reply) → IsReplyFor h by time o a → Leaves a.entries
  for_leaves not_json a is = none_leaves a _ is refl
  for_leaves not_request a is = none_leaves a _ is refl
  for_leaves (bad_params id) a is = none_leaves a _ is refl
  for_leaves (calls method params id) a is = of_leaves id (listed params) (method_named method) a is

  pub reply_leaves : (body : List ℕ) (a : Reply) → IsReply h by time body a → Leaves a.entries
  reply_leaves body a (o, out, is) = for_leaves o a is

  -- ---- the desk is the maker, and nobody ends

  abbrev OfDesk : List Entry → Type 0
  OfDesk entries = All (λ (e : Entry). e.by ≡ by) entries × (list_any (λ (e : Entry). is_ended e.what) entries ≡ false)

  of_desk : (entries : List Entry) → Leaves entries → OfDesk entries
  of_desk entries (inl none) = subst OfDesk (sym none) (All-nil (λ (e : Entry). e.by ≡ by), refl)
  of_desk entries (inr (what, may, is, room)) =
      subst OfDesk (sym is) (
        All-cons (λ (e : Entry). e.by ≡ by) (made by time what) [] refl (All-nil (λ (e : Entry). e.by ≡ by)),
        ap (λ (b : Bool). b || false) (ends_none h what may),
      )

pub of_their_desk : RepliesAreOfTheirDesk
of_their_desk h by time body a is = of_desk h by time a.entries (reply_leaves h by time body a is)

-- ---- a legal history stays so

first_of_both : (a b : Bool) → (a && b) ≡ true → a ≡ true
first_of_both true b h = refl
first_of_both false b h = absurd cc

second_of_both : (a b : Bool) → (a && b) ≡ true → b ≡ true
second_of_both true b h = h
second_of_both false b h = absurd cc

module _ (b : Basis) (history : List Entry) (by : ℕ) (time : Time) (desk : is_desk b.site by ≡ true) (active : has_ended by history ≡ false) (legal : IsLegal (rules_of b) history) where
  abbrev h : Point
  h = point_of b history

  one_legal : (what : What) → MayPost h what → fit h (made by time what ∷ []) ≡ true → IsLegal (rules_of b) (history ++ made by time what ∷ [])
  one_legal what may room =
      let es : List Entry = made by time what ∷ [] in
      let counted = first_of_both (nat_le (entries_in history + entries_in es) b.entries) (nat_le (bytes_in history + bytes_in es) b.bytes) room in
      let sized = second_of_both (nat_le (entries_in history + entries_in es) b.entries) (nat_le (bytes_in history + bytes_in es) b.bytes) room in
      record {
        each = allowed_append (rules_of b) [] history es legal.each (record { active = active; says = may_be_said b history by what desk may }, tt);
        entries = subst (λ (n : ℕ). n ≤ b.entries) (sym (entries-append history es)) (leb-true (entries_in history + entries_in es) b.entries counted);
        bytes = subst (λ (n : ℕ). n ≤ b.bytes) (sym (bytes-append history es)) (leb-true (bytes_in history + bytes_in es) b.bytes sized);
      }

  left_legal : (entries : List Entry) → Leaves h by time entries → IsLegal (rules_of b) (history ++ entries)
  left_legal entries (inl none) = subst (λ (es : List Entry). IsLegal (rules_of b) (history ++ es)) (sym none) (subst (IsLegal (rules_of b)) (sym (append-nil history)) legal)
  left_legal entries (inr (what, may, is, room)) =
      let fits : fit h (made by time what ∷ []) ≡ true = subst (λ (es : List Entry). fit h es ≡ true) is room in
      subst (λ (es : List Entry). IsLegal (rules_of b) (history ++ es)) (sym is) (one_legal what may fits)

pub replies_are_legal : RepliesAreLegal
replies_are_legal b history by time body a desk active legal is = left_legal b history by time desk active legal a.entries (reply_leaves (point_of b history) by time body a is)
