-- What a maker's own entries tell of it goes on to hold when others append.
use Rattle.std.proofs.Common.{◌≡◌, ℕ, ◌==◌, ◌&&◌, ◌||◌, Bool, true, false, cond, List, [], ◌∷◌, ◌++◌, length, filter, refl, sym, ◌∙◌, ap, subst, append_assoc}
use Rattle.std.specs.List.{list_any}
use Rattle.cts_entry.specs.declared.entry.Entry.{Entry}
use Rattle.cts_entry.specs.declared.what.What.{What}
use Rattle.cts_server.specs.Lasting.{Lasts}
use Rattle.cts_trace.specs.Makers.{LastEnded, of_maker}
use Rattle.cts_trace.proofs.Looking.{stop_kept}
use Rattle.cts_turn.specs.Lists.{StartsWith}
use Rattle.cts_server.specs.Workers.{IsUnstarted, LastLook}

module _ (m : ℕ) (kind : What → Bool) where
  abbrev says : Entry → Bool
  says e = (e.by == m) && kind e.what

  own_filter : (es : List Entry) → filter says es ≡ filter says (of_maker m es)
  own_filter [] = refl
  own_filter (e ∷ es) = by_case (e.by == m) refl (own_filter es)
    where
      mine : List Entry
      mine = of_maker m es

      by_case : (b : Bool) → (e.by == m) ≡ b → filter says es ≡ filter says mine → cond (says e) (e ∷ filter says es) (filter says es) ≡ filter says
          (cond b (e ∷ mine) mine)
      by_case true h more = ap (λ (l : List Entry). cond (says e) (e ∷ l) l) more
      by_case false h more = ap (λ (b : Bool). cond (b && kind e.what) (e ∷ filter says es) (filter says es)) h ∙ more

  own_any : (es : List Entry) → list_any says es ≡ list_any says (of_maker m es)
  own_any [] = refl
  own_any (e ∷ es) = by_case (e.by == m) refl (own_any es)
    where
      mine : List Entry
      mine = of_maker m es

      by_case : (b : Bool) → (e.by == m) ≡ b → list_any says es ≡ list_any says mine → (says e || list_any says es) ≡ list_any says (cond b (e ∷ mine) mine)
      by_case true h more = ap (λ (b : Bool). says e || b) more
      by_case false h more = ap (λ (b : Bool). (b && kind e.what) || list_any says es) h ∙ more

  -- as many entries of the maker are of a kind, where it has the same entries
  pub counted_of : (xs ys : List Entry) → of_maker m xs ≡ of_maker m ys → length (filter says xs) ≡ length (filter says ys)
  counted_of xs ys same = ap length (own_filter xs ∙ (ap (filter says) same ∙ sym (own_filter ys)))

  -- and so whether one of them is
  pub any_of : (xs ys : List Entry) → of_maker m xs ≡ of_maker m ys → list_any says xs ≡ list_any says ys
  any_of xs ys same = own_any xs ∙ (ap (list_any says) same ∙ sym (own_any ys))

-- what holds when entries of others are added holds of every longer history with the same entries of the maker
pub lasts_by : (by : ℕ) (P : List Entry → Type 0) → ((seen more : List Entry) → of_maker by (seen ++ more) ≡ of_maker by seen → P seen
    → P (seen ++ more)) → Lasts by P
lasts_by by P f seen whole begins own p = subst P (sym begins.1) (f seen begins.0 (sym (ap (of_maker by) begins.1) ∙ own) p)

pub begins_more : (seen more start : List Entry) → StartsWith seen start → StartsWith (seen ++ more) start
begins_more seen more start begins = (begins.0 ++ more, ap (λ (l : List Entry). l ++ more) begins.1 ∙ append_assoc start begins.0 more)

pub last_more : (by : ℕ) (seen more : List Entry) → of_maker by (seen ++ more) ≡ of_maker by seen → LastEnded by seen → LastEnded by (seen ++ more)
last_more by seen more own last = (last.0, last.1, own ∙ last.2, last.3)

pub unstarted_more : (by : ℕ) (seen more : List Entry) → of_maker by (seen ++ more) ≡ of_maker by seen → IsUnstarted by seen → IsUnstarted by (seen ++ more)
unstarted_more by seen more own u = record {
  stood = u.stood;
  begins = begins_more seen more u.stood u.begins;
  own = own ∙ u.own;
  stopped = stop_kept seen more u.stopped;
}

pub look_more : (by : ℕ) (look seen more : List Entry) → of_maker by (seen ++ more) ≡ of_maker by seen → LastLook by look seen → LastLook by look (seen ++ more)
look_more by look seen more own l = record { begins = begins_more seen more look l.begins; own = own ∙ l.own }
