-- What a look at a hall says of the hall's list.
use Rattle.std.proofs.Common.{◌≡◌, ℕ, List, [], ◌∷◌, length, Option, refl, subst, arith}
use Rattle.cts_entry.specs.declared.entry.Entry.{Entry}
use Rattle.cts_table.specs.declared.basis.Basis.{Basis}
use Rattle.cts_table.specs.States.{Shown}
use Rattle.cts_api.specs.Looks.{Looks}
use Rattle.cts_api.specs.Points.{point_of}
use Rattle.cts_api.specs.Replies.{IsReply}
use Rattle.cts_api.specs.declared.looked.Look.TheVariants.{Text}
use Rattle.cts_snap.specs.Reading.{TextOver}

none_of : (xs : List Entry) → 0 ≡ length xs → xs ≡ []
none_of [] e = refl
none_of (x ∷ xs) e = absurd (omega arith)

-- the text of a look at a hall of this basis and this list
pub text_read : (h : Shown) (b : Basis) (list : List Entry) (body : List ℕ) (text : Option (List ℕ)) → h.basis ≡ b → h.entries ≡ list → Looks h body (Text text) → TextOver b list body text
text_read h b list body text base same looks = λ by time.
    let x = looks.1 by time in (
      x.0,
      subst (λ (l : List Entry). IsReply (point_of b l) by time body x.0) same (subst (λ (c : Basis). IsReply (point_of c h.entries) by time body x.0) base x.1),
      x.2.0,
      none_of x.0.entries x.2.1.count,
    )
