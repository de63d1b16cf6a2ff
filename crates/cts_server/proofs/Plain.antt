-- A server whose desks read in holds of the turn, and whose workers are all the jobs.
use Rattle.std.proofs.Common.{◌≡◌, ℕ, ◌+◌, Bool, true, List, [], ◌++◌, map, Option, sym, ◌∙◌, ap, subst, arith, count_by}
use Rattle.std.proofs.lemmas.List.{append-nil}
use Rattle.cts_def.specs.Makers.{first_desk}
use Rattle.cts_def.specs.Sites.{SiteData}
use Rattle.cts_outside.specs.Crews.{CancelledFrom, with_cancelled, with_jobs}
use Rattle.cts_outside.specs.Seen.{CrewSeen, LineSeen, VaultSeen}
use Rattle.cts_server.specs.Aims.{desk_aims}
use Rattle.cts_server.specs.Cancelled.{cancellations, is_set, worker_count}
use Rattle.cts_server.specs.Desks.{ReadsInHolds}
use Rattle.cts_server.specs.Owed.{DeskDid, DeskOwes}
use Rattle.cts_server.specs.Serving.{ServedBy, ServedParts}
use Rattle.cts_server.specs.declared.worked.DeskNote.{DeskNote}
use Rattle.cts_server.specs.declared.worked.Worked.{Worked}
use Rattle.cts_server.proofs.Returned.{all_left, came_all}
use Rattle.cts_server.proofs.Steps.{cancelled_map, count_map}

no_more : (n : ℕ) → n + 0 ≡ n
no_more n = omega arith

pub plain_jobs : {T : Type 0} (p : T → Bool) (n : ℕ) (notes : List T) (crew crew' : CrewSeen)
    → crew' ≡ with_cancelled (with_jobs crew n) (count_by p notes)
    → crew' ≡ with_cancelled (with_jobs crew (n + 0)) (count_by is_set (map p notes ++ []))
plain_jobs p n notes crew crew' is =
    is ∙ ap (λ (k : ℕ). with_cancelled (with_jobs crew k) (count_by p notes)) (sym (no_more n))
    ∙ ap (λ (k : ℕ). with_cancelled (with_jobs crew (n + 0)) k) (sym (count_map is_set p notes))
    ∙ ap (λ (l : List Bool). with_cancelled (with_jobs crew (n + 0)) (count_by is_set l)) (sym (append-nil (map p notes)))

pub plain_exact : {T : Type 0} (p : T → Bool) (refused : ℕ → Bool) (notes : List T) → CancelledFrom p refused 0 notes
    → CancelledFrom is_set refused 0 (map p notes ++ [])
plain_exact p refused notes c =
    subst (λ (l : List Bool). CancelledFrom is_set refused 0 l) (sym (append-nil (map p notes))) (cancelled_map is_set p refused 0 notes c)

module _ {D Q V : Type 0} (line_seen : D → LineSeen) (door_seen : Q → LineSeen) (vault_seen : V → VaultSeen) (site : SiteData) (digest : List ℕ) (w : Worked)
    (dialers dialers' : List (Option D)) (at_slots at_slots' at_desks at_desks' : List (Option Q)) (vault vault' : Option V) (crew crew' : CrewSeen) where
  pub plain_served : ServedBy line_seen door_seen vault_seen site ReadsInHolds [] digest w dialers dialers' at_slots at_slots' at_desks at_desks' vault
      vault' crew crew'
      → ServedParts line_seen door_seen vault_seen site digest w dialers dialers' at_slots at_slots' at_desks at_desks' vault vault' crew crew'
  plain_served s = record {
    sound = s.sound;
    legal = s.legal;
    silent = s.silent;
    readable = s.readable;
    interfaces = s.interfaces;
    slots = s.slots;
    desks = came_all (DeskDid door_seen site w.history ReadsInHolds) (DeskOwes door_seen site w.history) (λ n a x y note owes. (owes.0, owes.1.0)) first_desk
        (desk_aims site) at_desks at_desks' w.desks s.desks;
    tied = all_left (DeskDid door_seen site w.history ReadsInHolds) (λ (note : DeskNote). note.tied ≡ true) (λ n a x y note owes. owes.1.1) first_desk
        (desk_aims site) at_desks at_desks' w.desks s.desks;
    scribe = s.scribe;
    jobs = s.jobs ∙ ap (λ (k : ℕ). with_cancelled (with_jobs crew k) (count_by is_set (cancellations w ++ []))) (no_more (worker_count site))
        ∙ ap (λ (l : List Bool). with_cancelled (with_jobs crew (worker_count site)) (count_by is_set l)) (append-nil (cancellations w));
    exact = λ in_turn. subst (λ (l : List Bool). CancelledFrom is_set crew.refused 0 l) (append-nil (cancellations w)) (s.exact in_turn);
  }
