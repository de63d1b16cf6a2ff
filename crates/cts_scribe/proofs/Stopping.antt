-- What a stop leaves of the parts of a log is read.
use Rattle.std.proofs.Common.{◌≡◌, ℕ, List, [], ◌∷◌, ◌++◌, refl, sym, ◌∙◌, ap, subst}
use Rattle.std.specs.Prelude.{map}
use Rattle.std.proofs.lemmas.List.{map-append}
use Rattle.cts_framing.specs.Layouts.{has_flags}
use Rattle.cts_log_parts.specs.Grouping.{BeginsParts}
use Rattle.cts_log_parts.specs.Stops.{AreClosed}
use Rattle.cts_log_parts.specs.Told.{bytes_of}
use Rattle.cts_log_parts.proofs.Leaving.{stops_leave}
use Rattle.cts_log_parts.proofs.PartsRead.{parts_are_read, synced_are_read}
use Rattle.cts_outside.specs.Vaults.{Log, Part, parts_of, whole_part}
use Rattle.cts_scribe.specs.Laws.{StopsLeaveLogs}
use Rattle.cts_scribe.specs.Logs.{file_kind, groups, logged, parts}

-- the bytes of the parts of a log
whole_bytes : (ps : List (List ℕ)) → map (λ (p : Part). p.bytes) (map whole_part ps) ≡ ps
whole_bytes [] = refl
whole_bytes (p ∷ ps) = ap (λ l. p ∷ l) (whole_bytes ps)

part_bytes : (l : Log) → map (λ (p : Part). p.bytes) (parts_of l) ≡ bytes_of l
part_bytes l =
    map-append (λ (p : Part). p.bytes) (map whole_part l.past) (record { bytes = l.bytes; synced = l.synced } ∷ [])
    ∙ ap (λ (ps : List (List ℕ)). ps ++ l.bytes ∷ []) (whole_bytes l.past)

-- all but the last are synced
all_closed : (ps : List (List ℕ)) (last : Part) → AreClosed (map whole_part ps ++ last ∷ [])
all_closed [] last = tt
all_closed (p ∷ []) last = (refl, tt)
all_closed (p ∷ q ∷ ps) last = (refl, all_closed (q ∷ ps) last)

pub readable : StopsLeaveLogs
readable kind site digest entries l files long bytes fit begun stop =
    let flagged = has_flags site.log_layout in
    let es = logged kind site entries in
    let closed : AreClosed (parts_of l) = all_closed l.past (record { bytes = l.bytes; synced = l.synced }) in
    let begins : BeginsParts (parts kind site digest entries) (map (λ (p : Part). p.bytes) (parts_of l)) =
    subst (BeginsParts (parts kind site digest entries)) (sym (part_bytes l)) begun.0 in
    let left = stops_leave (parts kind site digest entries) (parts_of l) files begins closed stop in
    let read = parts_are_read (file_kind kind) flagged digest site.log_cycle es files long bytes fit left in
    record {
      readable = record { beginning = left; each = read.0; read = read.1; all = read.2; in_order = read.3 };
      synced = synced_are_read flagged (groups kind site entries) (parts_of l) files closed stop;
    }
