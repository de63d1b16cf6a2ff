-- A log file is played.
use Rattle.std.proofs.Common.{◌≡◌, ℕ, ◌≤◌, Bool, true, false, ◌&&◌, List, [], ◌∷◌, ◌++◌, length, map, refl, sym, ◌∙◌, ap, subst, arith, append-nil, length-append}
use Rattle.std.specs.List.{All, AllByRecursion, flat_map}
use Rattle.std.proofs.lemmas.List.Elements.{All-cons, All-nil}
use Rattle.std.proofs.lemmas.List.{length-map}
use Rattle.cts_core.specs.Environments.{basis_of}
use Rattle.cts_def.specs.Protocols.{PreidentifiedData}
use Rattle.cts_def.specs.Sites.{SiteData, targets_at}
use Rattle.cts_entry.specs.Legal.{most_bytes, most_entries}
use Rattle.cts_entry.specs.declared.entry.Entry.{Entry}
use Rattle.cts_framing.specs.Framing.{Heading}
use Rattle.cts_framing.specs.Layouts.{has_flags}
use Rattle.cts_framing.specs.Packets.{joined}
use Rattle.cts_log.specs.Files.{log_file, log_head}
use Rattle.cts_log.specs.Logged.{FitsLogged, Logged, entry_bytes, laid_out}
use Rattle.cts_log.specs.Reading.{IsLogRead}
use Rattle.cts_log.specs.declared.kind.LogKind.{LogKind}
use Rattle.cts_log.specs.declared.kind.LogKind.TheVariants.{Tlm}
use Rattle.cts_log.proofs.ReadOnce.{logs_are_read_again, logs_are_read_once}
use Rattle.cts_ident_laws.specs.Named.{HaveNames}
use Rattle.cts_play.specs.Played.{played}
use Rattle.cts_encode.specs.ReadBack.{read_as}
use Rattle.cts_encode.specs.Spellings.{head_in}
use Rattle.cts_trace_laws.specs.Packets.{cut_by}
use Rattle.cts_trace_laws.specs.Streams.{spoken}
use Rattle.cts_play_laws.specs.Files.{HaveRoom, IsLogOf, LogFilesArePlayed, LogFilesAreRead, LogFilesEnd, logged_of}
use Rattle.cts_play_laws.specs.Handing.{CanHandOn, IsHearer, packed, relayed}
use Rattle.cts_play_laws.specs.Hearing.{HasRoomFor}
use Rattle.cts_play_laws.specs.Plays.{CanPlay, log_frames, log_in, logged_packets}
use Rattle.cts_play_laws.proofs.Ends.{sites_end}
use Rattle.cts_play_laws.proofs.Handed.{all_back, all_map, device, fits_by, out, out_bytes}
use Rattle.cts_play_laws.proofs.Played.{all_play_logs, all_put, logs_are_played_there}

-- a flag that is not written is not missed
laid_same : (flagged : Bool) (h : Heading) (bytes : List ℕ) → laid_out flagged h bytes ≡ laid_out flagged (read_as flagged h) bytes
laid_same true h bytes = refl
laid_same false h bytes = refl

unstored : (flagged : Bool) (h : Heading) → flagged ≡ false → (read_as flagged h).stored ≡ false
unstored flagged h e = ap (λ (b : Bool). b && h.stored) e

module _ (layout : ℕ) (site : SiteData) (names : HaveNames site.definitions) where
  abbrev flagged : Bool
  flagged = has_flags layout

  fits : (e : Entry) → CanPlay layout site (played layout site) e → FitsLogged flagged (logged_of flagged site e)
  fits e c =
      let p = fits_by (log_frames layout) site (played layout site) 0 ((all_play_logs layout site).hears names) e.time e.what c.hand.time c.hand.packet in
      let bytes : length (packed site e).bytes ≤ 1048576 =
      omega (arith, c.short, length-append (head_in flagged (packed site e).heading (length (packed site e).bytes)) (packed site e).bytes) in
      record {
        heading = record { seconds = p.heading.seconds; micros = p.heading.micros; target = p.heading.target; packet = p.heading.packet };
        bytes = omega (arith, bytes);
        unstored = unstored flagged (packed site e).heading;
      }

  all_fit : (es : List Entry) → AllByRecursion (CanPlay layout site (played layout site)) es → All (FitsLogged flagged) (map (logged_of flagged site) es)
  all_fit [] all = All-nil (FitsLogged flagged)
  all_fit (e ∷ es) all = All-cons (FitsLogged flagged) (logged_of flagged site e) (map (logged_of flagged site) es) (fits e all.0) (all_fit es all.1)

same_bytes : (fl : Bool) (site : SiteData) (es : List Entry)
    → flat_map (λ (e : Entry). laid_out fl (packed site e).heading (packed site e).bytes) es ≡ flat_map (entry_bytes fl) (map (logged_of fl site) es)
same_bytes fl site [] = refl
same_bytes fl site (e ∷ es) =
    let here = laid_same fl (packed site e).heading (packed site e).bytes in
    let rest = same_bytes fl site es in
    (λ i. here i ++ rest i)

pub log_files_are_read : LogFilesAreRead
log_files_are_read layout site history file kind flagged entries place is read =
    let es = logged_packets site history in
    let ls = map (logged_of (has_flags layout) site) es in
    let same : log_in layout site history ≡ flat_map (entry_bytes (has_flags layout)) ls = same_bytes (has_flags layout) site es in
    let file_is : file ≡ log_file Tlm (has_flags layout) is.digest ls = is.file_is ∙ ap (λ v. log_head Tlm (has_flags layout) is.digest ++ v) same in
    let again = logs_are_read_again Tlm (has_flags layout) is.digest ls is.digest_len is.digest_bytes (all_fit layout site is.names es is.can) in
    let due : IsLogRead file Tlm (has_flags layout) ls (length file) = subst (λ (f : List ℕ). IsLogRead f Tlm (has_flags layout) ls (length f)) (sym file_is) again in
    logs_are_read_once file kind Tlm flagged (has_flags layout) entries ls place (length file) read due

-- its entries, laid out one after another, are the log of packets of the history
laid_again : (layout : ℕ) (site : SiteData) (history : List Entry) (file : List ℕ) (kind : LogKind) (flagged : Bool) (entries : List Logged) (place : ℕ) (pieces : List (List ℕ))
    → IsLogOf layout site history file → IsLogRead file kind flagged entries place → joined pieces ≡ flat_map (entry_bytes (has_flags layout)) entries → joined pieces ≡ log_in layout site history
laid_again layout site history file kind flagged entries place pieces is read pieces_are =
    pieces_are
    ∙ (ap (flat_map (entry_bytes (has_flags layout))) (log_files_are_read layout site history file kind flagged entries place is read).2
    ∙ sym (same_bytes (has_flags layout) site (logged_packets site history)))

pub log_files_are_played : LogFilesArePlayed
log_files_are_played layout site history file kind flagged entries place pieces times dids is read pieces_are runs =
    logs_are_played_there layout site history pieces times dids is.names is.can (laid_again layout site history file kind flagged entries place pieces is read pieces_are) runs

-- ---- all is done where there is room

room_for : (d : PreidentifiedData) (above below : SiteData) (m : ℕ) (t : IsHearer d above below m) (es : List Entry) → HaveRoom es → HasRoomFor most_entries most_bytes (map (out d above below m t) es)
room_for d above below m t es room = record {
  few = omega (arith, length-map es (out d above below m t), room.few);
  short = omega (arith, out_bytes d above below m t es, room.short);
}

pub log_files_end : LogFilesEnd
log_files_end layout site history file kind flagged entries place pieces times dids ending is read pieces_are come set room runs =
    let es = logged_packets site history in
    let below = played layout site in
    let d = log_frames layout in
    let t = (all_play_logs layout site).hears is.names in
    let put = all_put layout site below es is.can in
    let can = all_map (CanPlay layout site below) (CanHandOn below.definitions (targets_at below.interfaces 0)) (λ e c. c.hand) es is.can in
    let bytes = laid_again layout site history file kind flagged entries place pieces is read pieces_are in
    let room' : HasRoomFor most_entries most_bytes (map (out d site below 0 t) (spoken (relayed d site) es)) =
    subst (λ (xs : List Entry). HasRoomFor most_entries most_bytes (map (out d site below 0 t) xs)) (sym put.1) (room_for d site below 0 t es room) in
    sites_end (basis_of below) 0 (cut_by d) (relayed d site) (out d site below 0 t) es pieces [] times dids ending (device d site below 0 t) (all_back d site below 0 t es can)
    (append-nil (joined pieces) ∙ (bytes ∙ sym put.0)) come set room' runs
