-- A log of packets is played.
use Rattle.std.proofs.Common.{◌≡◌, ℕ, zero, suc, ◌≤◌, ◌<◌, ◌^◌, ◌||◌, Bool, true, false, List, [], ◌∷◌, ◌++◌, length, refl, sym, ◌∙◌, ap, arith, append-nil, length-append, Some}
use Rattle.std.specs.Prelude.{nat_le}
use Rattle.std.specs.List.{AllByRecursion, flat_map}
use Rattle.std.proofs.lemmas.Bool.Decides.{nat_tests}
use Rattle.cts_def.specs.Protocols.{Preidentified}
use Rattle.cts_def.specs.Sites.{SiteData, targets_at}
use Rattle.cts_entry.specs.declared.entry.Entry.{Entry}
use Rattle.cts_framing.specs.Framing.{Heading}
use Rattle.cts_def.specs.Most.{frame_limit}
use Rattle.cts_framing.specs.Layouts.{has_flags}
use Rattle.cts_framing.proofs.Fronts.{not_lt_test}
use Rattle.cts_log.specs.Logged.{laid_out}
use Rattle.cts_trace_laws.specs.Packets.{put_by}
use Rattle.cts_trace_laws.specs.Streams.{spoken, stream}
use Rattle.cts_trace_laws.proofs.Splits.{only_all, spoken_some, stream_some}
use Rattle.cts_encode.specs.Spellings.{head_in, too_large}
use Rattle.std.specs.List.{list_any}
use Rattle.std.proofs.lemmas.List.Folds.{list_any-append}
use Rattle.cts_core.specs.Environments.{basis_of}
use Rattle.cts_def.specs.Items.{is_same}
use Rattle.cts_def.specs.Sites.{InterfaceData, targets_of}
use Rattle.cts_play.specs.Played.{played}
use Rattle.cts_play_laws.specs.Handing.{CanHandOn, handed_history, packed, relayed}
use Rattle.cts_play_laws.specs.Plays.{AllPlayLogs, CanPlay, LogsArePlayed, LogsArePlayedThere, log_frames, logged_packets}
use Rattle.cts_play_laws.proofs.Handed.{all_map, are_handed_on}

not_le_test : (m n : ℕ) → n < m → nat_le m n ≡ false
not_le_test m n h = grind (arith, nat_tests)

module _ (layout : ℕ) (heading : Heading) (bytes : List ℕ) (short : length (laid_out (has_flags layout) heading bytes) ≤ frame_limit) where
  few : length bytes ≤ frame_limit
  few = omega (arith, short, length-append (head_in (has_flags layout) heading (length bytes)) bytes)

  not_large : too_large (Preidentified (log_frames layout)) heading bytes ≡ false
  not_large = rw (not_lt_test frame_limit (length (laid_out (has_flags layout) heading bytes)) short, not_le_test (2 ^ 32) (length bytes) (omega (arith, few))) refl

  -- it is put as an entry of the log
  pub put_whole : put_by (log_frames layout) (record { heading = heading; bytes = bytes }) ≡ Some (laid_out (has_flags layout) heading bytes)
  put_whole = rw not_large refl

module _ (layout : ℕ) (above below : SiteData) where
  pub all_put : (es : List Entry) → AllByRecursion (CanPlay layout above below) es
      → (stream (relayed (log_frames layout) above) es ≡ flat_map (λ e. laid_out (has_flags layout) (packed above e).heading (packed above e).bytes) es) × (spoken (relayed (log_frames layout) above) es ≡ es)
  all_put [] all = (refl, refl)
  all_put (e ∷ es) all =
      let w = laid_out (has_flags layout) (packed above e).heading (packed above e).bytes in
      let put = put_whole layout (packed above e).heading (packed above e).bytes all.0.short in
      let more = all_put es all.1 in (
        stream_some (relayed (log_frames layout) above) e es w put ∙ ap (λ v. w ++ v) more.0,
        spoken_some (relayed (log_frames layout) above) e es w put ∙ ap (λ (xs : List Entry). e ∷ xs) more.1,
      )

pub logs_are_played : LogsArePlayed
logs_are_played layout above base history pieces times dids h all is runs =
    let es = logged_packets above history in
    let put = all_put layout above base.site es all in
    let can = all_map (CanPlay layout above base.site) (CanHandOn base.site.definitions (targets_at base.site.interfaces 0)) (λ e c. c.hand) es all in
    let r = are_handed_on (log_frames layout) above base 0 es pieces [] times dids h can (append-nil _ ∙ (is ∙ sym put.0)) runs in
    let only = only_all (relayed (log_frames layout) above) es r.0 _ r.1 (is ∙ sym put.0) r.2 in
    r.3 ∙ (λ i. handed_history (has_flags layout) 0 times ((only.0 ∙ put.1) i) (length (only.1 i)))

-- ---- the site in which it is played

among_all : (test : List ℕ → Bool) (interfaces : List InterfaceData) (by : ℕ) → list_any test (targets_at interfaces by) ≡ true → list_any test (targets_of interfaces) ≡ true
among_all test [] by t = t
among_all test (i ∷ interfaces) zero t = list_any-append test i.targets (targets_of interfaces) ∙ ap (λ (b : Bool). b || list_any test (targets_of interfaces)) t
among_all test (i ∷ interfaces) (suc by) t = list_any-append test i.targets (targets_of interfaces) ∙ or_later (list_any test i.targets) (list_any test (targets_of interfaces)) (among_all test interfaces by t)
  where
    or_later : (a b : Bool) → b ≡ true → (a || b) ≡ true
    or_later true b h = refl
    or_later false b h = h

pub all_play_logs : AllPlayLogs
all_play_logs layout site = record {
  hears = λ names. record { few = omega arith; is_interface = refl; chain = refl; definitions = refl; names = names };
  targets = λ name. refl;
  each = λ by name t. among_all (is_same name) site.interfaces by t;
}

pub logs_are_played_there : LogsArePlayedThere
logs_are_played_there layout site history pieces times dids names all is runs =
    logs_are_played layout site (basis_of (played layout site)) history pieces times dids ((all_play_logs layout site).hears names) all is runs
