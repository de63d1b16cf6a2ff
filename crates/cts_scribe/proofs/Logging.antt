-- Logs of more entries.
use Rattle.std.proofs.Common.{◌≡◌, ℕ, Bool, true, false, ◌&&◌, List, [], ◌∷◌, ◌++◌, sym, refl, ap, ◌∙◌, append_assoc, append-nil, Option}
use Rattle.std.specs.List.{filter, flat_map}
use Rattle.std.specs.Prelude.{map}
use Rattle.std.proofs.lemmas.List.{map-append}
use Rattle.std.proofs.lemmas.List.Concat.{flat_map-cons}
use Rattle.std.proofs.lemmas.List.Elements.{filter-append}
use Rattle.cts_def.specs.Sites.{SiteData}
use Rattle.cts_def.specs.declared.time.Time.{Time}
use Rattle.cts_entry.specs.declared.entry.Entry.{Entry}
use Rattle.cts_entry.specs.Histories.{bytes_of, stored_of}
use Rattle.cts_framing.specs.Layouts.{has_flags}
use Rattle.cts_log_batch.proofs.Growing.{commands_grow, packets_grow}
use Rattle.cts_log_batch.specs.Laying.{names}
use Rattle.cts_log.specs.Files.{log_file, log_head_len}
use Rattle.cts_log.specs.Logged.{entry_bytes, laid_out}
use Rattle.cts_log_parts.specs.Parts.{entry_len, log_parts}
use Rattle.cts_log_parts.proofs.Dividing.{one_group}
use Rattle.cts_outside.specs.declared.vault.LogKind.{LogKind}
use Rattle.cts_outside.specs.declared.vault.LogKind.TheVariants.{Tlm, Cmd}
use Rattle.cts_trace.specs.Routing.{heading_of}
use Rattle.cts_scribe.specs.Logs.{OnePartWithoutCycle, entries_log, file_kind, head_of, is_in_log, log, logged, logged_as}

-- an entry is laid out as what is read of it is
same_laid : (flagged : Bool) (names : List ℕ × List ℕ) (stored : Bool) (time : Time) (bytes : List ℕ)
    → laid_out flagged (heading_of names stored time) bytes ≡ laid_out flagged (heading_of names (flagged && stored) time) bytes
same_laid true names stored time bytes = refl
same_laid false names stored time bytes = refl

-- a log by the entries that stand in it
abbrev pub laid : LogKind → SiteData → List Entry → List ℕ
laid kind site entries = flat_map (λ e. entry_bytes (has_flags site.log_layout) (logged_as site e)) (filter (is_in_log kind site) entries)

pub log_laid : (kind : LogKind) (site : SiteData) (entries : List Entry) → entries_log kind site entries ≡ laid kind site entries
log_laid Tlm site entries =
    λ i. flat_map (λ (e : Entry). same_laid (has_flags site.log_layout) (names site e.what) (stored_of e.what) e.time (bytes_of e.what) i)
    (filter (is_in_log Tlm site) entries)
log_laid Cmd site entries =
    λ i. flat_map (λ (e : Entry). same_laid (has_flags site.log_layout) (names site e.what) (stored_of e.what) e.time (bytes_of e.what) i)
    (filter (is_in_log Cmd site) entries)

-- the log of more entries is the log, and then theirs
pub entries_more : (kind : LogKind) (site : SiteData) (xs ys : List Entry)
    → entries_log kind site (xs ++ ys) ≡ entries_log kind site xs ++ entries_log kind site ys
entries_more Tlm site xs ys = packets_grow site xs ys
entries_more Cmd site xs ys = commands_grow site xs ys

pub log_more : (kind : LogKind) (site : SiteData) (digest : List ℕ) (xs ys : List Entry)
    → log kind site digest (xs ++ ys) ≡ log kind site digest xs ++ entries_log kind site ys
log_more kind site digest xs ys =
    let head = head_of kind site digest in
    ap (λ l. head ++ l) (entries_more kind site xs ys) ∙ sym (append_assoc head (entries_log kind site xs) (entries_log kind site ys))

-- ---- entry by entry

single_in : (test : Entry → Bool) (e : Entry) → test e ≡ true → filter test (e ∷ []) ≡ e ∷ []
single_in test e is = rw is refl

single_out : (test : Entry → Bool) (e : Entry) → test e ≡ false → filter test (e ∷ []) ≡ []
single_out test e is = rw is refl

pub logged_more : (kind : LogKind) (site : SiteData) (xs ys : List Entry) → logged kind site (xs ++ ys) ≡ logged kind site xs ++ logged kind site ys
logged_more kind site xs ys =
    ap (map (logged_as site)) (filter-append (is_in_log kind site) xs ys)
    ∙ map-append (logged_as site) (filter (is_in_log kind site) xs) (filter (is_in_log kind site) ys)

module _ (kind : LogKind) (site : SiteData) (xs : List Entry) (e : Entry) where
  -- an entry that stands in the log
  pub logged_in : is_in_log kind site e ≡ true → logged kind site (xs ++ e ∷ []) ≡ logged kind site xs ++ logged_as site e ∷ []
  logged_in is = logged_more kind site xs (e ∷ [])
      ∙ ap (λ (l : List Entry). logged kind site xs ++ map (logged_as site) l) (single_in (is_in_log kind site) e is)

  -- and one that does not
  pub logged_out : is_in_log kind site e ≡ false → logged kind site (xs ++ e ∷ []) ≡ logged kind site xs
  logged_out is =
      logged_more kind site xs (e ∷ []) ∙ ap (λ (l : List Entry). logged kind site xs ++ map (logged_as site) l) (single_out (is_in_log kind site) e is)
      ∙ append-nil (logged kind site xs)

module _ (kind : LogKind) (site : SiteData) (e : Entry) where
  pub gives_in : is_in_log kind site e ≡ true → entries_log kind site (e ∷ []) ≡ entry_bytes (has_flags site.log_layout) (logged_as site e)
  gives_in is =
      log_laid kind site (e ∷ [])
      ∙ ap (λ (l : List Entry). flat_map (λ x. entry_bytes (has_flags site.log_layout) (logged_as site x)) l) (single_in (is_in_log kind site) e is)
      ∙ append-nil (entry_bytes (has_flags site.log_layout) (logged_as site e))

  pub gives_out : is_in_log kind site e ≡ false → entries_log kind site (e ∷ []) ≡ []
  gives_out is =
      log_laid kind site (e ∷ [])
      ∙ ap (λ (l : List Entry). flat_map (λ x. entry_bytes (has_flags site.log_layout) (logged_as site x)) l) (single_out (is_in_log kind site) e is)

-- ---- one part

-- a log is the file of its entries
all_mapped : (site : SiteData) (es : List Entry)
    → flat_map (λ e. entry_bytes (has_flags site.log_layout) (logged_as site e)) es
    ≡ flat_map (entry_bytes (has_flags site.log_layout)) (map (logged_as site) es)
all_mapped site [] = refl
all_mapped site (e ∷ es) =
    flat_map-cons (λ x. entry_bytes (has_flags site.log_layout) (logged_as site x)) e es
    ∙ ap (λ l. entry_bytes (has_flags site.log_layout) (logged_as site e) ++ l) (all_mapped site es)
    ∙ sym (flat_map-cons (entry_bytes (has_flags site.log_layout)) (logged_as site e) (map (logged_as site) es))

pub log_is_file : (kind : LogKind) (site : SiteData) (digest : List ℕ) (entries : List Entry)
    → log kind site digest entries ≡ log_file (file_kind kind) (has_flags site.log_layout) digest (logged kind site entries)
log_is_file kind site digest entries =
    ap (λ l. head_of kind site digest ++ l) (log_laid kind site entries ∙ all_mapped site (filter (is_in_log kind site) entries))

pub one_part : OnePartWithoutCycle
one_part kind site digest entries none =
    ap (λ (cycle : Option ℕ). log_parts (file_kind kind) (has_flags site.log_layout) digest cycle (logged kind site entries)) none
    ∙ ap (map (log_file (file_kind kind) (has_flags site.log_layout) digest))
    (one_group (entry_len (has_flags site.log_layout)) log_head_len (logged kind site entries))
    ∙ ap (λ (l : List ℕ). l ∷ []) (sym (log_is_file kind site digest entries))
