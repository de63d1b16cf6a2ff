-- The logs of entries, one after the other.
use Rattle.std.proofs.Common.{◌≡◌, ℕ, ◌<◌, List, [], ◌∷◌, ◌++◌, drop, zero, suc, sym, ◌∙◌, ap, arith, append_assoc}
use Rattle.std.proofs.lemmas.List.Sums.{sum_by-cons}
use Rattle.cts_core.specs.Drainings.{site_commands_log, site_packets_log}
use Rattle.cts_def.specs.Sites.{SiteData}
use Rattle.cts_entry.specs.declared.entry.Entry.{Entry}
use Rattle.cts_entry.specs.Histories.{bytes_for, bytes_in}
use Rattle.cts_log_batch.proofs.Growing.{commands_grow, packets_grow}

module _ (site : SiteData) where
  pub packets_more : (e : Entry) (es : List Entry) (sofar new all : List ℕ) → new ≡ sofar ++ site_packets_log site (e ∷ []) → sofar ++ site_packets_log site (e ∷ es) ≡ all → new ++ site_packets_log site es ≡ all
  packets_more e es sofar new all n h =
      ap (λ (l : List ℕ). l ++ site_packets_log site es) n ∙ (append_assoc sofar (site_packets_log site (e ∷ [])) (site_packets_log site es) ∙ (ap (λ (l : List ℕ). sofar ++ l) (sym (packets_grow site (e ∷ []) es)) ∙ h))

  pub commands_more : (e : Entry) (es : List Entry) (sofar new all : List ℕ) → new ≡ sofar ++ site_commands_log site (e ∷ []) → sofar ++ site_commands_log site (e ∷ es) ≡ all → new ++ site_commands_log site es ≡ all
  commands_more e es sofar new all n h =
      ap (λ (l : List ℕ). l ++ site_commands_log site es) n ∙ (append_assoc sofar (site_commands_log site (e ∷ [])) (site_commands_log site es) ∙ (ap (λ (l : List ℕ). sofar ++ l) (sym (commands_grow site (e ∷ []) es)) ∙ h))

-- ---- how many bytes

pub first_small : (e : Entry) (es : List Entry) (n : ℕ) → bytes_in (e ∷ es) < n → bytes_in (e ∷ []) < n
first_small e es n h = omega (arith, h, sum_by-cons (λ (x : Entry). bytes_for x.what) e es, sum_by-cons (λ (x : Entry). bytes_for x.what) e [])

pub rest_small : (e : Entry) (es : List Entry) (n : ℕ) → bytes_in (e ∷ es) < n → bytes_in es < n
rest_small e es n h = omega (arith, h, sum_by-cons (λ (x : Entry). bytes_for x.what) e es)

pub small_drop : (k n : ℕ) (es : List Entry) → bytes_in es < n → bytes_in (drop k es) < n
small_drop zero n es h = h
small_drop (suc k) n [] h = h
small_drop (suc k) n (e ∷ es) h = small_drop k n es (rest_small e es n h)
