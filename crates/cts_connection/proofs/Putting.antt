-- What is put of the next entries of a history.
use Rattle.std.proofs.Common.{◌≡◌, ℕ, zero, suc, ◌+◌, ◌-◌, ◌<◌, ◌≤◌, Bool, true, false, List, [], ◌∷◌, ◌++◌, length, take, drop, sym, ◌∙◌, ap, subst, arith, append_assoc, Option, Some, None}
use Rattle.std.specs.Prelude.{MatchOption, if◌then◌else◌, slice_get}
use Rattle.std.proofs.lemmas.List.{length-take-le}
use Rattle.cts_def.specs.Protocols.{SpecData}
use Rattle.cts_def.specs.Sites.{SiteData}
use Rattle.cts_entry.specs.declared.entry.Entry.{Entry}
use Rattle.cts_entry.specs.Queues.{refused, spelled}
use Rattle.cts_entry.proofs.Queuing.{spelled-append, refused-append}
use Rattle.cts_entry.specs.Workers.{is_interface}
use Rattle.cts_entry.proofs.Walks.{drop_lent}
use Rattle.cts_table.specs.Keeping.{AllOfSite, IsOfSite}
use Rattle.cts_trace.specs.Routing.{queue, walk}
use Rattle.cts_trace.proofs.Walks.{queue-append}
use Rattle.cts_connection.specs.Connections.{HoldsNext}
use Rattle.cts_connection.specs.Routings.{site_routing}
use Rattle.cts_connection.specs.Writings.{Puts, spell_by}

-- ---- entries of the site

pub of_site_drop : (site : SiteData) (n : ℕ) (before es : List Entry) → AllOfSite site before es → (b : List Entry) × AllOfSite site b (drop n es)
of_site_drop site zero before es h = (before, h)
of_site_drop site (suc n) before [] h = (before, tt)
of_site_drop site (suc n) before (e ∷ es) h = of_site_drop site n (before ++ e ∷ []) es h.1

-- what is lent at a place is of the site
pub of_site_at : (site : SiteData) (n : ℕ) (h : List Entry) (e : Entry) → AllOfSite site [] h → slice_get h n ≡ Some e → (b : List Entry) × IsOfSite site b e
of_site_at site n h e all is = let rest = of_site_drop site n [] h all in (rest.0, (subst (AllOfSite site rest.0) (drop_lent h n e is) rest.1).0)

-- ---- entries one after another

-- of the entries up to a place, what is lent stands first
pub stretch_lent : (h : List Entry) (n until : ℕ) (e : Entry) → n < until → slice_get h n ≡ Some e → take (until - n) (drop n h) ≡ e ∷ take (until - (n + 1)) (drop (n + 1) h)
stretch_lent h n until e below is =
    let one : until - n ≡ suc (until - (n + 1)) = omega arith in
    ap (λ (k : ℕ). take k (drop n h)) one ∙ ap (λ (l : List Entry). take (suc (until - (n + 1))) l) (drop_lent h n e is)

module _ (site : SiteData) (specs : List SpecData) (by : ℕ) where
  -- the next entry is put, and the others follow
  pub bytes_more : (e : Entry) (es : List Entry) (old new all : List ℕ) (count : ℕ) → Puts site specs by (e ∷ []) old new count → old ++ spelled (spell_by site specs) (queue (site_routing site) by (e ∷ es)) ≡ all
      → new ++ spelled (spell_by site specs) (queue (site_routing site) by es) ≡ all
  bytes_more e es old new all count p h =
      let mine = queue (site_routing site) by in
      let first = spelled (spell_by site specs) (mine (e ∷ [])) in
      let rest = spelled (spell_by site specs) (mine es) in
      let both : spelled (spell_by site specs) (mine (e ∷ es)) ≡ first ++ rest = ap (spelled (spell_by site specs)) (queue-append (site_routing site) by (e ∷ []) es) ∙ spelled-append (spell_by site specs) (mine (e ∷ [])) (mine es) in
      ap (λ (l : List ℕ). l ++ rest) p.bytes ∙ (append_assoc old first rest ∙ (ap (λ (l : List ℕ). old ++ l) (sym both) ∙ h))

  pub count_more : (e : Entry) (es : List Entry) (old new : List ℕ) (sofar count all : ℕ) → Puts site specs by (e ∷ []) old new count → sofar + refused (spell_by site specs) (queue (site_routing site) by (e ∷ es)) ≡ all
      → (sofar + count) + refused (spell_by site specs) (queue (site_routing site) by es) ≡ all
  count_more e es old new sofar count all p h =
      let mine = queue (site_routing site) by in
      let both : refused (spell_by site specs) (mine (e ∷ es)) ≡ refused (spell_by site specs) (mine (e ∷ [])) + refused (spell_by site specs) (mine es) =
      ap (refused (spell_by site specs)) (queue-append (site_routing site) by (e ∷ []) es) ∙ refused-append (spell_by site specs) (mine (e ∷ [])) (mine es) in
      omega (arith, both, h, p.count_is)

-- ---- which entries are the next ones

-- an interface goes through its queue, a slot through all entries
pub walk_queue : (site : SiteData) (by : ℕ) (entries : List Entry) → is_interface site by ≡ true → walk (site_routing site) by entries ≡ queue (site_routing site) by entries
walk_queue site by entries on = ap (λ (b : Bool). if b then queue (site_routing site) by entries else entries) on

pub walk_all : (site : SiteData) (by : ℕ) (entries : List Entry) → is_interface site by ≡ false → walk (site_routing site) by entries ≡ entries
walk_all site by entries off = ap (λ (b : Bool). if b then queue (site_routing site) by entries else entries) off

-- a number of commands of an interface
pub next_command : (site : SiteData) (by : ℕ) (entries : List Entry) (count : ℕ) (next : Option ℕ) → is_interface site by ≡ true
    → MatchOption next (length (queue (site_routing site) by entries) < count) (λ n. (n ≤ length entries) × (length (queue (site_routing site) by (take n entries)) ≡ count)) → HoldsNext site by entries count next
next_command site by entries count None on h = subst (λ (l : List Entry). length l < count) (sym (walk_queue site by entries on)) h
next_command site by entries count (Some n) on h = (h.0, ap length (walk_queue site by (take n entries) on) ∙ h.1)

-- a number of entries of a slot
pub next_entry : (site : SiteData) (by : ℕ) (entries : List Entry) (count : ℕ) (next : Option ℕ) → is_interface site by ≡ false
    → MatchOption next (length entries < count) (λ n. (n ≡ count) × (n ≤ length entries)) → HoldsNext site by entries count next
next_entry site by entries count None off h = subst (λ (l : List Entry). length l < count) (sym (walk_all site by entries off)) h
next_entry site by entries count (Some n) off h = (h.1, ap length (walk_all site by (take n entries) off) ∙ (length-take-le n entries h.1 ∙ h.0))
