-- What a look at the history leaves, and the logs after it.
use Rattle.std.proofs.Common.{◌≡◌, ◌∷◌, [], ◌++◌, ℕ, ◌≤◌, Bool, true, false, ◌||◌, ◌==◌, List, length, length-append, take, refl, sym, ◌∙◌, ap, subst}
use Rattle.std.proofs.Common.{arith, append_assoc, append-nil, inr, Option, Result, Ok, Err}
use Rattle.std.proofs.lemmas.List.{take-append-le, take_all}
use Rattle.cts_def.specs.Sites.{SiteData}
use Rattle.cts_entry.specs.declared.entry.Entry.{Entry}
use Rattle.cts_entry.specs.Legal.{has_ended}
use Rattle.cts_entry.specs.Workers.{is_desk, is_interface, is_slot, is_worker}
use Rattle.cts_log_parts.specs.Grouping.{joined}
use Rattle.cts_log_parts.specs.Growths.{CutsData, cut_growth}
use Rattle.cts_outside.specs.Vaults.{Logs}
use Rattle.cts_outside.specs.declared.sink.PutFailed.{PutFailed}
use Rattle.cts_outside.specs.declared.vault.LogKind.{LogKind}
use Rattle.cts_outside.specs.declared.vault.LogKind.TheVariants.{Tlm, Cmd}
use Rattle.cts_base.specs.declared.memory.Memory.{Memory}
use Rattle.cts_table.specs.States.{Shown}
use Rattle.cts_table.specs.declared.basis.Basis.{Basis}
use Rattle.cts_trace.specs.Makers.{of_maker}
use Rattle.cts_trace.proofs.Others.{of_maker_append, strange_ended}
use Rattle.cts_turn.specs.declared.rule.View.{View}
use Rattle.cts_turn.specs.Lists.{StartsWith, has}
use Rattle.cts_worker.proofs.Lasting.{last_by}
use Rattle.cts_worker.specs.Holds.{Adds, Held, InHold, Onward}
use Rattle.cts_worker.specs.Lasts.{MayEnd, first_moment, last_entries}
use Rattle.cts_worker.specs.declared.progress.Progress.{Progress}
use Rattle.cts_scribe.specs.declared.cycles.Cycles.{Cycles}
use Rattle.cts_scribe.specs.declared.growth.Growth.{Growth}
use Rattle.cts_scribe.specs.declared.heads.Heads.{Heads}
use Rattle.cts_scribe.specs.declared.sight.Sight.{Sight}
use Rattle.cts_scribe.specs.declared.sight.Sight.TheVariants.{More, Still, Drained}
use Rattle.cts_scribe.specs.Following.{Following, IsDrained, Lays, Sees}
use Rattle.cts_worker.specs.Followed.{EndedTell, Follows, HaveEnded}
use Rattle.cts_scribe.specs.Growing.{AreHeads, Count, Gives}
use Rattle.cts_scribe.specs.Logs.{head_of, parts}
use Rattle.cts_scribe.specs.Vaults.{AreWhole, IsLeft, LogsSo, PutsBoth}

-- ---- what was seen grows

pub take_kept : {A : Type 0} (xs ys : List A) (n : ℕ) → n ≤ length xs → StartsWith ys xs → take n ys ≡ take n xs
take_kept xs ys n le begins = ap (take n) begins.1 ∙ take-append-le n xs begins.0 le

within_more : {A : Type 0} (xs ys : List A) (n : ℕ) → n ≤ length xs → StartsWith ys xs → n ≤ length ys
within_more xs ys n le begins =
    let a : length ys ≡ length (xs ++ begins.0) = ap length begins.1 in
    let b = length-append xs begins.0 in
    omega (arith, le, a, b)

pub follows_more : (p : Progress) (old new : List Entry) → StartsWith new old → Follows p old → Follows p new
follows_more p old new begins f = record {
  within = within_more old new p.place f.within begins;
  ended = subst (EndedTell p.ended) (sym (take_kept old new p.place f.within begins)) f.ended;
}

-- ---- a scribe may end

or_true : (a : Bool) → (a || true) ≡ true
or_true true = refl
or_true false = refl

scribe_works : (site : SiteData) (by : ℕ) → by ≡ 28 → is_worker site by ≡ true
scribe_works site by is = ap (is_worker site) is ∙ or_true (is_interface site 28 || is_slot site 28 || is_desk site 28)

pub silent_active : (by : ℕ) (seen : List Entry) → of_maker by seen ≡ [] → has_ended by seen ≡ false
silent_active by seen none = strange_ended by seen none

pub may_end : (site : SiteData) (by : ℕ) (seen : List Entry) → by ≡ 28 → of_maker by seen ≡ [] → MayEnd site by seen
may_end site by seen is none = record {
  worker = scribe_works site by is;
  active = silent_active by seen none;
  off = inr (ap (λ m. is_desk site m || (m == 28)) is ∙ or_true (is_desk site 28));
}

-- ---- a look

pub silent_more : (by : ℕ) (seen others : List Entry) → of_maker by seen ≡ [] → of_maker by others ≡ [] → of_maker by (seen ++ others) ≡ []
silent_more by seen others none strange = of_maker_append by seen others ∙ ap (λ l. l ++ of_maker by others) none ∙ strange

module _ {G : Type 0} (by : ℕ) (old new : View Entry G) (s t : Shown) (held : Held by old new s t) where
  pub held_starts : StartsWith s.entries old.seen
  held_starts = (held.others, held.began)

  pub held_silent : of_maker by old.seen ≡ [] → of_maker by s.entries ≡ []
  held_silent none = ap (of_maker by) held.began ∙ silent_more by old.seen held.others none held.strange

  -- a look after which the scribe goes on
  pub looked : (p q : Progress) → t.entries ≡ s.entries → Following by old p → Follows q s.entries → Following by new q
  looked p q same f follows = record {
    makers = ap (has by) held.makers ∙ f.makers;
    silent = ap (of_maker by) (held.seen ∙ same) ∙ held_silent f.silent;
    follows = subst (Follows q) (sym (held.seen ∙ same)) follows;
  }

-- some holds of a pass in which what stood before stands after
pub held_onward : {G : Type 0} (by : ℕ) (old new : View Entry G) (s t : Shown) → Held by old new s t → StartsWith t.entries s.entries → Onward old new
held_onward by old new s t held more = record {
  makers = held.makers;
  seen = (held.others ++ more.0, held.seen ∙ more.1 ∙ ap (λ l. l ++ more.0) held.began ∙ append_assoc old.seen held.others more.0);
  found = (length s.entries ∷ [], held.found);
}

-- ---- drained

pub drained_at : (site : SiteData) (by : ℕ) (p : Progress) (entries : List Entry) → p.place ≡ length entries → HaveEnded site by (take p.place entries)
    → IsDrained site by p.place entries
drained_at site by p entries last others = record { last = last; others = subst (HaveEnded site by) (take_all p.place entries (omega (arith, last))) others }

pub drained_others : (site : SiteData) (by : ℕ) (p : Progress) (entries : List Entry) → IsDrained site by p.place entries
    → HaveEnded site by (take p.place entries)
drained_others site by p entries d = subst (HaveEnded site by) (sym (take_all p.place entries (let e = d.last in omega (arith, e)))) d.others

-- ---- the logs

given_is : (kind : LogKind) (site : SiteData) (digest : List ℕ) (entries : List Entry) (from to : ℕ) (bytes head : List ℕ) (cuts : CutsData)
    → head ≡ head_of kind site digest → Gives kind site entries from to bytes cuts
    → joined (parts kind site digest (take from entries)) (cut_growth head cuts.places bytes) ≡ parts kind site digest (take to entries)
given_is kind site digest entries from to bytes head cuts is g =
    ap (λ (h : List ℕ). joined (parts kind site digest (take from entries)) (cut_growth h cuts.places bytes)) is ∙ g.grown digest

-- what a look gave is put to logs that were whole
abbrev pub PutsGrowths : Heads → Growth → Option Logs → Option Logs → Result (Unit {0}) PutFailed → Type 0
PutsGrowths heads growth old new result =
    PutsBoth old new (cut_growth heads.tlm growth.tlm.places growth.batch.tlm.items) (cut_growth heads.cmd growth.cmd.places growth.batch.cmd.items) result

pub logs_put : (site : SiteData) (digest : List ℕ) (entries : List Entry) (p q : Progress) (heads : Heads) (growth : Growth) (old new : Option Logs)
    (result : Result (Unit {0}) PutFailed)
    → AreHeads site digest heads → Lays site entries p q growth → PutsGrowths heads growth old new result → AreWhole site digest (take p.place entries) old
    → LogsSo (IsLeft result) (parts Tlm site digest (take q.place entries)) (parts Cmd site digest (take q.place entries)) new
logs_put site digest entries p q heads growth old new result are lays puts whole =
    let before = take p.place entries in
    let tlm = cut_growth heads.tlm growth.tlm.places growth.batch.tlm.items in
    subst (λ t. LogsSo (IsLeft result) t (parts Cmd site digest (take q.place entries)) new)
    (given_is Tlm site digest entries p.place q.place growth.batch.tlm.items heads.tlm growth.tlm are.tlm lays.gives.tlm)
    (subst (λ c. LogsSo (IsLeft result) (joined (parts Tlm site digest before) tlm) c new)
    (given_is Cmd site digest entries p.place q.place growth.batch.cmd.items heads.cmd growth.cmd are.cmd lays.gives.cmd)
    (puts (parts Tlm site digest before) (parts Cmd site digest before) whole))

-- ---- a look at the hall, in a hold

-- a look adds entries of the scribe alone
pub sees_adds : (site : SiteData) (by : ℕ) (s t : Shown) (p q : Progress) (d : Cycles) (sight : Result Sight Memory) → t.basis ≡ s.basis
    → Sees site by s.entries p sight t.entries q d → Adds by s t
sees_adds site by s t p q d (Ok (More growth)) base sees = (base, ([], sees.0 ∙ sym (append-nil s.entries), tt))
sees_adds site by s t p q d (Ok Still) base sees = (base, ([], sees.0 ∙ sym (append-nil s.entries), tt))
sees_adds site by s t p q d (Ok Drained) base sees = (base, (last_entries false by first_moment s.entries, sees.0, last_by by first_moment false s.entries))
sees_adds site by s t p q d (Err m) base sees = (base, ([], sees.0 ∙ sym (append-nil s.entries), tt))

-- what a look leaves in the view of a pass
abbrev pub Looked : {G : Type 0} → SiteData → Basis → ℕ → View Entry G → View Entry G → Progress → Result Sight Memory → Progress → Cycles → Type 0
Looked site base by old new p sight q d = InHold base by old new (λ s t. Sees site by s.entries p sight t.entries q d)

module _ {G : Type 0} (site : SiteData) (base : Basis) (by : ℕ) (old new : View Entry G) (p q : Progress) (d : Cycles) where
  pub looked_onward : (sight : Result Sight Memory) → Looked site base by old new p sight q d → Onward old new
  looked_onward sight (s, t, b, held, sees) =
      let adds = sees_adds site by (record s { basis = base }) (record t { basis = base }) p q d sight refl sees in
      held_onward by old new s t held (adds.1.0, adds.1.1)

  pub looked_more : (growth : Growth) → Following by old p → Looked site base by old new p (Ok (More growth)) q d → Following by new q
  looked_more growth f (s, t, b, held, sees) = looked by old new s t held p q sees.0 f sees.1.follows

  -- the cycles have counted what was followed
  pub counted_more : (growth : Growth) → Looked site base by old new p (Ok (More growth)) q d → Count site (take q.place new.seen) d
  counted_more growth (s, t, b, held, sees) = subst (λ (l : List Entry). Count site (take q.place l) d) (sym (held.seen ∙ sees.0)) sees.2

  pub counted_still : Looked site base by old new p (Ok Still) q d → Count site (take q.place new.seen) d
  counted_still (s, t, b, held, sees) = subst (λ (l : List Entry). Count site (take q.place l) d) (sym (held.seen ∙ sees.0)) sees.3

  -- and what is given is as long as its cuts say
  pub ends_more : (growth : Growth) → Looked site base by old new p (Ok (More growth)) q d → (growth.tlm.end ≤ length growth.batch.tlm.items)
      × (growth.cmd.end ≤ length growth.batch.cmd.items)
  ends_more growth (s, t, b, held, sees) = (omega (arith, sees.1.gives.tlm.end), omega (arith, sees.1.gives.cmd.end))

  unmoved : (s t : Shown) → Held by old new s t → t.entries ≡ s.entries → q ≡ p → Following by old p → Following by new q
  unmoved s t held same stays f =
      looked by old new s t held p q same f (subst (λ (x : Progress). Follows x s.entries) (sym stays)
      (follows_more p old.seen s.entries (held_starts by old new s t held) f.follows))

  pub looked_still : Following by old p → Looked site base by old new p (Ok Still) q d → Following by new q
  looked_still f (s, t, b, held, sees) = unmoved s t held sees.0 sees.1 f

  pub looked_wanting : (m : Memory) → Following by old p → Looked site base by old new p (Err m) q d → Following by new q
  looked_wanting m f (s, t, b, held, sees) = unmoved s t held sees.0 sees.1 f

  -- the logs after it, where nothing was laid out
  pub whole_after : (digest : List ℕ) (told : Option Logs) → q ≡ p → Onward old new → Following by old p → AreWhole site digest (take p.place old.seen) told
      → AreWhole site digest (take q.place new.seen) told
  whole_after digest told stays on f whole =
      subst (λ l. AreWhole site digest l told)
      (sym (ap (λ (x : Progress). take x.place new.seen) stays ∙ take_kept old.seen new.seen p.place f.follows.within on.seen)) whole

  -- and where that was put
  pub put_after : (digest : List ℕ) (heads : Heads) (growth : Growth) (before after : Option Logs) (result : Result (Unit {0}) PutFailed)
      → AreHeads site digest heads → Looked site base by old new p (Ok (More growth)) q d → Following by old p
      → PutsGrowths heads growth before after result → AreWhole site digest (take p.place old.seen) before
      → LogsSo (IsLeft result) (parts Tlm site digest (take q.place new.seen)) (parts Cmd site digest (take q.place new.seen)) after
  put_after digest heads growth before after result are (s, t, b, held, sees) f puts whole =
      let kept : take p.place s.entries ≡ take p.place old.seen = take_kept old.seen s.entries p.place f.follows.within (held_starts by old new s t held) in
      let start = subst (λ l. AreWhole site digest l before) (sym kept) whole in
      subst (λ l. LogsSo (IsLeft result) (parts Tlm site digest (take q.place l)) (parts Cmd site digest (take q.place l)) after) (sym (held.seen ∙ sees.0))
      (logs_put site digest s.entries p q heads growth before after result are sees.1 puts start)

  pub wanting_whole : (m : Memory) (digest : List ℕ) (told : Option Logs) → Looked site base by old new p (Err m) q d → Following by old p
      → AreWhole site digest (take p.place old.seen) told → AreWhole site digest (take q.place new.seen) told
  wanting_whole m digest told (s, t, b, held, sees) f whole = whole_after digest told sees.1 (looked_onward (Err m) (s, t, b, held, sees)) f whole
