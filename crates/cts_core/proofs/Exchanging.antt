-- What a running core makes of what one of its connections takes or puts.
use Rattle.std.proofs.Common.{◌≡◌, ℕ, false, true, List, [], ◌∷◌, ◌++◌, set, Option, Some, None, Result, Ok, Err, OnErr, ◌<◌, length, get_or, sym, ◌∙◌, ap, subst}
use Rattle.std.specs.Prelude.{IfOk}
use Rattle.std.proofs.lemmas.List.{set-get_or}
use Rattle.cts_connection.specs.Connections.{HeldConnection, IsRenewed, connection_at, no_chain, shut}
use Rattle.cts_connection.specs.LinePlaces.{is_line, line_place}
use Rattle.cts_connection.specs.Postings.{Closes, Opens, Posts as ConnectionPosts, closed_of, end_of}
use Rattle.cts_connection.specs.Takings.{TakesPiece}
use Rattle.cts_connection.specs.Writings.{Wrote}
use Rattle.cts_def.specs.Sites.{SiteData}
use Rattle.cts_def.specs.declared.time.Time.{Time}
use Rattle.cts_entry.specs.declared.entry.Entry.{Entry}
use Rattle.cts_entry.specs.declared.why.Why.{Why}
use Rattle.cts_table.specs.States.{Shown}
use Rattle.cts_table.specs.declared.basis.Basis.{Basis}
use Rattle.cts_table.specs.declared.fault.HallFault.{HallFault}
use Rattle.cts_table.specs.declared.fault.HallFault.TheVariants.{Full as Crowded, Memory as Wanting}
use Rattle.cts_core.specs.Takings.{Begins, IsClosed, Posts, Takes, lost, told_as}
use Rattle.cts_core.specs.Worlds.{Held, IsSoundHeld, connection_of, held_with, with_connection}
use Rattle.cts_core.specs.Writings.{PutsNext}
use Rattle.cts_core.proofs.Holding.{held_at, sound_taken}

-- this is the connection of a line, at its place
pub record IsAt (w : Held) (by place : ℕ) (c : HeldConnection) : Type 0 where
  pub at : place ≡ line_place w.basis.site by
  pub there : place < length w.connections
  pub held : connection_at w.connections place ≡ c

pub found : (w x : Held) (by place : ℕ) (c : HeldConnection) → w ≡ x → place ≡ line_place x.basis.site by → place < length x.connections → c ≡ get_or w.connections place c → IsAt w by place c
found w x by place c same at there held =
    let within = subst (λ (y : Held). place < length y.connections) (sym same) there in
    record { at = at ∙ ap (λ (y : Held). line_place y.basis.site by) (sym same); there = within; held = held_at w.connections place c within held }

pub connection_is : (w : Held) (by place : ℕ) (c : HeldConnection) → IsAt w by place c → connection_of w by ≡ c
connection_is w by place c f = ap (λ (p : ℕ). connection_at w.connections p) (sym f.at) ∙ f.held

module _ (w : Held) (by place : ℕ) (old new : HeldConnection) (f : IsAt w by place old) where
  -- what is held with the connection in its place
  abbrev pub exchanged : Held
  exchanged = record w { connections = set w.connections place new }

  exchanged_is : with_connection by w new ≡ exchanged
  exchanged_is = ap (λ (p : ℕ). record w { connections = set w.connections p new }) (sym f.at)

  held_is : connection_of w by ≡ old
  held_is = connection_is w by place old f

  -- the connection stands as before
  pub sound_exchanged : IsSoundHeld w → is_line w.basis.site by ≡ true → new.connected ≡ old.connected → IsSoundHeld exchanged
  sound_exchanged sound line same = subst IsSoundHeld exchanged_is (sound_taken w by new sound line (same ∙ ap (λ (c : HeldConnection). c.connected) (sym held_is)))

  -- a piece went through its chain
  pub takes_is : {T E : Type 0} (entries : T → List Entry) (unposted : T → ℕ) (why : T → Option Why) (result : Result T E) (piece : List ℕ) → new.connected ≡ old.connected → new.cursor ≡ old.cursor
      → IfOk result (λ t. TakesPiece w.basis.site w.history by w.time old.chain piece (entries t) (unposted t) (why t) new.chain) → IfOk result (λ t. Takes by w piece (entries t) (unposted t) (why t) exchanged)
  takes_is entries unposted why (Err e) piece connected cursor h = tt
  takes_is entries unposted why (Ok t) piece connected cursor h = (
    new,
    connected ∙ ap (λ (c : HeldConnection). c.connected) (sym held_is),
    cursor ∙ ap (λ (c : HeldConnection). c.cursor) (sym held_is),
    subst (λ (c : HeldConnection). TakesPiece w.basis.site w.history by w.time c.chain piece (entries t) (unposted t) (why t) new.chain) (sym held_is) h,
    sym exchanged_is,
  )

  -- it has put what is for its peer, or not
  pub wrote_stands : {T E : Type 0} (bytes : T → List ℕ) (result : Result T E) (site : SiteData) (history : List Entry) (next : ℕ) → IfOk result (λ t. Wrote site by old history next (bytes t) new) → OnErr result (new ≡ old) → new.connected ≡ old.connected
  wrote_stands bytes (Ok t) site history next ok err = ap (λ (c : HeldConnection). c.connected) ok.new_is
  wrote_stands bytes (Err e) site history next ok err = ap (λ (c : HeldConnection). c.connected) err

  pub puts_is : {T E : Type 0} (bytes : T → List ℕ) (result : Result T E) (next : ℕ) → IfOk result (λ t. Wrote w.basis.site by old w.history next (bytes t) new) → IfOk result (λ t. PutsNext by w next (bytes t) exchanged)
  puts_is bytes (Err e) next h = tt
  puts_is bytes (Ok t) next h = (new, subst (λ (c : HeldConnection). Wrote w.basis.site by c w.history next (bytes t) new) (sym held_is) h, sym exchanged_is)

-- ---- what a connection appends

module _ (time : Time) (k new : Shown) (cs : List HeldConnection) (by place : ℕ) (c d : HeldConnection) (f : IsAt (held_with time k cs) by place c) where
  -- nothing is changed
  kept : new ≡ k → d ≡ c → held_with time new (set cs place d) ≡ held_with time k cs
  kept same stays = λ i. held_with time (same i) ((ap (λ (x : HeldConnection). set cs place x) (stays ∙ sym f.held) ∙ set-get_or cs place (shut no_chain)) i)

  its_own : connection_of (held_with time k cs) by ≡ c
  its_own = connection_is (held_with time k cs) by place c f

  -- the connection is opened, or not
  pub begins_is : (result : Result (Unit {0}) HallFault) → Opens by time k c result new d → Begins by (held_with time k cs) (told_as result) (held_with time new (set cs place d))
  begins_is (Ok tt) o = (o.0, (d, subst (λ (x : HeldConnection). IsRenewed true x d) (sym its_own) o.2, o.3, λ i. record { basis = o.1.basis i; time = time; history = o.1.entries i; connections = set cs (f.at i) d }))
  begins_is (Err (Crowded counted size)) o = (o.0, o.1, o.2, kept o.3 o.4)
  begins_is (Err Wanting) o = (o.0, kept o.1 o.2)

  -- it is closed
  pub closes_is : (why : Why) → Closes by time k c why 0 new d → IsClosed by (held_with time k cs) why (held_with time new (set cs place d))
  closes_is why o =
      let entry : closed_of by time k c why 0 ≡ lost k.basis.site by time k.entries (connection_of (held_with time k cs) by) why = ap (λ (x : HeldConnection). lost k.basis.site by time k.entries x why) (sym its_own) in
      let grown = o.grown.entries ∙ ap (λ (e : Entry). k.entries ++ e ∷ []) entry in (
        d,
        subst (λ (x : HeldConnection). IsRenewed false x d) (sym its_own) o.renewed,
        λ i. record { basis = o.grown.basis i; time = time; history = grown i; connections = set cs (f.at i) d },
      )

-- packets are posted, or not
pub posts_is : (time : Time) (k new : Shown) (cs : List HeldConnection) (by place : ℕ) (c d : HeldConnection) → IsAt (held_with time k cs) by place c → (entries : List Entry) (why : Option Why) (result : Result (Unit {0}) HallFault)
    → ConnectionPosts by time k c entries (end_of 0 why) result new d → Posts by (held_with time k cs) entries why (told_as result) (held_with time new (set cs place d))
posts_is time k new cs by place c d f entries None (Ok tt) p =
    let g = p.1.1 in
    let ends = p.1.2 in
    let there : IsAt (held_with time p.1.0 cs) by place c = record { at = f.at ∙ ap (λ (b : Basis). line_place b.site by) (sym g.basis); there = f.there; held = f.held } in
    (p.0, kept time p.1.0 new cs by place c d there ends.0 ends.1 ∙ (λ i. record { basis = g.basis i; time = time; history = g.entries i; connections = cs }))
posts_is time k new cs by place c d f entries (Some why) (Ok tt) p =
    let g = p.1.1 in
    let there : IsAt (held_with time p.1.0 cs) by place c = record { at = f.at ∙ ap (λ (b : Basis). line_place b.site by) (sym g.basis); there = f.there; held = f.held } in
    let closed = closes_is time p.1.0 new cs by place c d there why p.1.2 in
    (p.0, subst (λ (x : Held). IsClosed by x why (held_with time new (set cs place d))) (λ i. record { basis = g.basis i; time = time; history = g.entries i; connections = cs }) closed)
posts_is time k new cs by place c d f entries why (Err (Crowded counted size)) p = (p.0, p.1, p.2, kept time k new cs by place c d f p.3 p.4)
posts_is time k new cs by place c d f entries why (Err Wanting) p = (p.0, kept time k new cs by place c d f p.1 p.2)
