-- What a line says is what its row says of its words.
use Rattle.std.proofs.Common.{◌≡◌, ◌∙◌, ℕ, ◌+◌, ◌-◌, ◌<◌, ◌≤◌, ℤ, pos, negsuc, Bool, true, false, ◌||◌, inl, inr, List, [], ◌∷◌, ◌++◌, length, take, drop, Option, Some, None, Result, Ok, Err, refl, sym, ap, arith, subst}
use Rattle.std.specs.Prelude.{codes, nat_lt, option_map, option_and_then, slice_get, IsTrue, if◌then◌else◌}
use Rattle.std.specs.Int.{is_negative}
use Rattle.std.specs.List.{position, AllByRecursion}
use Rattle.std.specs.Option.{option_or}
use Rattle.std.specs.Result.{result_ok}
use Rattle.std.specs.Str.{bytes_eq}
use Rattle.std.proofs.lemmas.Bool.Decides.{nat_tests}
use Rattle.std.proofs.lemmas.Slice.Eq.{bytes_eq-Decides}
use Rattle.std.proofs.lemmas.List.Quantifiers.{position-Some}
use Rattle.std.proofs.lemmas.Option.{slice_get-get_or}
use Rattle.std.proofs.lemmas.List.{map-append, take-append-drop}
use Rattle.hex.specs.Hex.{decode_of}
use Rattle.hex.specs.declared.error.FromHexError.{FromHexError}
use Rattle.cts_base.specs.Names.{in_upper_case, spells, upper}
use Rattle.cts_base.specs.Wholes.{whole_of}
use Rattle.cts_base.proofs.WholeLemmas.{writes_from_whole}
use Rattle.cts_def.specs.Sites.{InterfaceData, RouterData, SiteData}
use Rattle.cts_entry.specs.declared.event.Event.{Event}
use Rattle.cts_entry.specs.declared.event.Event.TheVariants as event
use Rattle.cts_entry.specs.declared.why.Why.{Why}
use Rattle.cts_entry.specs.declared.why.Why.TheVariants as why
use Rattle.cts_reader.specs.Words.{keyword_in, is_keyword}
use Rattle.cts_scriptread.specs.declared.form.Keyword.{Keyword}
use Rattle.cts_scriptread.specs.declared.form.Keyword.TheVariants as keyword
use Rattle.cts_scriptread.specs.Events.{time_at, time_in, opens_in, piece_in, finish_in, write_in, call_in, drain_of, drain_in, stop_in, event_of}
use Rattle.cts_scriptread.specs.Forms.{keywords, keyword_of, with_words}
use Rattle.cts_scriptread.specs.Lines.{IsLine, NamesInterface, NamesSlot, NamesMaker, WritesNumber, WritesCount, EndsBy, Says}
use Rattle.cts_scriptread.specs.Makers.{both, interface_named, router_named, side_of, slot_number, slot_named, maker_named}
use Rattle.cts_scriptread.specs.Scripts.{event_in}
use Rattle.cts_scriptread.specs.Words.{natural_in, number_of, count_of, is_piece_size, if_piece, piece_of, why_of, is_log}

-- ---- numbers

kept_one : (over : Bool) (m n : ℕ) → (if over then None else Some m) ≡ Some n → m ≡ n
kept_one true m n e = absurd cc
kept_one false m n e = cc

natural_is : (most n : ℕ) (z : ℤ) → natural_in most (Some z) ≡ Some n → z ≡ pos n
natural_is most n (pos m) e = ap pos (kept_one (is_negative (pos m) || nat_lt most m) m n e)
natural_is most n (negsuc m) e = absurd cc

natural_whole : (most n : ℕ) (o : Option ℤ) → natural_in most o ≡ Some n → o ≡ Some (pos n)
natural_whole most n None e = absurd cc
natural_whole most n (Some z) e = ap Some (natural_is most n z e)

within_one : (below over : Bool) (most m n : ℕ) → nat_lt most m ≡ over → (if below || over then None else Some m) ≡ Some n → n ≤ most
within_one true over most m n is e = absurd cc
within_one false true most m n is e = absurd cc
within_one false false most m n is e =
    let same : m ≡ n = cc in
    let least : m ≤ most = grind (arith, nat_tests) in
    omega (arith, same, least)

bounded : (most n : ℕ) (o : Option ℤ) → natural_in most o ≡ Some n → n ≤ most
bounded most n None e = absurd cc
bounded most n (Some (pos m)) e = within_one (is_negative (pos m)) (nat_lt most m) most m n refl e
bounded most n (Some (negsuc m)) e = absurd cc

pub number_written : (word : List ℕ) (n : ℕ) → number_of word ≡ Some n → WritesNumber word n
unfolding number_of
number_written word n e = (writes_from_whole word (pos n) (natural_whole 4294967295 n (whole_of word) e), bounded 4294967295 n (whole_of word) e)

pub count_written : (word : List ℕ) (n : ℕ) → count_of word ≡ Some n → WritesCount word n
unfolding count_of
count_written word n e = (writes_from_whole word (pos n) (natural_whole 18446744073709551615 n (whole_of word) e), bounded 18446744073709551615 n (whole_of word) e)

-- ---- makers

found : {X : Type 0} (p : X → Bool) (xs : List X) (n : ℕ) → position p xs ≡ Some n → (x : X) × (slice_get xs n ≡ Some x) × (p x ≡ true)
found p [] n e = absurd cc
found p (x ∷ xs) n e =
    let at = position-Some p (x ∷ xs) n x e in
    (_, slice_get-get_or (x ∷ xs) n x at.0, at.1)

pub interface_there : (site : SiteData) (word : List ℕ) (n : ℕ) → interface_named site word ≡ Some n → NamesInterface site word n
interface_there site word n e =
    let it = found (λ (i : InterfaceData). spells word i.name) site.interfaces n e in
    record { interface = it.0; there = it.1; spelled = (bytes_eq-Decides (in_upper_case word) it.0.name).0 it.2 }

-- which side an end is
side_is : (first second : Bool) (end : List ℕ) (side : ℕ) → bytes_eq end (codes "/0") ≡ first → bytes_eq end (codes "/1") ≡ second
    → (if first then Some 0 else if second then Some 1 else None) ≡ Some side → (side < 2) × (in_upper_case end ≡ 47 ∷ (48 + side) ∷ [])
side_is true second end side zero one e =
    let same : 0 ≡ side = cc in
    (rw (← same) (omega arith), rw (← same) (ap in_upper_case ((bytes_eq-Decides end (codes "/0")).0 zero)))
side_is false true end side zero one e =
    let same : 1 ≡ side = cc in
    (rw (← same) (omega arith), rw (← same) (ap in_upper_case ((bytes_eq-Decides end (codes "/1")).0 one)))
side_is false false end side zero one e = absurd cc

slot_of : (site : SiteData) (word name end : List ℕ) (n : ℕ) (s r : Option ℕ) → word ≡ name ++ end → side_of end ≡ s → router_named site name ≡ r
    → both slot_number s r ≡ Some n → NamesSlot site word n
slot_of site word name end n None r cut side router e = absurd cc
slot_of site word name end n (Some s) None cut side router e = absurd cc
slot_of site word name end n (Some s) (Some r) cut side router e =
    let it = found (λ (i : RouterData). spells name i.name) site.routers r router in
    let which = side_is (bytes_eq end (codes "/0")) (bytes_eq end (codes "/1")) end s refl refl side in
    let number : slot_number s r ≡ n = cc in
    record {
      router = it.0;
      place = r;
      side = s;
      there = it.1;
      two = which.0;
      number_is = sym number;
      spelled =
          ap in_upper_case cut ∙ map-append upper name end
          ∙ ap (λ (x : List ℕ). x ++ in_upper_case end) ((bytes_eq-Decides (in_upper_case name) it.0.name).0 it.2)
          ∙ ap (λ (x : List ℕ). it.0.name ++ x) which.1;
    }

pub slot_there : (site : SiteData) (word : List ℕ) (n : ℕ) → slot_named site word ≡ Some n → NamesSlot site word n
unfolding slot_named
slot_there site word n e =
    let at : ℕ = length word - 2 in
    slot_of site word (take at word) (drop at word) n (side_of (drop at word)) (router_named site (take at word)) (sym (take-append-drop at word)) refl refl e

either_there : (site : SiteData) (word : List ℕ) (n : ℕ) (i s : Option ℕ) → interface_named site word ≡ i → slot_named site word ≡ s → option_or i s ≡ Some n → NamesMaker site word n
either_there site word n None s none slot e = inr (slot_there site word n (slot ∙ e))
either_there site word n (Some i) s is slot e = inl (interface_there site word n (is ∙ e))

pub maker_there : (site : SiteData) (word : List ℕ) (n : ℕ) → maker_named site word ≡ Some n → NamesMaker site word n
maker_there site word n e = either_there site word n (interface_named site word) (slot_named site word) refl refl e

-- ---- fixed words

ends : (a b c d : Bool) (word : List ℕ) (w : Why) → bytes_eq word (codes "PEER") ≡ a → bytes_eq word (codes "READ") ≡ b → bytes_eq word (codes "WRITE") ≡ c → bytes_eq word (codes "STOP") ≡ d
    → (if a then Some why.PeerEnded else if b then Some why.ReadFault else if c then Some why.WriteFault else if d then Some why.Stopped else None) ≡ Some w → EndsBy w word
ends true b c d word w pa pb pc pd e = let same : why.PeerEnded ≡ w = cc in subst (λ (x : Why). EndsBy x word) same ((bytes_eq-Decides word (codes "PEER")).0 pa)
ends false true c d word w pa pb pc pd e = let same : why.ReadFault ≡ w = cc in subst (λ (x : Why). EndsBy x word) same ((bytes_eq-Decides word (codes "READ")).0 pb)
ends false false true d word w pa pb pc pd e = let same : why.WriteFault ≡ w = cc in subst (λ (x : Why). EndsBy x word) same ((bytes_eq-Decides word (codes "WRITE")).0 pc)
ends false false false true word w pa pb pc pd e = let same : why.Stopped ≡ w = cc in subst (λ (x : Why). EndsBy x word) same ((bytes_eq-Decides word (codes "STOP")).0 pd)
ends false false false false word w pa pb pc pd e = absurd cc

ends_by : (word : List ℕ) (w : Why) → why_of word ≡ Some w → EndsBy w word
ends_by word w e = ends (bytes_eq word (codes "PEER")) (bytes_eq word (codes "READ")) (bytes_eq word (codes "WRITE")) (bytes_eq word (codes "STOP")) word w refl refl refl refl e

-- ---- pieces

kept_piece : (few : Bool) (read bytes : List ℕ) → is_piece_size (length read) ≡ few → (if few then Some read else None) ≡ Some bytes → (read ≡ bytes) × IsTrue (is_piece_size (length bytes))
kept_piece true read bytes size e =
    let same : read ≡ bytes = cc in
    (same, subst (λ (b : List ℕ). IsTrue (is_piece_size (length b))) same size)
kept_piece false read bytes size e = absurd cc

piece_read : (r : Result (List ℕ) FromHexError) (bytes : List ℕ) → option_and_then if_piece (result_ok r) ≡ Some bytes → (r ≡ Ok bytes) × IsTrue (is_piece_size (length bytes))
piece_read (Err f) bytes e = absurd cc
piece_read (Ok read) bytes e = let it = kept_piece (is_piece_size (length read)) read bytes refl e in (ap Ok it.0, it.1)

-- ---- what is said together

both_are : {A B C : Type 0} (f : A → B → C) (a : Option A) (b : Option B) (c : C) → both f a b ≡ Some c → (x : A) × (y : B) × (a ≡ Some x) × (b ≡ Some y) × (f x y ≡ c)
both_are f None b c e = absurd cc
both_are f (Some x) None c e = absurd cc
both_are f (Some x) (Some y) c e = (x, y, refl, refl, cc)

mapped_is : {A C : Type 0} (f : A → C) (a : Option A) (c : C) → option_map f a ≡ Some c → (x : A) × (a ≡ Some x) × (f x ≡ c)
mapped_is f None c e = absurd cc
mapped_is f (Some x) c e = (x, refl, cc)

then_is : {A C : Type 0} (f : A → Option C) (a : Option A) (c : C) → option_and_then f a ≡ Some c → (x : A) × (a ≡ Some x) × (f x ≡ Some c)
then_is f None c e = absurd cc
then_is f (Some x) c e = (x, refl, e)

-- ---- rows

line : (keyword key : List ℕ) (after : List (List ℕ)) → in_upper_case key ≡ keyword → IsLine keyword after (key ∷ after)
line keyword key after h = record { first = key; parts = refl; spelled = h }

time_row : (site : SiteData) (key : List ℕ) (ws : List (List ℕ)) (e : Event) → in_upper_case key ≡ codes "TIME" → time_in ws ≡ Some e → Says site (key ∷ ws) e
time_row site key [] e h said = absurd cc
time_row site key (s ∷ []) e h said = absurd cc
time_row site key (s ∷ m ∷ []) e h said =
    let b = both_are time_at (number_of s) (number_of m) e said in
    subst (Says site (key ∷ s ∷ m ∷ [])) b.4 (s, m, line (codes "TIME") key (s ∷ m ∷ []) h, number_written s b.0 b.2, number_written m b.1 b.3)
time_row site key (s ∷ m ∷ w ∷ ws) e h said = absurd cc

opens_row : (site : SiteData) (key : List ℕ) (ws : List (List ℕ)) (e : Event) → in_upper_case key ≡ codes "OPEN" → opens_in site ws ≡ Some e → Says site (key ∷ ws) e
opens_row site key [] e h said = absurd cc
opens_row site key (who ∷ []) e h said =
    let b = mapped_is event.Opens (maker_named site who) e said in
    subst (Says site (key ∷ who ∷ [])) b.2 (who, line (codes "OPEN") key (who ∷ []) h, maker_there site who b.0 b.1)
opens_row site key (who ∷ w ∷ ws) e h said = absurd cc

bytes_row : (site : SiteData) (key : List ℕ) (ws : List (List ℕ)) (e : Event) → in_upper_case key ≡ codes "BYTES" → piece_in site ws ≡ Some e → Says site (key ∷ ws) e
bytes_row site key [] e h said = absurd cc
bytes_row site key (who ∷ []) e h said = absurd cc
bytes_row site key (who ∷ digits ∷ []) e h said =
    let b = both_are event.Piece (maker_named site who) (piece_of digits) e said in
    let read = piece_read (decode_of digits) b.1 b.3 in
    subst (Says site (key ∷ who ∷ digits ∷ [])) b.4 (who, digits, line (codes "BYTES") key (who ∷ digits ∷ []) h, maker_there site who b.0 b.2, read.0, read.1)
bytes_row site key (who ∷ digits ∷ w ∷ ws) e h said = absurd cc

close_row : (site : SiteData) (key : List ℕ) (ws : List (List ℕ)) (e : Event) → in_upper_case key ≡ codes "CLOSE" → finish_in site ws ≡ Some e → Says site (key ∷ ws) e
close_row site key [] e h said = absurd cc
close_row site key (who ∷ []) e h said = absurd cc
close_row site key (who ∷ end ∷ []) e h said =
    let b = both_are event.Finish (maker_named site who) (why_of end) e said in
    subst (Says site (key ∷ who ∷ end ∷ [])) b.4 (who, end, line (codes "CLOSE") key (who ∷ end ∷ []) h, maker_there site who b.0 b.2, ends_by end b.1 b.3)
close_row site key (who ∷ end ∷ w ∷ ws) e h said = absurd cc

write_row : (site : SiteData) (key : List ℕ) (ws : List (List ℕ)) (e : Event) → in_upper_case key ≡ codes "WRITE" → write_in site ws ≡ Some e → Says site (key ∷ ws) e
write_row site key [] e h said = absurd cc
write_row site key (who ∷ []) e h said = absurd cc
write_row site key (who ∷ count ∷ []) e h said =
    let b = both_are event.Write (interface_named site who) (count_of count) e said in
    subst (Says site (key ∷ who ∷ count ∷ [])) b.4 (who, count, line (codes "WRITE") key (who ∷ count ∷ []) h, interface_there site who b.0 b.2, count_written count b.1 b.3)
write_row site key (who ∷ count ∷ w ∷ ws) e h said = absurd cc

call_row : (site : SiteData) (key : List ℕ) (ws : List (List ℕ)) (e : Event) → in_upper_case key ≡ codes "CALL" → call_in ws ≡ Some e → Says site (key ∷ ws) e
call_row site key [] e h said = absurd cc
call_row site key (desk ∷ []) e h said = absurd cc
call_row site key (desk ∷ text ∷ []) e h said =
    let b = mapped_is (λ d. event.Call d text) (number_of desk) e said in
    subst (Says site (key ∷ desk ∷ text ∷ [])) b.2 (desk, line (codes "CALL") key (desk ∷ text ∷ []) h, number_written desk b.0 b.1)
call_row site key (desk ∷ text ∷ w ∷ ws) e h said = absurd cc

drained_row : (site : SiteData) (key who count : List ℕ) (n : ℕ) (e : Event) (log : Bool) → in_upper_case key ≡ codes "DRAIN" → WritesCount count n → is_log who ≡ log
    → (if log then Some (event.DrainLog n) else option_map (λ slot. event.DrainSlot slot n) (slot_named site who)) ≡ Some e → Says site (key ∷ who ∷ count ∷ []) e
drained_row site key who count n e true h number log said =
    let same : event.DrainLog n ≡ e = cc in
    let word : who ≡ codes "LOG" = (bytes_eq-Decides who (codes "LOG")).0 log in
    subst (Says site (key ∷ who ∷ count ∷ [])) same
    (count, record { first = key; parts = ap (λ (w : List ℕ). key ∷ w ∷ count ∷ []) word; spelled = h }, number)
drained_row site key who count n e false h number log said =
    let b = mapped_is (λ slot. event.DrainSlot slot n) (slot_named site who) e said in
    subst (Says site (key ∷ who ∷ count ∷ [])) b.2 (who, count, line (codes "DRAIN") key (who ∷ count ∷ []) h, slot_there site who b.0 b.1, number)

drain_row : (site : SiteData) (key : List ℕ) (ws : List (List ℕ)) (e : Event) → in_upper_case key ≡ codes "DRAIN" → drain_in site ws ≡ Some e → Says site (key ∷ ws) e
drain_row site key [] e h said = absurd cc
drain_row site key (who ∷ []) e h said = absurd cc
drain_row site key (who ∷ count ∷ []) e h said =
    let b = then_is (drain_of site who) (count_of count) e said in
    drained_row site key who count b.0 e (is_log who) h (count_written count b.0 b.1) refl b.2
drain_row site key (who ∷ count ∷ w ∷ ws) e h said = absurd cc

stop_row : (site : SiteData) (key : List ℕ) (ws : List (List ℕ)) (e : Event) → in_upper_case key ≡ codes "STOP" → stop_in ws ≡ Some e → Says site (key ∷ ws) e
stop_row site key [] e h said = let same : event.Stop ≡ e = cc in subst (Says site (key ∷ [])) same (line (codes "STOP") key [] h)
stop_row site key (w ∷ ws) e h said = absurd cc

-- ---- keywords

abbrev pub keyword_text : Keyword → List ℕ
keyword_text keyword.Time = codes "TIME"
keyword_text keyword.Open = codes "OPEN"
keyword_text keyword.Bytes = codes "BYTES"
keyword_text keyword.Close = codes "CLOSE"
keyword_text keyword.Write = codes "WRITE"
keyword_text keyword.Call = codes "CALL"
keyword_text keyword.Drain = codes "DRAIN"
keyword_text keyword.Stop = codes "STOP"

row : (site : SiteData) (key : List ℕ) (k : Keyword) (ws : List (List ℕ)) (e : Event) → in_upper_case key ≡ keyword_text k → event_of site k ws ≡ Some e → Says site (key ∷ ws) e
row site key keyword.Time ws e h said = time_row site key ws e h said
row site key keyword.Open ws e h said = opens_row site key ws e h said
row site key keyword.Bytes ws e h said = bytes_row site key ws e h said
row site key keyword.Close ws e h said = close_row site key ws e h said
row site key keyword.Write ws e h said = write_row site key ws e h said
row site key keyword.Call ws e h said = call_row site key ws e h said
row site key keyword.Drain ws e h said = drain_row site key ws e h said
row site key keyword.Stop ws e h said = stop_row site key ws e h said

abbrev AreOwnTexts : List (List ℕ × Keyword) → Type 0
AreOwnTexts list = AllByRecursion (λ (p : List ℕ × Keyword). p.0 ≡ keyword_text p.1) list

spelled_step : (b : Bool) (word text : List ℕ) (k found : Keyword) (rest : Option Keyword) → is_keyword word text ≡ b → text ≡ keyword_text found → (if b then Some found else rest) ≡ Some k
    → (rest ≡ Some k → in_upper_case word ≡ keyword_text k) → in_upper_case word ≡ keyword_text k
unfolding is_keyword
spelled_step true word text k found rest is own e more =
    let same : found ≡ k = cc in
    (bytes_eq-Decides (in_upper_case word) text).0 is ∙ own ∙ ap keyword_text same
spelled_step false word text k found rest is own e more = more e

spelled_in : (list : List (List ℕ × Keyword)) (word : List ℕ) (k : Keyword) → AreOwnTexts list → keyword_in list word ≡ Some k → in_upper_case word ≡ keyword_text k
spelled_in [] word k own e = absurd cc
spelled_in (p ∷ list) word k own e = spelled_step (is_keyword word p.0) word p.0 k p.1 (keyword_in list word) refl own.0 e (spelled_in list word k own.1)

spelled_keyword : (word : List ℕ) (k : Keyword) → keyword_of word ≡ Some k → in_upper_case word ≡ keyword_text k
unfolding keyword_of
spelled_keyword word k e = spelled_in keywords word k (refl, (refl, (refl, (refl, (refl, (refl, (refl, (refl, tt)))))))) e

-- ---- a statement

known : (site : SiteData) (key : List ℕ) (ws : List (List ℕ)) (o : Option Keyword) (e : Event) → keyword_of key ≡ o
    → option_and_then (λ (l : Keyword × List (List ℕ)). event_of site l.0 l.1) (with_words ws o) ≡ Some e → Says site (key ∷ ws) e
known site key ws None e is said = absurd cc
known site key ws (Some k) e is said = row site key k ws e (spelled_keyword key k is) said

-- The event of a statement is what its words say.
pub says_words : (site : SiteData) (words : List (List ℕ)) (e : Event) → event_in site words ≡ Some e → Says site words e
says_words site [] e said = absurd cc
says_words site (key ∷ ws) e said = known site key ws (keyword_of key) e refl said
