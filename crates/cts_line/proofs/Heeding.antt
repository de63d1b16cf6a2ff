-- A line whose connection was closed for want of room, or of memory, ends for that.
use Rattle.std.proofs.Common.{◌≡◌, ℕ, ◌||◌, Bool, true, false, List, refl, sym, ◌∙◌, ap, Option, Some, None}
use Rattle.std.proofs.Math.Bool.{or-false}
use Rattle.cts_def.specs.Sites.{SiteData}
use Rattle.cts_entry.specs.declared.entry.Entry.{Entry}
use Rattle.cts_entry.specs.declared.why.Why.{Why}
use Rattle.cts_entry.specs.declared.why.Why.TheVariants.{PeerEnded, ReadFault, WriteFault, BadFrame, Stopped as StoppedWhy, NoMemory as NoMemoryWhy, Full as FullWhy}
use Rattle.cts_line.specs.Ending.{Heeds, Keeps, after_closed, has_closed, is_full, is_no_memory}
use Rattle.cts_line.specs.declared.ending.LineWhy.{LineWhy}
use Rattle.cts_line.specs.declared.ending.LineWhy.TheVariants.{Full, NoMemory}
use Rattle.cts_line.proofs.Dialing.{Opens, never_both}

-- ---- holds that close no connection

pub heeds_kept : (m : ℕ) (old new : List Entry) (end : Option LineWhy) → ((test : Why → Bool) → has_closed m test new ≡ has_closed m test old) → Heeds m old new end
heeds_kept m old new end same = record {
  full = λ none is. never_both (has_closed m is_full new) is (same is_full ∙ none);
  memory = λ none is. never_both (has_closed m is_no_memory new) is (same is_no_memory ∙ none);
}

pub heeds_quiet : (m : ℕ) (old new : List Entry) (end : Option LineWhy) → Keeps m old new None → Heeds m old new end
heeds_quiet m old new end k = heeds_kept m old new end (λ test. k.only test ∙ or-false (has_closed m test old))

-- ---- a connection

full_ends : (site : SiteData) (m : ℕ) (why : Why) → is_full why ≡ true → after_closed site m why ≡ Some Full
full_ends site m PeerEnded is = absurd (cc is)
full_ends site m ReadFault is = absurd (cc is)
full_ends site m WriteFault is = absurd (cc is)
full_ends site m (BadFrame stage cause) is = absurd (cc is)
full_ends site m StoppedWhy is = absurd (cc is)
full_ends site m NoMemoryWhy is = absurd (cc is)
full_ends site m FullWhy is = refl

memory_ends : (site : SiteData) (m : ℕ) (why : Why) → is_no_memory why ≡ true → after_closed site m why ≡ Some NoMemory
memory_ends site m PeerEnded is = absurd (cc is)
memory_ends site m ReadFault is = absurd (cc is)
memory_ends site m WriteFault is = absurd (cc is)
memory_ends site m (BadFrame stage cause) is = absurd (cc is)
memory_ends site m StoppedWhy is = absurd (cc is)
memory_ends site m NoMemoryWhy is = refl
memory_ends site m FullWhy is = absurd (cc is)

closed_only : (m : ℕ) (a b c : List Entry) (why : Why) (test : Why → Bool) → Opens m a b → Keeps m b c (Some why) → has_closed m test a ≡ false → has_closed m test c ≡ test why
closed_only m a b c why test o k none = k.only test ∙ ap (λ (x : Bool). x || test why) (o.closed test ∙ none)

pub heeds_closed : (site : SiteData) (m : ℕ) (a b c : List Entry) (why : Why) → Opens m a b → Keeps m b c (Some why) → Heeds m a c (after_closed site m why)
heeds_closed site m a b c why o k = record {
  full = λ none is. full_ends site m why (sym (closed_only m a b c why is_full o k none) ∙ is);
  memory = λ none is. memory_ends site m why (sym (closed_only m a b c why is_no_memory o k none) ∙ is);
}

-- ---- one after another

false_by : (b : Bool) → (b ≡ true → ⊥) → b ≡ false
false_by true f = absurd (f refl)
false_by false f = refl

never_ends : (why : LineWhy) → None ≡ Some why → ⊥
never_ends why e = cc

pub heeds_then : (m : ℕ) (a b c : List Entry) (end : Option LineWhy) → Heeds m a b None → Heeds m b c end → Heeds m a c end
heeds_then m a b c end h i = record {
  full = λ none is. i.full (false_by (has_closed m is_full b) (λ on. never_ends Full (h.full none on))) is;
  memory = λ none is. i.memory (false_by (has_closed m is_no_memory b) (λ on. never_ends NoMemory (h.memory none on))) is;
}

some_of : (x y : LineWhy) → Some x ≡ Some y → x ≡ y
some_of x y e = cc

-- ---- of a line that had none before

pub full_heeded : (m : ℕ) (old mid new : List Entry) (why : LineWhy) → has_closed m is_full old ≡ false → has_closed m is_full new ≡ has_closed m is_full mid → Heeds m old mid (Some why)
    → has_closed m is_full new ≡ true → why ≡ Full
full_heeded m old mid new why none same h is = some_of why Full (h.full none (sym same ∙ is))

pub memory_heeded : (m : ℕ) (old mid new : List Entry) (why : LineWhy) → has_closed m is_no_memory old ≡ false → has_closed m is_no_memory new ≡ has_closed m is_no_memory mid → Heeds m old mid (Some why)
    → has_closed m is_no_memory new ≡ true → why ≡ NoMemory
memory_heeded m old mid new why none same h is = some_of why NoMemory (h.memory none (sym same ∙ is))
