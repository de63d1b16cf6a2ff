-- Protocols that put the same.
use Rattle.std.proofs.Common.{◌≡◌, ℕ, Bool, false, List, [], subst, sym, Option}
use Rattle.std.specs.Prelude.{ℤ, Result, Ok, Err}
use Rattle.cts_def.specs.Protocols.{BurstData, FixedData, TerminatedData, Burst, Fixed, Length, Terminated}
use Rattle.cts_def.specs.Starts.{PlaceData}
use Rattle.cts_framing.specs.Framing.{Heading}
use Rattle.cts_encode.specs.Putting.{plain_data, length_row}
use Rattle.cts_encode.specs.Spellings.{Encodes}
use Rattle.cts_encode.specs.declared.encode_fault.EncodeFault.{EncodeFault}
use Rattle.cts_encode.specs.declared.encode_fault.EncodeFault.TheVariants.{HoldsTermination, NoPlace, LengthTooLarge, Memory}

module _ (h : Heading) (bytes old new : List ℕ) where
  pub with_parts : (d : ℕ) (s u t : List ℕ) (f g : Bool) (r : Result (Unit {0}) EncodeFault) → s ≡ u → g ≡ f → Encodes (plain_data d s t f) h bytes old new r → Encodes (plain_data d u t g) h bytes old new r
  with_parts d s u t f g r e k x =
      subst (λ (v : List ℕ). Encodes (plain_data d v t g) h bytes old new r) e (subst (λ (b : Bool). Encodes (plain_data d s t b) h bytes old new r) (sym k) x)

  pub as_burst : (b : BurstData) (r : Result (Unit {0}) EncodeFault) → Encodes (plain_data b.discard b.sync [] b.fill) h bytes old new r → Encodes (Burst b) h bytes old new r
  as_burst b (Ok u) x = x
  as_burst b (Err HoldsTermination) x = x
  as_burst b (Err NoPlace) x = x
  as_burst b (Err LengthTooLarge) x = x
  as_burst b (Err Memory) x = x

  pub as_fixed : (f : FixedData) (r : Result (Unit {0}) EncodeFault) → Encodes (plain_data f.discard f.sync [] f.fill) h bytes old new r → Encodes (Fixed f) h bytes old new r
  as_fixed f (Ok u) x = x
  as_fixed f (Err HoldsTermination) x = x
  as_fixed f (Err NoPlace) x = x
  as_fixed f (Err LengthTooLarge) x = x
  as_fixed f (Err Memory) x = x

  pub as_terminated : (t : TerminatedData) (r : Result (Unit {0}) EncodeFault) → Encodes (plain_data t.discard t.sync t.write t.fill) h bytes old new r → Encodes (Terminated t) h bytes old new r
  as_terminated t (Ok u) x = x
  as_terminated t (Err HoldsTermination) x = x
  as_terminated t (Err NoPlace) x = x
  as_terminated t (Err LengthTooLarge) x = x
  as_terminated t (Err Memory) x = x

  -- where no count is written
  pub as_length : (p : PlaceData) (v : ℤ) (n d : ℕ) (s : List ℕ) (m : Option ℕ) (r : Result (Unit {0}) EncodeFault) → Encodes (plain_data d s [] false) h bytes old new r → Encodes (Length (length_row p v n d s m false)) h bytes old new r
  as_length p v n d s m (Ok u) x = x
  as_length p v n d s m (Err HoldsTermination) x = x
  as_length p v n d s m (Err NoPlace) x = x
  as_length p v n d s m (Err LengthTooLarge) x = x
  as_length p v n d s m (Err Memory) x = x

  pub by_fill : (p : PlaceData) (v : ℤ) (n d : ℕ) (s : List ℕ) (m : Option ℕ) (f g : Bool) (r : Result (Unit {0}) EncodeFault) → g ≡ f
      → Encodes (Length (length_row p v n d s m f)) h bytes old new r → Encodes (Length (length_row p v n d s m g)) h bytes old new r
  by_fill p v n d s m f g r k x = subst (λ (b : Bool). Encodes (Length (length_row p v n d s m b)) h bytes old new r) (sym k) x

  pub with_sync : (p : PlaceData) (v : ℤ) (n d : ℕ) (s u : List ℕ) (m : Option ℕ) (f : Bool) (r : Result (Unit {0}) EncodeFault) → s ≡ u
      → Encodes (Length (length_row p v n d s m f)) h bytes old new r → Encodes (Length (length_row p v n d u m f)) h bytes old new r
  with_sync p v n d s u m f r e x = subst (λ (w : List ℕ). Encodes (Length (length_row p v n d w m f)) h bytes old new r) e x
