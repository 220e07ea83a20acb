-- Message records by their numbers: the station and the kind of a record, and of the record that holds a message. Assumes nothing.
use mathlib.Core.Path.{◌≡◌, refl, ap}
use mathlib.Core.Bool.{Bool, true, false, not, cond}
use mathlib.Core.Logic.{◌≢◌}
use Prim.Native.Nat.{ℕ, suc, ◌+◌, ◌/◌, ◌%◌}
use native.Mathlib.Omega.{arith}
use lib.Dec.{eqb}
use borrow.Author.Tests.{eq-eqb, ne_eqb, eqb-true, eqb-false}
use Rattle.rules.specs.Messages.{Message, short_record, long_record, record_of}

-- the station of a record, and whether it is a long one
abbrev pub holder : ℕ → ℕ
holder k = k / 2

abbrev pub is_long_record : ℕ → Bool
is_long_record k = not (eqb (k % 2) 0)

pub holder-short : (s : ℕ) → holder (short_record s) ≡ s
holder-short s = omega arith

pub holder-long : (s : ℕ) → holder (long_record s) ≡ s
holder-long s = omega arith

pub kind_short : (s : ℕ) → is_long_record (short_record s) ≡ false
kind_short s = ap not (eq-eqb ((s + s) % 2) 0 (omega arith))

pub kind_long : (s : ℕ) → is_long_record (long_record s) ≡ true
kind_long s = ap not (ne_eqb (suc (s + s) % 2) 0 (λ e. omega arith))

-- a record is its station's short one or its long one
pub by_kind : (P : ℕ → Type 0) → ((s : ℕ) → P (short_record s)) → ((s : ℕ) → P (long_record s)) → (k : ℕ) → P k
by_kind P short long k = go (eqb (k % 2) 0) refl
  where
    go : (b : Bool) → eqb (k % 2) 0 ≡ b → P k
    go true e = let w : k % 2 ≡ 0 = eqb-true (k % 2) 0 e in let q : short_record (k / 2) ≡ k = omega arith in rw (← q) (short (k / 2))
    go false e = let w : k % 2 ≢ 0 = eqb-false (k % 2) 0 e in let q : long_record (k / 2) ≡ k = omega arith in rw (← q) (long (k / 2))

-- the record that holds a message has the message's station, and its kind by the message's slots
pub holder-of : (m : Message) → holder (record_of m) ≡ m.station
unfolding record_of
holder-of m = go (eqb m.slots 1)
  where
    go : (b : Bool) → holder (cond b (short_record m.station) (long_record m.station)) ≡ m.station
    go true = holder-short m.station
    go false = holder-long m.station

pub kind-of : (m : Message) → is_long_record (record_of m) ≡ not (eqb m.slots 1)
unfolding record_of
kind-of m = go (eqb m.slots 1)
  where
    go : (b : Bool) → is_long_record (cond b (short_record m.station) (long_record m.station)) ≡ not b
    go true = kind_short m.station
    go false = kind_long m.station
