-- Laws of the slot total: which byte counts are a message's, that the ceiling is the least number of slots that hold the bytes, its bounds, and the answer in either case.
-- The ceiling is taken by cases on what the division leaves over; the rest is arithmetic.
-- Assumes nothing.
use Prim.Native.Nat.{ℕ, ◌+◌, ◌*◌, ◌%◌, ◌≤◌, ◌<◌}
use native.Mathlib.Omega.{arith}
use mathlib.Core.Path.{◌≡◌, refl, sym, ap, ◌∙◌}
use mathlib.Core.Bool.{Bool, true, false, cond, ◌&&◌}
use lib.Dec.{leb, eqb}
use borrow.Author.Tests.{leb-true, le-leb, lt-leb, eqb-true, eqb-false}
use Rattle.message.specs.declared.SlotTotal.{SlotTotal}
use Rattle.message.specs.declared.SlotTotal.TheVariants.{Slots, Refused}
use Rattle.message.specs.Message.{fits_message, ceiling, slots_for, slot_total_of, number_of, total_of, slots_number_of, slots_given_of}

-- 1 to 12,240 bytes are a message
pub fits : (bytes : ℕ) → 1 ≤ bytes → bytes ≤ 12240 → fits_message bytes ≡ true
unfolding fits_message
fits bytes low high = rw (le-leb 1 bytes low, le-leb bytes 12240 high)

-- 0 bytes are none
pub fits-none : (bytes : ℕ) → bytes ≡ 0 → fits_message bytes ≡ false
unfolding fits_message
fits-none bytes e = rw (lt-leb 1 bytes (omega arith))

-- and so are more than 12,240
pub fits-over : (bytes : ℕ) → 12240 < bytes → fits_message bytes ≡ false
unfolding fits_message
fits-over bytes h = rw (le-leb 1 bytes (omega arith), lt-leb bytes 12240 h)

-- both halves of a test that two tests make
both : (a b : Bool) → (a && b) ≡ true → (a ≡ true) × (b ≡ true)
both true true e = (refl, refl)
both true false e = (refl, e)
both false b e = (e, let z : ◌≡◌ {A = ℕ} 0 1 = cc in absurd (omega arith))

-- the byte count of a message
pub fits-bounds : (bytes : ℕ) → fits_message bytes ≡ true → (1 ≤ bytes) × (bytes ≤ 12240)
unfolding fits_message
fits-bounds bytes e =
    let h : (leb 1 bytes ≡ true) × (leb bytes 12240 ≡ true) = both _ _ e in
    (leb-true 1 bytes h.0, leb-true bytes 12240 h.1)

-- the slots hold the bytes, and one slot fewer would not
pub slots-hold : (bytes : ℕ) → (bytes ≤ 48 * slots_for bytes) × (48 * slots_for bytes < bytes + 48)
unfolding slots_for ceiling
slots-hold bytes = go (eqb (bytes % 48) 0) refl
  where
    go : (b : Bool) → eqb (bytes % 48) 0 ≡ b → (bytes ≤ 48 * slots_for bytes) × (48 * slots_for bytes < bytes + 48)
    go true e = let z : bytes % 48 ≡ 0 = eqb-true _ _ e in rw e (omega arith)
    go false e = let z : bytes % 48 ≡ 0 → ⊥ = eqb-false _ _ e in rw e (omega arith)

-- no other number of slots does both
pub slots-least : (bytes total : ℕ) → bytes ≤ 48 * total → 48 * total < bytes + 48 → slots_for bytes ≡ total
slots-least bytes total low high = omega (arith, slots-hold bytes)

-- a message takes 1 to 255 slots
pub slots-bounds : (bytes : ℕ) → fits_message bytes ≡ true → (1 ≤ slots_for bytes) × (slots_for bytes ≤ 255)
slots-bounds bytes e = omega (arith, slots-hold bytes, fits-bounds bytes e)

-- a message is taken, at its slots
pub taken : (bytes : ℕ) → fits_message bytes ≡ true → slot_total_of bytes ≡ Slots (slots_for bytes)
unfolding slot_total_of
taken bytes e = rw e

-- anything else is refused by 10
pub refused : (bytes : ℕ) → fits_message bytes ≡ false → slot_total_of bytes ≡ Refused 10
unfolding slot_total_of
refused bytes e = rw e

-- an answer that is the slot total has its number and its slots
pub slots-told : (bytes : ℕ) (r : SlotTotal) → r ≡ slot_total_of bytes
    → (r ≡ slot_total_of bytes) × ((number_of r ≡ slots_number_of bytes) × (total_of r ≡ slots_given_of bytes))
unfolding slot_total_of slots_number_of slots_given_of number_of total_of
slots-told bytes r e = let t = go (fits_message bytes) in (e, (ap number_of e ∙ t.0, ap total_of e ∙ t.1))
  where
    go : (b : Bool) → (number_of (cond b (Slots (slots_for bytes)) (Refused 10)) ≡ cond b 0 10) × (total_of (cond b (Slots (slots_for bytes)) (Refused 10)) ≡ cond b (slots_for bytes) 0)
    go true = (refl, refl)
    go false = (refl, refl)

-- an answer that gives slots is that of a message, at its slots
pub taken-from : (bytes total : ℕ) → slot_total_of bytes ≡ Slots total → (fits_message bytes ≡ true) × (slots_for bytes ≡ total)
taken-from bytes total e = go (fits_message bytes) refl
  where
    go : (b : Bool) → fits_message bytes ≡ b → (fits_message bytes ≡ true) × (slots_for bytes ≡ total)
    go true h = (h, (let z : Slots (slots_for bytes) ≡ Slots total = sym (taken bytes h) ∙ e in cc))
    go false h =
        let r : slot_total_of bytes ≡ Refused 10 = refused bytes h in
        let z : ◌≡◌ {A = ℕ} 0 1 = cc in absurd (omega arith)

-- an answer that refuses is that of no message, and its number is 10
pub refused-from : (bytes number : ℕ) → slot_total_of bytes ≡ Refused number → (fits_message bytes ≡ false) × (number ≡ 10)
refused-from bytes number e = go (fits_message bytes) refl
  where
    go : (b : Bool) → fits_message bytes ≡ b → (fits_message bytes ≡ false) × (number ≡ 10)
    go true h =
        let r : slot_total_of bytes ≡ Slots (slots_for bytes) = taken bytes h in
        let z : ◌≡◌ {A = ℕ} 0 1 = cc in absurd (omega arith)
    go false h = (h, (let z : Refused 10 ≡ Refused number = sym (refused bytes h) ∙ e in cc))
