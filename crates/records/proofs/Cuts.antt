-- A record's end, at the place of the bytes that a loop has reached: one law for each way that the next byte, or the end, can go.
-- Assumes nothing.
use mathlib.Core.Bool.{Bool, true, false, cond}
use mathlib.Core.Path.{◌≡◌, refl, ap, ◌∙◌}
use mathlib.Core.List.{List}
use Prim.Native.Nat.{ℕ, zero, suc, ◌+◌, ◌-◌, ◌<◌, ◌≤◌}
use native.Mathlib.Omega.{arith}
use borrow.Author.Tests.{eq-eqb, ne_eqb}
use lib.ListN.{length, get_or, drop, drop_of_length-le}
use Rattle.listlaws.proofs.Loops.{rest}
use Rattle.records.specs.Cutting.{after_return, goes_on, begins, cut_of}
use Rattle.records.specs.declared.Cut.TheVariants.{Record, More, Done, Broken}

module _ (ended : Bool) (at next : ℕ) (bytes : List ℕ) where
  pub return_feed : next < length bytes → get_or bytes next 0 ≡ 10 → after_return ended at (drop next bytes) ≡ Record at (at + 2)
  unfolding after_return
  return_feed h e = rw (rest bytes next 0 h, eq-eqb _ _ e)

  pub return_other : next < length bytes → (get_or bytes next 0 ≡ 10 → ⊥) → after_return ended at (drop next bytes) ≡ Broken
  unfolding after_return
  return_other h e = rw (rest bytes next 0 h, ne_eqb _ _ e)

  pub return_last : length bytes ≤ next → after_return ended at (drop next bytes) ≡ cond ended Broken More
  unfolding after_return
  return_last h = rw (drop_of_length-le bytes h)

module _ (ended : Bool) (at : ℕ) (bytes : List ℕ) where
  pub begins-none : (longest : ℕ) → length bytes ≤ at → cut_of longest bytes at ended ≡ cond ended Done More
  unfolding cut_of begins
  begins-none longest h = rw (drop_of_length-le bytes h)

  pub begins-some : (longest : ℕ) → at < length bytes → goes_on ended at longest (drop at bytes) ≡ cut_of longest bytes at ended
  unfolding cut_of begins
  begins-some longest h = rw (rest bytes at 0 h)

  pub goes_last : (room : ℕ) → length bytes ≤ at → ended ≡ true → goes_on ended at room (drop at bytes) ≡ Record at at
  unfolding goes_on
  goes_last room h e = rw (drop_of_length-le bytes h, e)

  -- where the loop over the bytes stops
  pub ends_last : (room : ℕ) → at ≡ length bytes → ended ≡ true → goes_on ended at room (drop at bytes) ≡ Record (length bytes) (length bytes)
  ends_last room h e = let over : length bytes ≤ at = omega arith in goes_last room over e ∙ ap (λ (n : ℕ). Record n n) h

  pub goes_open : (room : ℕ) → length bytes ≤ at → ended ≡ false → goes_on ended at room (drop at bytes) ≡ More
  unfolding goes_on
  goes_open room h e = rw (drop_of_length-le bytes h, e)

  pub goes_return : (room : ℕ) → at < length bytes → get_or bytes at 0 ≡ 13
      → goes_on ended at room (drop at bytes) ≡ after_return ended at (drop (at + 1) bytes)
  unfolding goes_on
  goes_return zero h e = rw (rest bytes at 0 h, eq-eqb _ _ e)
  goes_return (suc room) h e = rw (rest bytes at 0 h, eq-eqb _ _ e)

  pub goes-full : (room : ℕ) → at < length bytes → (get_or bytes at 0 ≡ 13 → ⊥) → room ≡ 0 → goes_on ended at room (drop at bytes) ≡ Broken
  unfolding goes_on
  goes-full zero h e z = rw (rest bytes at 0 h, ne_eqb _ _ e)
  goes-full (suc room) h e z = absurd (omega arith)

  pub goes_feed : (room : ℕ) → at < length bytes → (get_or bytes at 0 ≡ 13 → ⊥) → get_or bytes at 0 ≡ 10 → goes_on ended at room (drop at bytes) ≡ Broken
  unfolding goes_on
  goes_feed zero h e f = rw (rest bytes at 0 h, ne_eqb _ _ e)
  goes_feed (suc room) h e f = rw (rest bytes at 0 h, ne_eqb _ _ e, eq-eqb _ _ f)

  pub goes-more : (room : ℕ) → at < length bytes → (get_or bytes at 0 ≡ 13 → ⊥) → (room ≡ 0 → ⊥) → (get_or bytes at 0 ≡ 10 → ⊥)
      → goes_on ended at room (drop at bytes) ≡ goes_on ended (at + 1) (room - 1) (drop (at + 1) bytes)
  unfolding goes_on
  goes-more zero h e z f = absurd (z refl)
  goes-more (suc room) h e z f = let less : suc room - 1 ≡ room = omega arith in rw (rest bytes at 0 h, ne_eqb _ _ e, ne_eqb _ _ f, less)
