-- The line of a refusal's form is the line of the refusal, by computation; and how long it is.
-- Assumes nothing.
use mathlib.Core.Path.{◌≡◌, refl}
use mathlib.Core.List.{[], ◌∷◌}
use Prim.Native.Nat.{ℕ, ◌+◌, ◌<◌, ◌≤◌}
use native.Mathlib.Omega.{arith}
use lib.ListN.{length, length-append}
use Rattle.decimals.specs.Decimal.{digits_of}
use Rattle.decimals.specs.Printing.{record_of}
use Rattle.decimals.proofs.Decimals.{digits-few}
use Rattle.forms.specs.Form.{form_of, left_of}
use Rattle.refusals.specs.Refusal.{refusal_of}

module _ (number place : ℕ) where
  -- the form is `refused,#,#`
  pub refusal-form : form_of (114 ∷ 101 ∷ 102 ∷ 117 ∷ 115 ∷ 101 ∷ 100 ∷ 44 ∷ 35 ∷ 44 ∷ 35 ∷ []) (number ∷ place ∷ []) ≡ refusal_of number place
  unfolding form_of left_of refusal_of record_of
  refusal-form = refl

  pub refusal-length : length (refusal_of number place) ≡ length (digits_of number) + length (digits_of place) + 11
  unfolding refusal_of record_of
  refusal-length = simp length-append (omega arith)

-- HOW LONG IT CAN BE: a number below 1,000 and a record's number of 64 bits
pub refusal-within : (number place : ℕ) → number < 1000 → place ≤ 18446744073709551615 → length (refusal_of number place) ≤ 34
refusal-within number place n p = omega (arith, refusal-length number place, digits-few 2 number n, digits-few 19 place (omega arith))
