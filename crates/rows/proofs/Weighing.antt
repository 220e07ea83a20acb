-- The weight of a row: what one minislot more adds to it, which is how it is summed; that the places after a row's last minislot add
-- nothing; and that it fits a byte, `weight-fits`, since a minislot adds at most 2. By induction on the row.
-- Assumes nothing.
use mathlib.Core.Path.{◌≡◌, refl, ap}
use mathlib.Core.Bool.{Bool, true, false, cond}
use mathlib.Core.List.{List, [], ◌∷◌}
use Prim.Native.Nat.{ℕ, zero, suc, ◌+◌, ◌*◌, ◌≤◌, ◌<◌}
use native.Mathlib.Nat.{le_of_suc-le-suc, not-suc-le-zero}
use native.Mathlib.Omega.{arith}
use lib.Count.{ones, ones_in}
use lib.ListN.{length, get_or, take}
use Rattle.minislot.specs.declared.Feedback.{Feedback}
use Rattle.minislot.specs.declared.Feedback.TheVariants.{Empty, Single, Collide}
use Rattle.minislot.specs.Reading.{reading_of}
use Rattle.rows.specs.Row.{readings, first_number, feedbacks, weight, weight_of, padded, feedback_in, row_answer, minislots_of, has_minislots, row_of}
use Rattle.rows.specs.WeightFits.{WeightFits}
use Rattle.rows.proofs.Row.{readings-length, feedbacks_fewer, row-tests}

-- ---- one minislot more

pub weight-next : (row : List Feedback) (j : ℕ) → j < length row → weight (take (suc j) row) ≡ weight (take j row) + weight_of (get_or row j Empty)
unfolding weight
weight-next [] j h = absurd (not-suc-le-zero h)
weight-next (f ∷ row) zero h = omega arith
weight-next (f ∷ row) (suc j) h = omega (arith, weight-next row j (le_of_suc-le-suc h))

-- ---- the array

-- an array of n weighs what the row in it weighs
pub weight-padded : (n : ℕ) (row : List Feedback) → length row ≤ n → weight (feedback_in (padded n row)) ≡ weight row
unfolding weight padded
weight-padded zero [] h = refl
weight-padded zero (f ∷ row) h = absurd (not-suc-le-zero h)
weight-padded (suc n) [] h = omega (arith, weight-padded n [] (omega arith))
weight-padded (suc n) (f ∷ row) h = ap (λ w. weight_of f + w) (weight-padded n row (le_of_suc-le-suc h))

-- ---- at most 16

-- a minislot adds at most 2
weight-few : (f : Feedback) → weight_of f ≤ 2
weight-few Empty = omega arith
weight-few (Single i c) = omega arith
weight-few Collide = omega arith

weight-twice : (row : List Feedback) → weight row ≤ 2 * length row
unfolding weight
weight-twice [] = omega arith
weight-twice (f ∷ row) = omega (arith, weight-few f, weight-twice row)

-- the answer's, whatever its number
answer-fits : (n : ℕ) (row : List Feedback) → length row ≤ 8 → (row_answer n row).weight ≤ 16
answer-fits zero row h = omega (arith, weight-twice row)
answer-fits (suc n) row h = omega arith

read_fits : (m : ℕ) (words counts : List ℕ) → (row_of m words counts).weight ≤ 16
unfolding row_of minislots_of
read_fits m words counts = go (has_minislots m words counts) refl
  where
    go : (b : Bool) → has_minislots m words counts ≡ b → (cond b (minislots_of words counts) (row_answer 6 [])).weight ≤ 16
    go true e =
        let t = row-tests m words counts e in
        answer-fits (first_number (readings words counts)) (feedbacks (readings words counts))
        (omega (arith, feedbacks_fewer (readings words counts), readings-length words counts (omega arith)))
    go false e = omega arith

pub weight-fits : WeightFits
unfolding ones ones_in reading_of readings first_number feedbacks weight minislots_of row_of
weight-fits = record { most = λ row h. omega (arith, weight-twice row); reached = refl; read-most = read_fits; read-reached = refl }
