-- What a row's answer says to the layers above: its number is 6 or that of the first refused minislot, 1, 3 or 4, or 0; and where it is 0 the
-- weight and the array are those of the feedback heard, one for each minislot.
-- Assumes nothing.
use mathlib.Core.Path.{◌≡◌, refl, ap, ◌∙◌}
use mathlib.Core.Bool.{Bool, true, false}
use mathlib.Core.List.{List, [], ◌∷◌}
use Prim.Native.Nat.{ℕ, zero, suc, ◌≤◌, ◌<◌}
use native.Mathlib.Omega.{arith}
use lib.ListN.{length, take, get_or}
use Rattle.minislot.specs.declared.Feedback.{Feedback}
use Rattle.minislot.specs.declared.Feedback.TheVariants.{Empty}
use Rattle.minislot.specs.declared.Reading.{Reading}
use Rattle.minislot.specs.declared.Reading.TheVariants.{Heard, Refused}
use Rattle.minislot.specs.Reading.{reading_of}
use Rattle.rows.specs.Row.{readings, first_number, feedbacks, weight, feedback_in, row_answer, minislots_of, has_minislots, row_of}
use Rattle.minislot.proofs.Readings.{Listed, refusal-number}
use Rattle.rows.proofs.Row.{readings-length, padded-holds, row-tests}

-- the first refused minislot's number is 0 or one of a reading's
pub first_by : (P : ℕ → Type 0) → P 0 → ((n : ℕ) → Listed n → P n) → (words counts : List ℕ) → P (first_number (readings words counts))
unfolding readings first_number
first_by P none listed [] counts = none
first_by P none listed (w ∷ words) [] = none
first_by P none listed (w ∷ words) (c ∷ counts) = go (first_by P none listed words counts) (reading_of w c) refl
  where
    go : P (first_number (readings words counts)) → (r : Reading) → reading_of w c ≡ r → P (first_number (r ∷ readings words counts))
    go ih (Heard f) e = ih
    go ih (Refused n) e = listed n (refusal-number w c n e)

pub first_small : (words counts : List ℕ) → first_number (readings words counts) ≤ 4
first_small = first_by (λ n. n ≤ 4) (omega arith) (λ n l. l.high)

-- with no refused minislot there is a feedback for each
pub all_feedback : (words counts : List ℕ) → first_number (readings words counts) ≡ 0
    → length (feedbacks (readings words counts)) ≡ length (readings words counts)
unfolding readings first_number feedbacks
all_feedback [] counts e = refl
all_feedback (w ∷ words) [] e = refl
all_feedback (w ∷ words) (c ∷ counts) e = go (all_feedback words counts) (reading_of w c) refl e
  where
    go : (first_number (readings words counts) ≡ 0 → length (feedbacks (readings words counts)) ≡ length (readings words counts))
        → (r : Reading) → reading_of w c ≡ r → first_number (r ∷ readings words counts) ≡ 0
        → length (feedbacks (r ∷ readings words counts)) ≡ suc (length (readings words counts))
    go ih (Heard f) q z = ap suc (ih z)
    go ih (Refused n) q z = absurd (omega (arith, (refusal-number w c n q).low))

-- and each minislot's reading is its feedback
pub feedback-at : (words counts : List ℕ) (j : ℕ) → first_number (readings words counts) ≡ 0 → length words ≡ length counts → j < length words
    → reading_of (get_or words j 0) (get_or counts j 0) ≡ Heard (get_or (feedbacks (readings words counts)) j Empty)
unfolding readings first_number feedbacks
feedback-at [] counts j e l h = absurd (omega arith)
feedback-at (w ∷ words) [] j e l h = absurd (omega arith)
feedback-at (w ∷ words) (c ∷ counts) j e l h = go (reading_of w c) refl j e h (λ i z. feedback-at words counts i z (omega arith))
  where
    go : (r : Reading) → reading_of w c ≡ r → (j : ℕ) → first_number (r ∷ readings words counts) ≡ 0 → j < suc (length words)
        → ((i : ℕ) → first_number (readings words counts) ≡ 0 → i < length words → reading_of (get_or words i 0) (get_or counts i 0) ≡ Heard (get_or (feedbacks (readings words counts)) i Empty))
        → reading_of (get_or (w ∷ words) j 0) (get_or (c ∷ counts) j 0) ≡ Heard (get_or (feedbacks (r ∷ readings words counts)) j Empty)
    go (Heard f) q zero z h ih = q
    go (Heard f) q (suc j) z h ih = ih j z (omega arith)
    go (Refused n) q j z h ih = absurd (omega (arith, (refusal-number w c n q).low))

module _ (m : ℕ) (words counts : List ℕ) where
  pub number_short : has_minislots m words counts ≡ false → (row_of m words counts).number ≡ 6
  unfolding row_of
  number_short e = rw e

  -- a row that is heard has m minislots
  pub number_zero : (row_of m words counts).number ≡ 0 → has_minislots m words counts ≡ true
  number_zero e = go (has_minislots m words counts) refl
    where
      go : (b : Bool) → has_minislots m words counts ≡ b → b ≡ true
      go true q = refl
      go false q = absurd (omega (arith, number_short q, e))

  number_of-answer : (n : ℕ) (l : List Feedback) → (row_answer n l).number ≡ n
  number_of-answer zero l = refl
  number_of-answer (suc n) l = refl

  module _ (whole : has_minislots m words counts ≡ true) where
    is-minislots : row_of m words counts ≡ minislots_of words counts
    unfolding row_of
    is-minislots = rw whole

    pub number-whole : (row_of m words counts).number ≡ first_number (readings words counts)
    unfolding minislots_of
    number-whole = rw is-minislots (number_of-answer (first_number (readings words counts)) (feedbacks (readings words counts)))

    module _ (heard : first_number (readings words counts) ≡ 0) where
      pub feedback_count : length (feedbacks (readings words counts)) ≡ m
      feedback_count =
          let t = row-tests m words counts whole in
          all_feedback words counts heard ∙ readings-length words counts (omega arith) ∙ t.2

      is-heard : row_of m words counts ≡ row_answer 0 (feedbacks (readings words counts))
      unfolding minislots_of
      is-heard = is-minislots ∙ rw heard

      pub weight-heard : (row_of m words counts).weight ≡ weight (feedbacks (readings words counts))
      weight-heard = rw is-heard

      pub array-heard : take m (feedback_in (row_of m words counts).minislots) ≡ feedbacks (readings words counts)
      array-heard =
          let t = row-tests m words counts whole in
          rw (is-heard, ← feedback_count) (padded-holds 8 (feedbacks (readings words counts)) (rw feedback_count t.1))
