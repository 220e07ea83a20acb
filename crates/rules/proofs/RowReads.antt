-- What holds of a row that was read (specs/Hearing), from the words and counts that it was read of. Assumes nothing.
use mathlib.Core.Path.{◌≡◌, refl, sym, ◌∙◌}
use mathlib.Core.Bool.{Bool, true, false, cond}
use mathlib.Core.List.{List, [], ◌∷◌}
use Prim.Native.Nat.{ℕ, zero, suc, ◌+◌, ◌≤◌}
use native.Mathlib.Omega.{arith}
use lib.Count.{ones}
use lib.Dec.{ltb, eqb}
use lib.ListN.{length, get_or, take, drop, length-take, length-drop}
use borrow.Author.Tests.{eqb-false}
use Rattle.minislot.specs.declared.Feedback.TheVariants.{Empty}
use Rattle.minislot.specs.declared.Reading.{Reading}
use Rattle.minislot.specs.declared.Reading.TheVariants.{Heard, Refused}
use Rattle.minislot.specs.Reading.{reading_of}
use Rattle.rows.specs.Row.{readings, feedbacks, first_number, has_minislots, row_of}
use Rattle.rows.proofs.Row.{row-tests}
use Rattle.rows.proofs.Answers.{number_zero, number_short, number-whole, array-heard}
use Rattle.rules.specs.Hearing.{Counted, feedback_of, ReadRow}

-- every Single that is read counts one slot or more
abbrev CountedReading : Reading → Type 0
CountedReading (Heard f) = Counted f
CountedReading (Refused n) = Unit {0}

counted_if : (b : Bool) (x y : Reading) → (b ≡ true → CountedReading x) → (b ≡ false → CountedReading y) → CountedReading (cond b x y)
counted_if true x y p q = p refl
counted_if false x y p q = q refl

counted-reading : (w c : ℕ) → CountedReading (reading_of w c)
unfolding reading_of
counted-reading w c =
    counted_if (ltb 4095 w) _ _ (λ e. tt) (λ e.
    counted_if (eqb (ones w) 0) _ _ (λ e. counted_if (eqb c 0) (Heard Empty) (Refused 4) (λ e. tt) (λ e. tt)) (λ e.
    counted_if (ltb (ones w) 6) _ _ (λ e. tt) (λ e.
    counted_if (eqb (ones w) 6) _ _ (λ e. counted_if (eqb c 0) (Refused 3) _ (λ e. tt) (λ e. let o = eqb-false c 0 e in omega arith)) (λ e. tt))))

counted-row : (words counts : List ℕ) (k : ℕ) → Counted (get_or (feedbacks (readings words counts)) k Empty)
unfolding readings feedbacks
counted-row [] counts k = tt
counted-row (w ∷ words) [] k = tt
counted-row (w ∷ words) (c ∷ counts) k = go (counted-row words counts) (reading_of w c) (counted-reading w c) k
  where
    go : ((k : ℕ) → Counted (get_or (feedbacks (readings words counts)) k Empty)) → (r : Reading) → CountedReading r
        → (k : ℕ) → Counted (get_or (feedbacks (r ∷ readings words counts)) k Empty)
    go ih (Heard f) h zero = h
    go ih (Heard f) h (suc k) = ih k
    go ih (Refused n) h k = ih k

-- a row that is not refused
module _ (m : ℕ) (words counts : List ℕ) (none : (row_of m words counts).number ≡ 0) where
  whole : has_minislots m words counts ≡ true
  whole = number_zero m words counts none

  pub none-refused : first_number (readings words counts) ≡ 0
  none-refused = sym (number-whole m words counts whole) ∙ none

  pub feedback_is : feedback_of m (row_of m words counts) ≡ feedbacks (readings words counts)
  feedback_is = array-heard m words counts whole none-refused

  pub read-row : ReadRow m (row_of m words counts)
  read-row = record { counted = λ k. rw feedback_is (counted-row words counts k) }

-- a row from the middle of a recording that is not short lies inside it
pub row_inside : (m start : ℕ) (words counts : List ℕ)
    → ((row_of m (take m (drop start words)) (take m (drop start counts))).number ≡ 6 → ⊥) → start + m ≤ length words
row_inside m start words counts h = go (has_minislots m (take m (drop start words)) (take m (drop start counts))) refl
  where
    go : (b : Bool) → has_minislots m (take m (drop start words)) (take m (drop start counts)) ≡ b → start + m ≤ length words
    go true q =
        let t = row-tests m (take m (drop start words)) (take m (drop start counts)) q in
        omega (arith, t, length-take m (drop start words), length-drop start words)
    go false q = absurd (h (number_short m (take m (drop start words)) (take m (drop start counts)) q))
