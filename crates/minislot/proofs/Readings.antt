-- What a reading can be: a refusal's number is 1, 3 or 4, what each kind of word and count reads as, and the number and feedback in the paper's order. By the
-- tests of the definition.
-- Assumes nothing.
use mathlib.Core.Path.{◌≡◌, refl, ap, ◌∙◌}
use mathlib.Core.Bool.{Bool, true, false, cond, not, ◌&&◌}
use mathlib.Core.List.{[], ◌∷◌}
use mathlib.Core.Logic.{◌≢◌}
use Prim.Native.Nat.{ℕ, ◌<◌, ◌≤◌}
use native.Mathlib.Omega.{arith}
use lib.Count.{ones}
use lib.Dec.{eqb, ltb}
use borrow.Author.Tests.{lt-ltb, le-ltb, eq-eqb, ne_eqb, eqb-true, ltb-true}
use Rattle.pattern.specs.Patterns.{index_of}
use Rattle.minislot.specs.declared.Feedback.{Feedback}
use Rattle.minislot.specs.declared.Feedback.TheVariants.{Empty, Single, Collide}
use Rattle.minislot.specs.declared.Reading.{Reading}
use Rattle.minislot.specs.declared.Reading.TheVariants.{Heard, Refused}
use Rattle.minislot.specs.Reading.{reading_of, empty_of, single_of, reading_answer, reading_answer_of}

-- ---- each kind

module _ (word count : ℕ) where
  pub reads_1 : 4096 ≤ word → reading_of word count ≡ Refused 1
  unfolding reading_of
  reads_1 h = rw (lt-ltb 4095 word h)

  module _ (small : word < 4096) where
    pub reads-empty : ones word ≡ 0 → reading_of word count ≡ empty_of count
    unfolding reading_of
    reads-empty e = rw (le-ltb 4095 word (omega arith), eq-eqb (ones word) 0 e)

    pub reads-click : 1 ≤ ones word → ones word < 6 → reading_of word count ≡ Heard Collide
    unfolding reading_of
    reads-click lo hi = rw (le-ltb 4095 word (omega arith), ne_eqb (ones word) 0 (λ e. omega arith), lt-ltb (ones word) 6 hi)

    pub reads-single : ones word ≡ 6 → reading_of word count ≡ single_of word count
    unfolding reading_of
    reads-single e =
        rw (le-ltb 4095 word (omega arith), ne_eqb (ones word) 0 (λ z. omega arith), le-ltb (ones word) 6 (omega arith), eq-eqb (ones word) 6 e)

    pub reads_collide : 6 < ones word → reading_of word count ≡ Heard Collide
    unfolding reading_of
    reads_collide h =
        rw (le-ltb 4095 word (omega arith), ne_eqb (ones word) 0 (λ z. omega arith), le-ltb (ones word) 6 (omega arith), ne_eqb (ones word) 6 (λ z. omega arith))

-- ---- the number of a refusal

-- a number of the paper's list: 1, 3 or 4. 2 is retired
pub record Listed (n : ℕ) : Type 0 where
  pub low : 1 ≤ n
  pub high : n ≤ 4
  pub not_2 : n ≢ 2

-- a reading is heard, or refused with such a number
abbrev Numbered : Reading → Type 0
Numbered (Heard f) = Unit {0}
Numbered (Refused n) = Listed n

abbrev listed : (n : ℕ) → 1 ≤ n → n ≤ 4 → n ≢ 2 → Listed n
listed n low high ne = record { low = low; high = high; not_2 = ne }

numbered_if : (b : Bool) (x y : Reading) → Numbered x → Numbered y → Numbered (cond b x y)
numbered_if true x y p q = p
numbered_if false x y p q = q

numbered : (word count : ℕ) → Numbered (reading_of word count)
unfolding reading_of
numbered word count =
    numbered_if (ltb 4095 word) _ _ (listed 1 (omega arith) (omega arith) (λ e. omega arith))
    (numbered_if (eqb (ones word) 0) _ _
    (numbered_if (eqb count 0) (Heard Empty) (Refused 4) tt (listed 4 (omega arith) (omega arith) (λ e. omega arith)))
    (numbered_if (ltb (ones word) 6) (Heard Collide) _ tt
    (numbered_if (eqb (ones word) 6) _ _
    (numbered_if (eqb count 0) (Refused 3) _ (listed 3 (omega arith) (omega arith) (λ e. omega arith)) tt)
    tt)))

pub refusal-number : (word count n : ℕ) → reading_of word count ≡ Refused n → Listed n
refusal-number word count n e = rw e at (numbered word count)

-- ---- the number in the paper's order, and what is heard with 0

-- by the tests: a one above bit 11, no ones, fewer than six, six, and count 0
by_tests : (above none few six zero : Bool) (f : Feedback) → (none ≡ true → six ≡ false) → (few ≡ true → six ≡ false)
    → let n : ℕ = cond above 1 (cond (six && zero) 3 (cond (none && not zero) 4 0)) in
    reading_answer (cond above (Refused 1) (cond none (cond zero (Heard Empty) (Refused 4)) (cond few (Heard Collide) (cond six (cond zero (Refused 3) (Heard f)) (Heard Collide)))))
    ≡ (n, cond (eqb n 0) (cond none Empty (cond six f Collide) ∷ []) [])
by_tests true none few six zero f h k = refl
by_tests false true few six true f h k = rw (h refl)
by_tests false true few six false f h k = rw (h refl)
by_tests false false true six zero f h k = rw (k refl)
by_tests false false false true true f h k = refl
by_tests false false false true false f h k = refl
by_tests false false false false zero f h k = refl

pub reading-told : (word count : ℕ) (r : Reading) → r ≡ reading_of word count → (r ≡ reading_of word count) × (reading_answer r ≡ reading_answer_of word count)
unfolding reading_of reading_answer_of
reading-told word count r e = (
  e,
  ap reading_answer e
      ∙ by_tests (ltb 4095 word) (eqb (ones word) 0) (ltb (ones word) 6) (eqb (ones word) 6) (eqb count 0) (Single (index_of word) count)
      (λ none. ne_eqb (ones word) 6 (λ six. omega (arith, eqb-true (ones word) 0 none, six)))
      (λ few. ne_eqb (ones word) 6 (λ six. omega (arith, ltb-true (ones word) 6 few, six))),
)
