-- A test that a whole list passes, and the same test at each position: by one the other is shown. So a table's rule is shown at every index
-- by one test that is computed over the table, and a loop that tests one element after the other tests the list.
-- Assumes nothing.
use mathlib.Core.Path.{◌≡◌, refl, subst}
use mathlib.Core.Bool.{Bool, true, false, and-eq-true_iff, and-false}
use mathlib.Core.List.{List, [], ◌∷◌}
use Prim.Native.Nat.{ℕ, zero, suc, ◌+◌, ◌<◌}
use native.Mathlib.Nat.{add-zero, zero-add, add-suc, suc-add, le_of_suc-le-suc, not-suc-le-zero}
use native.Mathlib.Omega.{arith}
use lib.ListN.{length, get_or}
use Rattle.listlaws.specs.Every.{every_from}

module _ {A : Type 0} (test : ℕ → A → Bool) (d : A) where
  pub from_at : (l : List A) (i : ℕ) → every_from test i l ≡ true → (k : ℕ) → k < length l → test (i + k) (get_or l k d) ≡ true
  from_at [] i e k h = absurd (not-suc-le-zero h)
  from_at (x ∷ l) i e zero h = rw add-zero ((and-eq-true_iff (test i x) (every_from test (suc i) l)).0 e).0
  from_at (x ∷ l) i e (suc k) h =
      rw (add-suc, ← suc-add i k) (from_at l (suc i) ((and-eq-true_iff (test i x) (every_from test (suc i) l)).0 e).1 k (le_of_suc-le-suc h))

  pub from_fails : (l : List A) (i k : ℕ) → k < length l → test (i + k) (get_or l k d) ≡ false → every_from test i l ≡ false
  from_fails [] i k h e = absurd (not-suc-le-zero h)
  from_fails (x ∷ l) i zero h e = let w : test i x ≡ false = rw add-zero at e in rw w
  from_fails (x ∷ l) i (suc k) h e =
      let w : test (suc i + k) (get_or l k d) ≡ false = rw (add-suc, ← suc-add i k) at e in
      rw (from_fails l (suc i) k (le_of_suc-le-suc h) w, and-false)

  pub from-holds : (l : List A) (i : ℕ) → ((k : ℕ) → k < length l → test (i + k) (get_or l k d) ≡ true) → every_from test i l ≡ true
  from-holds [] i h = refl
  from-holds (x ∷ l) i h =
      let w : test i x ≡ true = rw add-zero at (h zero (omega arith)) in
      rw w (from-holds l (suc i) (λ k q. rw (suc-add, ← add-suc i k) (h (suc k) (omega arith))))

  -- a test that the whole list passes holds at each position
  pub every-at : (l : List A) → every_from test 0 l ≡ true → (k : ℕ) → k < length l → test k (get_or l k d) ≡ true
  every-at l e k h = subst (λ (n : ℕ). test n (get_or l k d) ≡ true) (zero-add k) (from_at l 0 e k h)

  -- one that fails at a position fails
  pub every_fails : (l : List A) (k : ℕ) → k < length l → test k (get_or l k d) ≡ false → every_from test 0 l ≡ false
  every_fails l k h e = from_fails l 0 k h (rw zero-add e)

  -- and one that holds at each position holds
  pub every_holds : (l : List A) → ((k : ℕ) → k < length l → test k (get_or l k d) ≡ true) → every_from test 0 l ≡ true
  every_holds l h = from-holds l 0 (λ k q. rw zero-add (h k q))
