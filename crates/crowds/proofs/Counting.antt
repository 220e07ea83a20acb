-- Places named twice or more: the test passes just if every place of the queue is; and the test from the last place down. Assumes nothing.
use mathlib.Core.Path.{◌≡◌, refl, ap}
use mathlib.Core.Bool.{true, false, and-eq-true_iff}
use mathlib.Core.List.{List}
use Prim.Native.Nat.{ℕ, zero, suc, ◌-◌, ◌≤◌, ◌<◌}
use native.Mathlib.Omega.{arith}
use native.Mathlib.Decide.{dec_lt}
use mathlib.Core.Logic.{by_cases}
use borrow.Author.Tests.{leb-true, le-leb, lt-leb}
use Rattle.places.proofs.Counting.{times}
use Rattle.crowds.specs.Crowds.{named_twice, crowded}

pub two-or-more : (R : ℕ) (l : List ℕ) → crowded l R ≡ true → (i : ℕ) → i < R → 2 ≤ times (suc i) l
two-or-more zero l e i h = absurd (omega arith)
two-or-more (suc R) l e i h =
    by_cases (dec_lt i R) (λ w. two-or-more R l both.1 i w)
    (λ w. let q : suc i ≡ suc R = omega arith in rw q (leb-true 2 (times (suc R) l) both.0))
  where
    both : (named_twice l (suc R) ≡ true) × (crowded l R ≡ true)
    both = (and-eq-true_iff (named_twice l (suc R)) (crowded l R)).0 e

pub twice-each : (R : ℕ) (l : List ℕ) → ((i : ℕ) → i < R → 2 ≤ times (suc i) l) → crowded l R ≡ true
twice-each zero l h = refl
twice-each (suc R) l h = rw (le-leb 2 (times (suc R) l) (h R (omega arith))) (twice-each R l (λ i w. h i (omega arith)))

-- the last place: named twice or more, or the test fails there
pub crowded-next : (n : ℕ) (l : List ℕ) → 0 < n → 2 ≤ times n l → crowded l n ≡ crowded l (n - 1)
crowded-next zero l h w = absurd (omega arith)
crowded-next (suc n) l h w = rw (le-leb 2 (times (suc n) l) w) (ap (crowded l) (let e : n ≡ suc n - 1 = omega arith in e))

pub crowded_stop : (n : ℕ) (l : List ℕ) → 0 < n → times n l < 2 → crowded l n ≡ false
crowded_stop zero l h w = absurd (omega arith)
crowded_stop (suc n) l h w = rw (lt-leb 2 (times (suc n) l) w)
