-- A list of f at 0, 1, .. below n: its elements, and the same with one of them changed. Assumes nothing.
use mathlib.Core.Path.{◌≡◌, refl}
use mathlib.Core.Logic.{◌≢◌}
use Prim.Native.Nat.{ℕ, zero, suc, ◌<◌}
use native.Mathlib.Omega.{arith}
use lib.ListN.{get_or, set}
use Rattle.listlaws.specs.Lists.{tabulate}

module _ {A : Type 0} where
  pub tabulate-at : (n : ℕ) (f : ℕ → A) (i : ℕ) (d : A) → i < n → get_or (tabulate n f) i d ≡ f i
  tabulate-at zero f i d h = absurd (omega arith)
  tabulate-at (suc n) f zero d h = refl
  tabulate-at (suc n) f (suc i) d h = tabulate-at n (λ k. f (suc k)) i d (omega arith)

  pub tabulate-cong : (n : ℕ) (f g : ℕ → A) → ((i : ℕ) → i < n → f i ≡ g i) → tabulate n f ≡ tabulate n g
  tabulate-cong zero f g h = refl
  tabulate-cong (suc n) f g h = rw (h 0 (omega arith), tabulate-cong n (λ i. f (suc i)) (λ i. g (suc i)) (λ i w. h (suc i) (omega arith)))

  -- an element changed: the others stay, and one past the end changes nothing
  pub tabulate-set : (n : ℕ) (f g : ℕ → A) (j : ℕ) (x : A) → (j < n → x ≡ g j) → ((i : ℕ) → i ≢ j → f i ≡ g i) → set (tabulate n f) j x ≡ tabulate n g
  tabulate-set zero f g j x e h = refl
  tabulate-set (suc n) f g zero x e h =
      rw (e (omega arith), tabulate-cong n (λ i. f (suc i)) (λ i. g (suc i)) (λ i w. h (suc i) (λ z. omega arith)))
  tabulate-set (suc n) f g (suc j) x e h =
      rw (h 0 (λ z. omega arith), tabulate-set n (λ i. f (suc i)) (λ i. g (suc i)) j x (λ w. e (omega arith)) (λ i w. h (suc i) (λ z. w (omega arith))))
