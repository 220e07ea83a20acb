-- The lines of the groups, one after another: the next of them, and none beyond the last group's. By induction on the number of groups.
-- Assumes nothing.
use mathlib.Core.Path.{◌≡◌, refl}
use mathlib.Core.List.{List, [], ◌∷◌}
use Prim.Native.Nat.{ℕ, zero, suc, ◌+◌, ◌≤◌, ◌<◌}
use native.Mathlib.Numerals.{add-one}
use native.Mathlib.Omega.{arith}
use lib.ListN.{drop}
use lib.Seq.{drop-nil}
use Rattle.listlaws.specs.Lists.{tabulate}
use Rattle.wire_lines.specs.WireLines.{groups_lines}

module _ {A : Type 0} where
  next_of : (n : ℕ) (f : ℕ → A) (i : ℕ) → i < n → drop i (tabulate n f) ≡ f i ∷ drop (suc i) (tabulate n f)
  next_of zero f i h = absurd (omega arith)
  next_of (suc n) f zero h = refl
  next_of (suc n) f (suc i) h = next_of n (λ k. f (suc k)) i (omega arith)

  none_of : (n : ℕ) (f : ℕ → A) (i : ℕ) → n ≤ i → drop i (tabulate n f) ≡ []
  none_of zero f i h = drop-nil i
  none_of (suc n) f zero h = absurd (omega arith)
  none_of (suc n) f (suc i) h = none_of n (λ k. f (suc k)) i (omega arith)

module _ (n : ℕ) (line : ℕ → List ℕ) (i : ℕ) where
  pub next-group : i < n → drop i (groups_lines n line) ≡ line (i + 1) ∷ drop (i + 1) (groups_lines n line)
  next-group h = rw (← add-one i) at (next_of n (λ k. line (k + 1)) i h)

  pub no_group : n ≤ i → drop i (groups_lines n line) ≡ []
  no_group h = none_of n (λ k. line (k + 1)) i h
