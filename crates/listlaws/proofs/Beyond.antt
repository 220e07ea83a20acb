-- What is read or taken of a list beyond its end. Assumes nothing.
use mathlib.Core.Path.{◌≡◌, refl, sym, ◌∙◌}
use mathlib.Core.List.{List, [], ◌∷◌}
use mathlib.Core.Logic.{by_cases}
use Prim.Native.Nat.{ℕ, zero, suc, ◌<◌, min}
use native.Mathlib.Decide.{dec_lt}
use native.Mathlib.Omega.{arith}
use lib.ListN.{length, get_or, take}
use lib.Seq.{take_all}

module _ {A : Type 0} where
  -- an element is the same whatever stands for a missing one
  pub get_d_any : (l : List A) (i : ℕ) (d e : A) → i < length l → get_or l i d ≡ get_or l i e
  get_d_any [] i d e h = absurd (omega arith)
  get_d_any (x ∷ l) zero d e h = refl
  get_d_any (x ∷ l) (suc i) d e h = get_d_any l i d e (omega arith)

  -- no more is taken than there is
  pub take-most : (n k : ℕ) (l : List A) → length l ≡ k → take (min n k) l ≡ take n l
  take-most n k l full =
      by_cases (dec_lt n k) (λ h. let e : min n k ≡ n = omega arith in rw e) (λ h. take_all (min n k) l (omega arith) ∙ sym (take_all n l (omega arith)))
