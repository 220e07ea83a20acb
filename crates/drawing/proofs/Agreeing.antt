-- Two tests that agree at each position agree. Assumes nothing.
use mathlib.Core.Path.{◌≡◌, refl}
use mathlib.Core.Bool.{Bool, true, false, ◌&&◌}
use mathlib.Core.List.{List, [], ◌∷◌}
use Prim.Native.Nat.{ℕ, suc, ◌+◌, ◌<◌}
use native.Mathlib.Omega.{arith}
use lib.ListN.{length}
use Rattle.listlaws.specs.Every.{every_from}

pub and_same : (b x y : Bool) → (b ≡ true → x ≡ y) → b && x ≡ b && y
and_same true x y h = h refl
and_same false x y h = refl

pub every-same : {A : Type 0} (f g : ℕ → A → Bool) (n : ℕ) (l : List A) → ((k : ℕ) (x : A) → k < n + length l → f k x ≡ g k x) → every_from f n l ≡ every_from g n l
every-same f g n [] h = refl
every-same f g n (x ∷ l) h = rw (h n x (omega arith), every-same f g (suc n) l (λ k y q. h k y (omega arith)))
