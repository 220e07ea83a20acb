-- A count above an array's size takes the whole array. Assumes nothing.
use mathlib.Core.Path.{◌≡◌}
use mathlib.Core.List.{List}
use Prim.Native.Nat.{ℕ, min}
use lib.ListN.{length, take}
use Rattle.listlaws.proofs.Beyond.{take-most}

-- an array has no more elements than its size
pub all-taken : {A : Type 0} {size : ℕ} (l : List A) → length l ≡ size → (count n : ℕ) → n ≡ min count size → take n l ≡ take count l
all-taken {size = size} l full count n e = rw e (take-most count size l full)
