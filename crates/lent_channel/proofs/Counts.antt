-- A room has 65 records, so no more is lent than there is: the first `min n 65` of 65 records are the first n, and the records after them are those after n.
-- Assumes nothing.
use mathlib.Core.Path.{◌≡◌, ap}
use Prim.Native.Nat.{ℕ, zero, suc, min}
use native.Mathlib.Nat.{zero-min, min-zero, suc-min-suc}
use mathlib.Core.List.{List, [], ◌∷◌}
use lib.ListN.{length, take, drop}

take_min : {X : Type 0} (n : ℕ) (l : List X) → take (min n (length l)) l ≡ take n l
take_min zero l = rw zero-min
take_min (suc n) [] = rw min-zero
take_min {X} (suc n) (x ∷ l) = rw suc-min-suc (ap (λ (r : List X). x ∷ r) (take_min n l))

drop_min : {X : Type 0} (n : ℕ) (l : List X) → drop (min n (length l)) l ≡ drop n l
drop_min zero l = rw zero-min
drop_min (suc n) [] = rw min-zero
drop_min (suc n) (x ∷ l) = rw suc-min-suc (drop_min n l)

module _ {X : Type 0} (l : List X) (e : length l ≡ 65) (n : ℕ) where
  pub first_of : take (min n 65) l ≡ take n l
  first_of = rw e at (take_min n l)

  pub rest_of : drop (min n 65) l ≡ drop n l
  rest_of = rw e at (drop_min n l)
