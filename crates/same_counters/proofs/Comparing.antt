-- What `==` answers at two lists of numbers, or of marks, is what the rules of a table say. Assumes nothing.
use mathlib.Core.Path.{◌≡◌, refl, ap}
use mathlib.Core.Bool.{Bool, ◌&&◌, beq}
use mathlib.Core.List.{List, [], ◌∷◌}
use Prim.Native.Nat.{ℕ}
use lib.Dec.{eqb}
use lib.Pointwise.{pointwise}
use Rattle.channel_rules.specs.Soundness.{same_numbers, same_marks}

pub numbers : (a b : List ℕ) → pointwise eqb a b ≡ same_numbers a b
numbers [] [] = refl
numbers [] (y ∷ b) = refl
numbers (x ∷ a) [] = refl
numbers (x ∷ a) (y ∷ b) = ap (λ (r : Bool). eqb x y && r) (numbers a b)

pub marks : (a b : List Bool) → pointwise beq a b ≡ same_marks a b
marks [] [] = refl
marks [] (y ∷ b) = refl
marks (x ∷ a) [] = refl
marks (x ∷ a) (y ∷ b) = ap (λ (r : Bool). beq x y && r) (marks a b)
