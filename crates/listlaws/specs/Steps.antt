-- A list whose elements take a step one after the other, each with an element of a second list. Assumes nothing.
use Rattle.std.specs.Prelude.{List, [], ◌∷◌, ℕ, zero, suc}

module _ {X Y : Type 0} (f : X → Y → X) where
  -- every element has taken its step, as far as the second list goes
  unfoldable pub all_steps : List X → List Y → List X
  all_steps [] ps = []
  all_steps (x ∷ xs) [] = x ∷ xs
  all_steps (x ∷ xs) (p ∷ ps) = f x p ∷ all_steps xs ps

  -- the first i have
  abbrev pub first_steps : ℕ → List X → List Y → List X
  first_steps zero xs ps = xs
  first_steps (suc i) [] ps = []
  first_steps (suc i) (x ∷ xs) [] = x ∷ xs
  first_steps (suc i) (x ∷ xs) (p ∷ ps) = f x p ∷ first_steps i xs ps

-- the step that puts the second list's element in the place of the first's
abbrev pub latter : {X : Type 0} → X → X → X
latter y x = x

-- what each element gives with its element of a second list, as far as both go
abbrev pub each_with : {X Y Z : Type 0} → (X → Y → Z) → List X → List Y → List Z
each_with f [] ps = []
each_with f (x ∷ xs) [] = []
each_with f (x ∷ xs) (p ∷ ps) = f x p ∷ each_with f xs ps
