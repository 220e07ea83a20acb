-- A test that every element of a list passes together with its position. Assumes nothing.
use Rattle.std.specs.Prelude.{Bool, true, ◌&&◌, List, [], ◌∷◌, ℕ, suc}

-- the first element stands at position i
abbrev pub every_from : {A : Type 0} → (ℕ → A → Bool) → ℕ → List A → Bool
every_from test i [] = true
every_from test i (x ∷ l) = test i x && every_from test (suc i) l
