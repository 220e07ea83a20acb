-- Bounds that step 1 asks for or gives, so that no sum passes its type. Assumes nothing.
use Rattle.std.specs.Prelude.{ℕ, ◌+◌, ◌≤◌}
use Rattle.rules.specs.declared.Places.{Places}

-- every length is at most n
pub record Within (n : ℕ) (p : Places) : Type 0 where
  pub urgent : p.urgent ≤ n
  pub long : p.long ≤ n
  pub resolution : p.resolution ≤ n

-- from p to r one minislot is queued
pub record Grown (p r : Places) : Type 0 where
  pub urgent : r.urgent ≤ p.urgent + 1
  pub long : r.long ≤ p.long + 255
  pub resolution : r.resolution ≤ p.resolution + 1
