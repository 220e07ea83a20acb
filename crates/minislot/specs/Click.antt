-- A click on the line (paper 02, T-01: "a word with one to five ones where nobody sent"). No pattern has so few ones, so no request makes
-- one. Assumes nothing.
use Rattle.std.specs.Prelude.{ℕ, ◌<◌, ◌≤◌}
use Rattle.std.specs.Int.Count.{ones}

-- no one above bit 11, and one to five ones
pub record Click (word : ℕ) : Type 0 where
  pub twelve : word < 4096
  pub some : 1 ≤ ones word
  pub few : ones word ≤ 5
