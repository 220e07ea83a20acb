-- A row's weight fits a byte with room to spare (paper 02, T-03): a minislot adds at most 2, a Collide just that, and a row has at most 8.
-- Assumes nothing.
use Rattle.std.specs.Prelude.{◌≡◌, List, ℕ, ◌≤◌, length, replicate}
use Rattle.minislot.specs.declared.Feedback.{Feedback}
use Rattle.minislot.specs.declared.Feedback.TheVariants.{Collide}
use Rattle.rows.specs.Row.{weight, row_of}

pub record WeightFits : Type 0 where
  -- of every row of at most 8 minislots the weight is at most 16
  pub most : (row : List Feedback) → length row ≤ 8 → weight row ≤ 16
  -- and eight Collides weigh 16
  pub reached : weight (replicate 8 Collide) ≡ 16
  -- so of whatever is read, refused rows too, and of eight collided words
  pub read-most : (m : ℕ) (words counts : List ℕ) → (row_of m words counts).weight ≤ 16
  pub read-reached : (row_of 8 (replicate 8 4095) (replicate 8 0)).weight ≡ 16
