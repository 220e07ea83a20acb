-- What the outcome asks for: a row that was read, and lengths that pass no limit. Assumes nothing.
use Rattle.std.specs.Prelude.{◌≡◌, true}
use Rattle.minislot.specs.declared.RowReading.{RowReading}
use Rattle.rules.specs.declared.Counters.{Counters}
use Rattle.rules.specs.declared.StepOne.{StepOne}
use Rattle.rules.specs.Limits.{within_limits}
use Rattle.rules.specs.Hearing.{feedback_of, ReadRow}
use Rattle.rules.specs.Queueing.{step_one_of}

-- counters within their limits, a row that was read, and its step 1, which fits
pub record Countable (c : Counters) (row : RowReading) (one : StepOne) : Type 0 where
  pub within : within_limits c ≡ true
  pub read : ReadRow c.minislots row
  pub counted : one ≡ step_one_of c (feedback_of c.minislots row)
  pub fits : one.fits ≡ true
