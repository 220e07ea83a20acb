-- A step 1 that fits, of a row that was read, lands every newcomer inside its queue's limit. Assumes nothing.
use mathlib.Core.Path.{◌≡◌}
use mathlib.Core.Bool.{true, false}
use Rattle.minislot.specs.declared.RowReading.{RowReading}
use Rattle.rules.specs.declared.Counters.{Counters}
use Rattle.rules.specs.Hearing.{feedback_of, ReadRow}
use Rattle.rules.specs.Queueing.{passes, places_after, step_one_of}
use Rattle.rules.proofs.QueueingLaws.{fits-says}
use Rattle.newcomers.specs.Landable.{RowFits}

module _ (c : Counters) (row : RowReading) (fits : (step_one_of c (feedback_of c.minislots row)).fits ≡ true) where
  pub step_fits : ReadRow c.minislots row
      → RowFits (step_one_of c (feedback_of c.minislots row)).success (step_one_of c (feedback_of c.minislots row)).before (feedback_of c.minislots row)
  unfolding step_one_of places_after
  step_fits read = record { counted = read.counted; passed = fits-says c (feedback_of c.minislots row) fits }

  pub step-passes : passes (step_one_of c (feedback_of c.minislots row)).after ≡ false
  unfolding step_one_of
  step-passes = fits-says c (feedback_of c.minislots row) fits
