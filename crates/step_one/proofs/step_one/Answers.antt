-- `step_one` is step 1, each part by the function of its rule. Assumes nothing.
use Rattle.rules.specs.Queueing.{immediate_of, places_after, step_one_of}
use Rattle.step_one.proofs.step_one.Goals as goal

pub queue_row-after-requires : goal.queue_row-after-requires
queue_row-after-requires c = c.places_of-before.ensures.fits

pub returns : goal.returns
unfolding step_one_of places_after immediate_of
returns c =
    rw (
      c.passes_limit.ensures,
      c.queue_row-after.ensures,
      c.immediate_success-success.ensures,
      c.opened_of.ensures,
      c.places_of-before.ensures.value,
    )
