-- `outcome` works each field out by the function of its rule, from a step 1 that fits. Assumes nothing.
use mathlib.Core.Path.{◌≡◌, sym, subst, ap, ◌∙◌}
use mathlib.Core.Bool.{false}
use native.Mathlib.Omega.{arith}
use Rattle.rules.specs.declared.StepOne.{StepOne}
use Rattle.rules.specs.Hearing.{feedback_of}
use Rattle.rules.specs.Queueing.{passes}
use Rattle.rules.specs.Outcome.{outcome_by}
use Rattle.rules.proofs.LimitLaws.{within-limits, calendar-in}
use Rattle.newcomers.specs.Landable.{RowFits}
use Rattle.outcomes.proofs.Fitting.{step_fits, step-passes}
use Rattle.outcomes.proofs.outcome.Goals as goal

pub landings-requires : goal.landings-requires
landings-requires c =
    let a = c.args in
    let q = c.requires in
    subst (λ (o : StepOne). RowFits o.success o.before (feedback_of a.c.minislots a.row)) (sym q.counted)
    (step_fits a.c a.row (ap (λ (o : StepOne). o.fits) (sym q.counted) ∙ q.fits) q.read)

pub fall-requires : goal.fall-requires
fall-requires c =
    let a = c.args in
    let q = c.requires in
    let w = within-limits a.c q.within in (
      (w.next.0, omega arith, (calendar-in a.c w.calendar).position),
      subst (λ (o : StepOne). passes o.after ≡ false) (sym q.counted) (step-passes a.c a.row (ap (λ (o : StepOne). o.fits) (sym q.counted) ∙ q.fits)),
    )

pub returns : goal.returns
unfolding outcome_by
returns c =
    rw (
      c.successes_in.ensures,
      c.fall.ensures,
      c.landings.ensures,
      c.turn.ensures,
      c.coming.ensures,
      c.requires.counted,
    )
