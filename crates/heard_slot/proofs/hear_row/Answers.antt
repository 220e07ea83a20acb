-- `hear_row` gives 7 or 12, or the station's step by the slot's outcome. Assumes nothing.
use mathlib.Core.Path.{◌∙◌, sym, ap}
use Rattle.rules.specs.declared.StepOne.{StepOne}
use Rattle.rules.proofs.LimitLaws.{station_in}
use Rattle.rules.proofs.StationLaws.{heard_7, heard_12, heard-goes}
use Rattle.heard_slot.proofs.hear_row.Goals as goal

pub returns-then-not-fits : goal.returns-then-not-fits
returns-then-not-fits c =
    c.refused_slot.ensures ∙ heard_7 _ _ _ _ (ap (λ (x : StepOne). x.fits) (sym c.step_one-one.ensures) ∙ c.if-not-fits.true)

pub returns-then-not-own : goal.returns-then-not-own
returns-then-not-own c =
    let fits = ap (λ (x : StepOne). x.fits) (sym c.step_one-one.ensures) ∙ c.if-not-fits.false in
    c.refused_slot-then-not-own.ensures ∙ heard_12 _ _ _ _ fits (sym c.hears_itself-own.ensures ∙ c.if-not-own.true)

pub outcome-o-requires : goal.outcome-o-requires
outcome-o-requires c =
    let p = c.requires in
    record {
      within = (station_in _ p.within).counters;
      read = p.read;
      counted = c.step_one-one.ensures;
      fits = c.if-not-fits.false;
    }

pub returns : goal.returns
returns c =
    let fits = ap (λ (x : StepOne). x.fits) (sym c.step_one-one.ensures) ∙ c.if-not-fits.false in
    c.step.ensures ∙ rw c.outcome-o.ensures
    (heard-goes _ _ _ _ fits (sym c.hears_itself-own.ensures ∙ c.if-not-own.false))
