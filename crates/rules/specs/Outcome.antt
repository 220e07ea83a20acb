-- The outcome of a slot: what all stations with the same counters have in common, from the counters and the row's feedback (paper 01, "One
-- slot of group g"). Assumes nothing.
use Rattle.std.specs.Prelude.{Bool, ◌&&◌, cond, List, [], ◌∷◌, ℕ, ◌+◌, eqb}
use Rattle.minislot.specs.declared.Feedback.{Feedback}
use Rattle.minislot.specs.declared.Feedback.TheVariants.{Empty, Single, Collide}
use Rattle.rules.specs.declared.Counters.{Counters}
use Rattle.rules.specs.declared.Outcome.{Outcome}
use Rattle.rules.specs.declared.StepOne.{StepOne}
use Rattle.rules.specs.Calendars.{owner_of}
use Rattle.rules.specs.Queueing.{step_one_of}
use Rattle.rules.specs.Turns.{turn_of}
use Rattle.rules.specs.Falling.{fallen}
use Rattle.rules.specs.Landing.{landings}

-- delivered: data sent on an open turn, when its row is heard and was immediate success (paper 01, "The channel")
abbrev pub success_in : Bool → Feedback → ℕ
success_in b Empty = 0
success_in b (Single i c) = cond (b && eqb c 1) 1 0
success_in b Collide = 0

abbrev pub successes : Bool → List Feedback → ℕ
successes b [] = 0
successes b (f ∷ row) = success_in b f + successes b row

-- by step 1, counted once
unfoldable pub outcome_by : Counters → List Feedback → StepOne → Outcome
outcome_by c row one =
    record {
      group = c.next;
      turn = turn_of (owner_of c) one.after;
      resolution = one.after.resolution;
      landed = landings one.success one.before row 8;
      counters = fallen c one.after;
      delivered = successes one.success row;
    }

-- THE OUTCOME
abbrev pub outcome_of : Counters → List Feedback → Outcome
outcome_of c row = outcome_by c row (step_one_of c row)
