-- Step 1 for a newcomer: where the message that asked in each minislot comes to stand (paper 01, "One slot of group g", 1: "A newcomer
-- takes the new last place, or the last c places, of its queue"). Assumes nothing.
use Rattle.std.specs.Prelude.{Bool, true, false, List, [], ◌∷◌, ℕ, zero, suc, ◌+◌, eqb}
use Rattle.minislot.specs.declared.Feedback.{Feedback}
use Rattle.minislot.specs.declared.Feedback.TheVariants.{Empty, Single, Collide}
use Rattle.rules.specs.declared.Places.{Places}
use Rattle.rules.specs.declared.Landed.{Landed}
pub use Rattle.rules.specs.declared.Landing.{Landing}
pub use Rattle.rules.specs.declared.Landing.TheVariants.{Gone, ToUrgent, ToLong, ToResolution}
use Rattle.rules.specs.StationLimits.{Condition, Free, Resolving, Urgent, Long}
use Rattle.rules.specs.Queueing.{queued}

-- a Single: whether success would be immediate, whether its count is 1; p is the lengths before its minislot
abbrev pub lands_alone : Bool → Bool → Places → Landing
lands_alone true true p = Gone
lands_alone false true p = ToUrgent (p.urgent + 1)
lands_alone b false p = ToLong (p.long + 1)

-- what is heard in a minislot
abbrev pub lands_after : Bool → Places → Feedback → Landing
lands_after b p Empty = Gone
lands_after b p (Single i c) = lands_alone b (eqb c 1) p
lands_after b p Collide = ToResolution (p.resolution + 1)

abbrev pub at : Landing → Landed
at x = record { landing = x }

-- the first n minislots of a row, in order; p is the lengths before the first of them
unfoldable pub landings : Bool → Places → List Feedback → ℕ → List Landed
landings b p row zero = []
landings b p [] (suc n) = at Gone ∷ landings b p [] n
landings b p (f ∷ row) (suc n) = at (lands_after b p f) ∷ landings b (queued b p f) row n

-- a message of t slots that lands there in a slot of group g
abbrev pub stands : ℕ → Landing → ℕ → Condition
stands g Gone t = Free
stands g (ToUrgent i) t = Urgent i
stands g (ToLong f) t = Long f t t
stands g (ToResolution i) t = Resolving g i t
