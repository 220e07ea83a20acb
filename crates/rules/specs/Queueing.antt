-- Step 1, queueing (QDR): immediate success, and the counters after each minislot (paper 01, "One slot of group g", 1; paper 02, T-05).
-- Assumes nothing.
use Rattle.std.specs.Prelude.{Bool, true, false, not, ◌&&◌, ◌||◌, ℕ, ◌+◌, ◌-◌, ltb, eqb, get_or, take}
use mathlib.Core.List.{List, foldl}
use Rattle.minislot.specs.declared.Feedback.{Feedback}
use Rattle.minislot.specs.declared.Feedback.TheVariants.{Empty, Single, Collide}
use Rattle.rules.specs.declared.Counters.{Counters}
use Rattle.rules.specs.declared.Places.{Places}
use Rattle.rules.specs.declared.StepOne.{StepOne}
use Rattle.rules.specs.Limits.{urgent_limit, long_limit, resolution_limit}
use Rattle.rules.specs.RowCounts.{short_singles, collides}

-- immediate success: the group's last slot was open, and the row heard of it has no Collide and exactly one Single of count 1. That one is
-- delivered, however many Singles of higher counts stand beside it, which join the long queue as ever. Why this is right: on an open turn
-- only requests of one slot send data, so where no two requests met and just one was of one slot, just one station sent (`open_slots`,
-- crate sound_slots). A click is a Collide here too
abbrev pub immediate : Bool → List Feedback → Bool
immediate opened row = opened && eqb (collides row) 0 && eqb (short_singles row) 1

-- a Single: whether success would be immediate, whether its count is 1, and its count
abbrev pub queued_single : Bool → Bool → ℕ → Places → Places
queued_single true true c p = p
queued_single false true c p = record { urgent = p.urgent + 1; long = p.long; resolution = p.resolution }
queued_single b false c p = record { urgent = p.urgent; long = p.long + c; resolution = p.resolution }

-- one minislot
abbrev pub queued : Bool → Places → Feedback → Places
queued b p Empty = p
queued b p (Single i c) = queued_single b (eqb c 1) c p
queued b p Collide = record { urgent = p.urgent; long = p.long; resolution = p.resolution + 1 }

-- minislots 1 to m, in order
unfoldable pub queued_row : Bool → Places → List Feedback → Places
queued_row b p row = foldl (queued b) p row

-- the lengths when the minislots before minislot j, from 1, have been counted
abbrev pub places_before : Bool → Places → List Feedback → ℕ → Places
places_before b p row j = queued_row b p (take (j - 1) row)

-- whether a sum passes its limit (refusal 7)
unfoldable pub passes : Places → Bool
passes p = ltb urgent_limit p.urgent || ltb long_limit p.long || ltb resolution_limit p.resolution

-- the lengths that a slot of the next group works on, and the group's Open mark
abbrev pub places_of : Counters → Places
places_of c = record { urgent = c.urgent; long = c.long; resolution = get_or c.resolution (c.next - 1) 0 }

abbrev pub opened_of : Counters → Bool
opened_of c = get_or c.opened (c.next - 1) false

-- whether success is immediate, decided from Open and the whole row before anything is queued
unfoldable pub immediate_of : Counters → List Feedback → Bool
immediate_of c row = immediate (opened_of c) row

-- the lengths after step 1
unfoldable pub places_after : Counters → List Feedback → Places
places_after c row = queued_row (immediate_of c row) (places_of c) row

-- STEP 1, counted once for whoever keeps these counters
unfoldable pub step_one_of : Counters → List Feedback → StepOne
step_one_of c row =
    record {
      success = immediate_of c row;
      before = places_of c;
      after = places_after c row;
      fits = not (passes (places_after c row));
    }
