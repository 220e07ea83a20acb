-- How one slot changes each counter, by the row's feedback and the turn: the law that a listener's user goes by. Assumes nothing.
use Rattle.std.specs.Prelude.{◌≡◌, Bool, false, cond, List, ℕ, ◌+◌, ◌-◌, get_or}
use Rattle.minislot.specs.declared.Feedback.{Feedback}
use Rattle.rules.specs.declared.Counters.{Counters}
use Rattle.rules.specs.RowCounts.{short_singles, long_slots, collides}
use Rattle.rules.specs.Queueing.{immediate_of, places_after}
use Rattle.rules.specs.declared.Turn.{Turn}
use Rattle.rules.specs.declared.Turn.TheVariants.{Owned as OwnedTurn, Urgent as UrgentTurn, Long as LongTurn}
use Rattle.rules.specs.declared.Turn.TheVariants.{Resolve as ResolveTurn, Open as OpenTurn}
use Rattle.rules.specs.Calendars.{owner_of, position_after}
use Rattle.rules.specs.Turns.{turn_of, is_open}
use Rattle.rules.specs.Falling.{fallen, following}

-- what a turn takes: 1 from the queue that it serves; an owned slot serves none
abbrev pub urgent_served : Turn → ℕ
urgent_served (OwnedTurn x) = 0
urgent_served UrgentTurn = 1
urgent_served LongTurn = 0
urgent_served ResolveTurn = 0
urgent_served OpenTurn = 0

abbrev pub long_served : Turn → ℕ
long_served (OwnedTurn x) = 0
long_served UrgentTurn = 0
long_served LongTurn = 1
long_served ResolveTurn = 0
long_served OpenTurn = 0

-- the turn of a slot, and the record after it
abbrev pub turn_in : Counters → List Feedback → Turn
turn_in c row = turn_of (owner_of c) (places_after c row)

abbrev pub after_slot : Counters → List Feedback → Counters
after_slot c row = fallen c (places_after c row)

-- group g's RQ and mark
abbrev pub resolution_of : Counters → ℕ → ℕ
resolution_of c g = get_or c.resolution (g - 1) 0

abbrev pub mark_of : Counters → ℕ → Bool
mark_of c g = get_or c.opened (g - 1) false

-- one slot of the next group: H grows by the Singles of count 1, unless success was immediate, and N by the slots of the others; each is
-- served by its own turn; RQ of the group grows by the Collides and falls by 1 if it holds a place; its mark is whether the turn was open;
-- the other groups' counters stay, and so does the calendar; the next group and the next position follow
pub record Changes (c : Counters) (row : List Feedback) : Type 0 where
  pub urgent : (after_slot c row).urgent + urgent_served (turn_in c row) ≡ c.urgent + cond (immediate_of c row) 0 (short_singles row)
  pub long : (after_slot c row).long + long_served (turn_in c row) ≡ c.long + long_slots row
  pub resolution : resolution_of (after_slot c row) c.next ≡ resolution_of c c.next + collides row - 1
  pub mark : mark_of (after_slot c row) c.next ≡ is_open (turn_in c row)
  pub others : (g : ℕ) → (g - 1 ≡ c.next - 1 → ⊥)
      → (resolution_of (after_slot c row) g ≡ resolution_of c g) × (mark_of (after_slot c row) g ≡ mark_of c g)
  pub next : (after_slot c row).next ≡ following c.groups c.next
  pub calendar : (after_slot c row).calendar ≡ c.calendar
  pub position : (after_slot c row).position ≡ position_after c.position
