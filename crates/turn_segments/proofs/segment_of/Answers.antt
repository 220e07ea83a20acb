-- `segment_of` goes by the turn: a kind's limits are those of `of_kind`, and a turn that takes neither is refused by 13.
-- Assumes nothing.
use Rattle.message.specs.Message.{fits_short, fits_long}
use Rattle.turn_segments.specs.TurnSegment.{by_turn, within, taken_number, taken_part, turn_segment_number, turn_segment_of}
use Rattle.turn_segments.proofs.segment_of.Goals as goal

pub returns-in-Owned : goal.returns-in-Owned
unfolding turn_segment_of turn_segment_number by_turn
returns-in-Owned c =
    record { part = rw c.in-Owned.is c.refuse.ensures.part; told = rw c.in-Owned.is c.refuse.ensures.told }

pub returns-in-Urgent : goal.returns-in-Urgent
unfolding turn_segment_of turn_segment_number by_turn taken_part taken_number within fits_short
returns-in-Urgent c =
    record { part = rw c.in-Urgent.is c.of_kind.ensures.part; told = rw c.in-Urgent.is c.of_kind.ensures.told }

pub returns-in-Long : goal.returns-in-Long
unfolding turn_segment_of turn_segment_number by_turn taken_part taken_number within fits_long
returns-in-Long c =
    record { part = rw c.in-Long.is c.of_kind-in-Long.ensures.part; told = rw c.in-Long.is c.of_kind-in-Long.ensures.told }

pub returns-in-Resolve : goal.returns-in-Resolve
unfolding turn_segment_of turn_segment_number by_turn
returns-in-Resolve c =
    record { part = rw c.in-Resolve.is c.refuse-in-Resolve.ensures.part; told = rw c.in-Resolve.is c.refuse-in-Resolve.ensures.told }

pub returns-in-Open : goal.returns-in-Open
unfolding turn_segment_of turn_segment_number by_turn taken_part taken_number within fits_short
returns-in-Open c =
    record { part = rw c.in-Open.is c.of_kind-in-Open.ensures.part; told = rw c.in-Open.is c.of_kind-in-Open.ensures.told }
