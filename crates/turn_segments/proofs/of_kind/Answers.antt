-- `of_kind` meets its contract: each test shows that the length is outside the kind, and past both it is a message's.
-- Assumes nothing.
use native.Mathlib.Omega.{arith}
use borrow.Author.Tests.{le-leb, lt-leb}
use Rattle.message.proofs.Totals.{fits}
use Rattle.turn_segments.specs.TurnSegment.{within}
use Rattle.turn_segments.proofs.OneKind.{Answer, outside, alone}
use Rattle.turn_segments.proofs.of_kind.Goals as goal

pub returns-then-bytes-least : goal.returns-then-bytes-least
unfolding Answer within
returns-then-bytes-least c =
    let both = outside _ _ _ (rw (lt-leb _ _ c.if-bytes-least.true)) _ _ (c.refuse.ensures.part, c.refuse.ensures.told) in
    record { part = both.0; told = both.1 }

pub returns-then-bytes-most : goal.returns-then-bytes-most
unfolding Answer within
returns-then-bytes-most c =
    let both = outside _ _ _ (rw (le-leb _ _ c.if-bytes-least.false, lt-leb _ _ c.if-bytes-most.true)) _ _ (c.refuse-then-bytes-most.ensures.part, c.refuse-then-bytes-most.ensures.told) in
    record { part = both.0; told = both.1 }

pub returns : goal.returns
unfolding Answer within
returns c =
    let both = alone _ _ _ (rw (le-leb _ _ c.if-bytes-least.false, le-leb _ _ c.if-bytes-most.false)) (fits _ (omega arith) (omega arith))
    _ _ (c.segment.ensures.part, c.segment.ensures.told) in
    record { part = both.0; told = both.1 }
