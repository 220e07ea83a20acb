-- `free_slots` collects the free slots of a round one after the other. Assumes nothing.
use mathlib.Core.Path.{◌≡◌}
use Prim.Native.Nat.{◌-◌}
use native.Mathlib.Omega.{arith}
use borrow.Author.Rules.{rules}
use lib.ListN.{length}
use Rattle.free_slots.proofs.Collecting.{none_yet, at_most, count_most, free_more, owned-more, all_collected}
use Rattle.free_slots.proofs.free_slots.Goals as goal
use Rattle.free_slots.proofs.free_slots.Goals.{then-calendar-p, else-calendar-p}

pub loop-i-init : goal.loop-i-init
loop-i-init c = none_yet c.args.calendar c.args.position (omega arith)

pub overflow_cast-p : goal.overflow_cast-p
overflow_cast-p c = omega (arith, at_most c.loop-i.invariant)

pub offset_bounds-calendar-p : goal.offset_bounds-calendar-p
offset_bounds-calendar-p c = omega (arith, at_most c.loop-i.invariant)

pub bounds-calendar-p : goal.bounds-calendar-p
bounds-calendar-p c = omega (arith, at_most c.loop-i.invariant)

pub bounds-slots-count : goal.bounds-slots-count
bounds-slots-count c = omega (arith, count_most c.loop-i.invariant)

pub overflow_add-count : goal.overflow_add-count
overflow_add-count c = omega (arith, count_most c.loop-i.invariant)

pub next_position-p-requires : goal.next_position-p-requires
next_position-p-requires c = at_most c.loop-i.invariant

pub loop-i-preserved : goal.loop-i-preserved
loop-i-preserved c =
    let l = c.loop-i in
    let a = c.args in
    let sized : length a.calendar ≡ 24 = search rules in
    elim c.if-calendar-p.branch [
      | then-calendar-p w ↦ free_more l.invariant sized c.next_position-p.ensures (omega arith) w.if-calendar-p.true w.slots-is w.count-is
      | else-calendar-p w ↦ owned-more l.invariant sized c.next_position-p.ensures w.if-calendar-p.false w.slots-is w.count-is
    ]

pub returns : goal.returns
returns c = all_collected c.loop-i.invariant (omega arith)
