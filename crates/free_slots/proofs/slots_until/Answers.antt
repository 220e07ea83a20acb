-- `slots_until` is the closed form, once there is a place to serve. Assumes nothing.
use mathlib.Core.Path.{◌≡◌, sym, ap, ◌∙◌}
use Prim.Native.Nat.{◌+◌}
use native.Mathlib.Omega.{arith}
use Rattle.rules.proofs.LimitLaws.{calendar-in}
use Rattle.coming_rules.specs.Planned.{planned_until}
use Rattle.coming_rules.proofs.FreeSlots.{until_none}
use Rattle.free_slots.proofs.Closing.{count-some, nth_within, until_closed, until_small}
use Rattle.free_slots.proofs.slots_until.Goals as goal

pub returns-then-places-eq0 : goal.returns-then-places-eq0
returns-then-places-eq0 c =
    let k = c.args.c in
    let e : k.urgent + k.long ≡ 0 = omega arith in
    sym (ap (planned_until k.calendar k.position) e ∙ until_none k.calendar k.position)

pub free_slots-free-requires : goal.free_slots-free-requires
free_slots-free-requires c = (calendar-in c.args.c c.requires).position

pub nonzero_div-rounds : goal.nonzero_div-rounds
nonzero_div-rounds c =
    count-some c.args.c c.requires c.free_slots-free.ensures

pub nonzero_rem-last : goal.nonzero_rem-last
nonzero_rem-last c =
    count-some c.args.c c.requires c.free_slots-free.ensures

pub bounds-free-before : goal.bounds-free-before
bounds-free-before c =
    let k = c.args.c in
    nth_within k c.requires c.free_slots-free.ensures _

pub overflow_mul-result : goal.overflow_mul-result
overflow_mul-result c =
    let k = c.args.c in
    let h = c.requires in
    omega (arith, until_small k h c.free_slots-free.ensures (k.urgent + k.long) c.if-places-eq0.false)

pub overflow_add-result : goal.overflow_add-result
overflow_add-result c =
    let k = c.args.c in
    let h = c.requires in
    omega (arith, until_small k h c.free_slots-free.ensures (k.urgent + k.long) c.if-places-eq0.false)

pub overflow_add-result-2 : goal.overflow_add-result-2
overflow_add-result-2 c =
    let k = c.args.c in
    let h = c.requires in
    omega (arith, until_small k h c.free_slots-free.ensures (k.urgent + k.long) c.if-places-eq0.false)

pub overflow_cast-result : goal.overflow_cast-result
overflow_cast-result c =
    let k = c.args.c in
    let h = c.requires in
    omega (arith, until_small k h c.free_slots-free.ensures (k.urgent + k.long) c.if-places-eq0.false)

pub returns : goal.returns
returns c =
    let k = c.args.c in
    let h = c.requires in
    until_closed k h c.free_slots-free.ensures (k.urgent + k.long) c.if-places-eq0.false
