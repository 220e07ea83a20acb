-- `slots_fill` takes one stretch's slots after the other away from the queue's places: the places still free, with the slots of the stretches so far, are
-- the queue's. Assumes nothing.
use mathlib.Core.Path.{sym}
use Prim.Native.Nat.{◌≤◌}
use native.Mathlib.Omega.{arith}
use borrow.Author.Tests.{ne_eqb}
use lib.ListN.{length, drop_of_length-le}
use Rattle.listlaws.proofs.Loops.{rest, sum-next}
use Rattle.stretches.specs.declared.Stretch.{Stretch}
use Rattle.stretches.specs.Stretches.{slots_of}
use Rattle.stretches.proofs.Laws.{left_over, no_stretch}
use Rattle.stretches.proofs.slots_fill.Goals as goal

pub returns-then-free-left : goal.returns-then-free-left
returns-then-free-left c =
    let l = c.loop-s in
    let a = c.args in
    let e = sum-next (rest a.stretches.now l.s-index no_stretch (omega arith)) (λ (s : Stretch). s.left) in
    sym (ne_eqb (slots_of a.stretches.now) a.queue (λ q. omega (arith, e, l.invariant)))

pub loop-s-preserved : goal.loop-s-preserved
loop-s-preserved c =
    let l = c.loop-s in
    let a = c.args in
    let e = sum-next (rest a.stretches.now l.s-index no_stretch (omega arith)) (λ (s : Stretch). s.left) in
    omega (arith, e, l.invariant)

pub returns : goal.returns
returns c =
    let l = c.loop-s in
    let a = c.args in
    let h : length a.stretches.now ≤ l.s-index = omega arith in
    let q = rw (drop_of_length-le a.stretches.now h) at l.invariant in
    left_over (slots_of a.stretches.now) l.free a.queue (omega (arith, q))
