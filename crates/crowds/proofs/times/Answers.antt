-- `times` counts one place after the other: the count, and that of what is left of the list, is the list's. Assumes nothing.
use Prim.Native.Nat.{◌≤◌}
use native.Mathlib.Omega.{arith}
use borrow.Author.Tests.{eq-eqb, ne_eqb}
use lib.Dec.{eqb}
use lib.ListN.{length, drop_of_length-le}
use Rattle.listlaws.proofs.Loops.{rest, count-one, count_same}
use Rattle.crowds.proofs.times.Goals as goal
use Rattle.crowds.proofs.times.Goals.{then-x-y, else-x-y}

pub loop-y-preserved : goal.loop-y-preserved
loop-y-preserved c =
    let l = c.loop-y in
    let a = c.args in
    let e = rest a.places.now l.y-index 0 (omega arith) in
    elim c.if-x-y.branch [
      | then-x-y w ↦ (
        omega (arith, w.n-is),
        omega (arith, w.n-is, l.invariant.1, count-one e (eqb a.x) (eq-eqb _ _ w.if-x-y.true)),
      )
      | else-x-y w ↦ (
        omega (arith, w.n-is),
        omega (arith, w.n-is, l.invariant.1, count_same e (eqb a.x) (ne_eqb _ _ w.if-x-y.false)),
      )
    ]

pub returns : goal.returns
returns c =
    let l = c.loop-y in
    let a = c.args in
    let h : length a.places.now ≤ l.y-index = omega arith in
    let q = rw (drop_of_length-le a.places.now h) at l.invariant.1 in
    omega (arith, q)
