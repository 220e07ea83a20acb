-- `left_fits` meets its contract, number by number. Assumes nothing.
use borrow.Author.Tests.{lt-leb}
use mathlib.Core.Path.{sym, ◌∙◌}
use Prim.Native.Nat.{◌+◌}
use native.Mathlib.Omega.{arith}
use Rattle.forms.proofs.FormLaws.{left-none, left-size, room-less}
use Rattle.forms.proofs.left_fits.Goals as goal

pub returns-then-room_left-size : goal.returns-then-room_left-size
returns-then-room_left-size c =
    let l = c.loop-value in
    let n = left-size c.args.values.now l.value-index (omega arith) in
    sym (lt-leb _ l.room_left (omega (arith, n, c.digits-size.ensures.count))) ∙ l.invariant

pub loop-value-preserved : goal.loop-value-preserved
loop-value-preserved c =
    let l = c.loop-value in
    let n = left-size c.args.values.now l.value-index (omega arith) in
    room-less _ l.room_left (c.digits-size.result + 1) _ (omega (arith, n, c.digits-size.ensures.count)) (omega arith) ∙ l.invariant

pub returns : goal.returns
returns c =
    let l = c.loop-value in
    rw (left-none c.args.values.now l.value-index (omega arith)) at l.invariant
