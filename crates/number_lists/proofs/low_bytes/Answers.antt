-- `low_bytes` meets its contract. The loop's invariant: with the bytes of the numbers to come stored from where it stands, the bytes are what they are to be.
-- Assumes nothing.
use mathlib.Core.Path.{◌≡◌, refl, ◌∙◌}
use Prim.Native.Nat.{◌≤◌}
use native.Mathlib.Omega.{arith}
use lib.ListN.{length, length-set, drop_of_length-le}
use Rattle.number_lists.proofs.LowBytes.{low-start, low-next}
use borrow.Author.Rules.{rules}
use Rattle.number_lists.proofs.low_bytes.Goals as goal

pub loop-i-init : goal.loop-i-init
loop-i-init c =
    let n : length c.args.values ≡ 256 = search rules in
    (omega arith, n, refl, low-start c.args.values n)

pub loop-i-preserved : goal.loop-i-preserved
loop-i-preserved c =
    let l = c.loop-i in
    (omega arith, l.invariant.1, rw length-set l.invariant.2, low-next l.bytes _ l.i (omega arith) ∙ l.invariant.3)

pub returns : goal.returns
returns c =
    let l = c.loop-i in
    let k : length c.args.values ≤ l.i = omega arith in
    rw (drop_of_length-le _ k) at l.invariant.3
