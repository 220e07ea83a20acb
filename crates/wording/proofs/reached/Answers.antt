-- `reached` counts one upper half after the other: the count, and that of what is left of the list, is the list's. Assumes nothing.
use mathlib.Core.Path.{◌≡◌, ap, ◌∙◌}
use Prim.Native.Nat.{◌≤◌}
use native.Mathlib.Omega.{arith}
use borrow.Author.Tests.{le-leb, lt-leb}
use lib.Dec.{leb}
use lib.ListN.{length, drop_of_length-le}
use Rattle.listlaws.proofs.Loops.{rest, count-one, count_same}
use Rattle.wording.specs.Lowers.{reached_of}
use Rattle.wording.proofs.Lowers.{count_of_uppers}
use Rattle.wording.proofs.reached.Goals as goal
use Rattle.wording.proofs.reached.Goals.{then-b-index, else-b-index}

pub loop-b-preserved : goal.loop-b-preserved
loop-b-preserved c =
    let l = c.loop-b in
    let a = c.args in
    let w : length a.before.now ≡ 64 = ap length c.requires ∙ count_of_uppers in
    let e = rest a.before.now l.b-index 0 (omega arith) in
    elim c.if-b-index.branch [
      | then-b-index w ↦ (
        omega (arith, w.n-is),
        omega (arith, w.n-is, l.invariant.1, count-one e (λ b. leb b a.index) (le-leb _ _ w.if-b-index.true)),
      )
      | else-b-index w ↦ (
        omega (arith, w.n-is),
        omega (arith, w.n-is, l.invariant.1, count_same e (λ b. leb b a.index) (lt-leb _ _ w.if-b-index.false)),
      )
    ]

pub returns : goal.returns
unfolding reached_of
returns c =
    let l = c.loop-b in
    let a = c.args in
    let w : length a.before.now ≡ 64 = ap length c.requires ∙ count_of_uppers in
    let h : length a.before.now ≤ l.b-index = omega arith in
    let q = rw (drop_of_length-le a.before.now h) at l.invariant.1 in
    (omega (arith, q), omega arith)
