-- `coming_values` meets its contract, entry by entry. Assumes nothing.
use mathlib.Core.Path.{◌≡◌, refl, ◌∙◌}
use Prim.Native.Nat.{◌≤◌}
use native.Mathlib.Omega.{arith}
use borrow.Author.Rules.{rules}
use lib.ListN.{length, length-set, drop_of_length-le}
use Rattle.coming_lines.proofs.ComingValues.{entry_more, entries-all}
use Rattle.coming_lines.proofs.coming_values.Goals as goal

pub loop-i-init : goal.loop-i-init
loop-i-init c =
    let a = c.args in
    let n : length a.list ≡ 1025 = search rules in
    record { size = refl; filled = entries-all 1025 a.call a.slots a.list n }

pub loop-i-preserved : goal.loop-i-preserved
loop-i-preserved c =
    let l = c.loop-i in
    let e = entry_more l.values c.args.list l.i (omega arith) in
    record { size = rw length-set l.invariant.size; filled = e ∙ l.invariant.filled }

pub returns : goal.returns
returns c =
    let l = c.loop-i in
    let k : length c.args.list ≤ l.i = omega arith in
    rw (drop_of_length-le _ k) at l.invariant.filled
