-- `owner_values` meets its contract, entry by entry. Assumes nothing.
use mathlib.Core.Path.{◌≡◌, refl, ◌∙◌}
use Prim.Native.Nat.{◌≤◌}
use native.Mathlib.Omega.{arith}
use borrow.Author.Rules.{rules}
use lib.ListN.{length, length-set, drop_of_length-le}
use Rattle.counter_lines.proofs.OwnerValues.{entry_more, entries-all}
use Rattle.counter_lines.proofs.owner_values.Goals as goal

pub loop-i-init : goal.loop-i-init
loop-i-init c =
    let a = c.args in
    let n : length a.entries ≡ 24 = search rules in
    record { size = refl; filled = entries-all a.call a.position a.entries n }

pub loop-i-preserved : goal.loop-i-preserved
loop-i-preserved c =
    let l = c.loop-i in
    let e = entry_more l.values c.args.entries l.i (omega arith) in
    record { size = rw length-set l.invariant.size; filled = e ∙ l.invariant.filled }

pub returns : goal.returns
returns c =
    let l = c.loop-i in
    let k : length c.args.entries ≤ l.i = omega arith in
    rw (drop_of_length-le _ k) at l.invariant.filled
