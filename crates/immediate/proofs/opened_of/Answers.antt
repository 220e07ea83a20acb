-- `opened_of` looks at the next group's place of the eight. Assumes nothing.
use mathlib.Core.Path.{◌≡◌, sym, ap}
use mathlib.Core.Bool.{false}
use Prim.Native.Nat.{ℕ, ◌≤◌, ◌-◌}
use native.Mathlib.Omega.{arith}
use lib.ListN.{length, get_or, get_or-eq_default}
use borrow.Author.Rules.{rules}
use Rattle.immediate.proofs.opened_of.Goals as goal

pub returns-then-g-lt8 : goal.returns-then-g-lt8
returns-then-g-lt8 c = ap (λ (i : ℕ). get_or c.args.c.opened i false) c.place_of-g.ensures

pub returns-else-g-lt8 : goal.returns-else-g-lt8
returns-else-g-lt8 c =
    let k = c.args.c in
    let w : length k.opened ≡ 8 = search rules in
    let h : length k.opened ≤ k.next - 1 = omega (arith, c.place_of-g.ensures) in
    sym (get_or-eq_default k.opened false h)
