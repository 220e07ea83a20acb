-- `resolution_of` looks at the group's place of the eight. Assumes nothing.
use mathlib.Core.Path.{◌≡◌, sym, ap}
use Prim.Native.Nat.{ℕ, ◌≤◌, ◌-◌}
use native.Mathlib.Omega.{arith}
use lib.ListN.{length, get_or, get_or-eq_default}
use borrow.Author.Rules.{rules}
use Rattle.counters.proofs.resolution_of.Goals as goal

pub returns-then-g-lt8 : goal.returns-then-g-lt8
returns-then-g-lt8 c = ap (λ (i : ℕ). get_or c.args.c.resolution i 0) c.place_of-g.ensures

pub returns-else-g-lt8 : goal.returns-else-g-lt8
returns-else-g-lt8 c =
    let a = c.args in
    let w : length a.c.resolution ≡ 8 = search rules in
    let h : length a.c.resolution ≤ a.group - 1 = omega (arith, c.place_of-g.ensures) in
    sym (get_or-eq_default a.c.resolution 0 h)
