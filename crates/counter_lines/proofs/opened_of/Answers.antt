-- `opened_of` looks at the group's place of the eight. Assumes nothing.
use mathlib.Core.Path.{◌≡◌, sym, ap, ◌∙◌}
use mathlib.Core.Bool.{true, false}
use Prim.Native.Nat.{ℕ, ◌<◌, ◌≤◌, ◌-◌}
use native.Mathlib.Omega.{arith}
use lib.ListN.{length, get_or, get_or-eq_default}
use borrow.Author.Rules.{rules}
use Rattle.listlaws.proofs.Beyond.{get_d_any}
use Rattle.counter_lines.proofs.opened_of.Goals as goal

pub returns-then-g-lt8 : goal.returns-then-g-lt8
returns-then-g-lt8 c =
    let a = c.args in
    let w : length a.c.opened ≡ 8 = search rules in
    let h : c.place_of-g.result < length a.c.opened = omega arith in
    get_d_any a.c.opened _ false true h ∙ ap (λ (i : ℕ). get_or a.c.opened i true) c.place_of-g.ensures

pub returns-else-g-lt8 : goal.returns-else-g-lt8
returns-else-g-lt8 c =
    let a = c.args in
    let w : length a.c.opened ≡ 8 = search rules in
    let h : length a.c.opened ≤ a.group - 1 = omega (arith, c.place_of-g.ensures) in
    sym (get_or-eq_default a.c.opened true h)
