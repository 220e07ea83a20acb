-- `row_at` reads a row of the wire, and a blank one beyond its eight. Assumes nothing.
use mathlib.Core.Path.{◌≡◌, sym, ap, ◌∙◌}
use mathlib.Core.List.{[]}
use Prim.Native.Nat.{ℕ, ◌-◌, ◌≤◌}
use native.Mathlib.Omega.{arith}
use borrow.Author.Rules.{rules}
use lib.ListN.{length, get_or, get_or-eq_default}
use Rattle.listlaws.proofs.Beyond.{get_d_any}
use Rattle.channel_rules.specs.ChannelCalls.{blank_row}
use Rattle.wire_hearing.proofs.row_at.Goals as goal

pub returns-then-g-lt8 : goal.returns-then-g-lt8
returns-then-g-lt8 c =
    let a = c.args in
    let g = c.place_of-g in
    let full : length a.wire ≡ 8 = search rules in
    get_d_any a.wire g.result (record { minislots = [] }) blank_row (omega arith) ∙ ap (λ (i : ℕ). get_or a.wire i blank_row) g.ensures

pub returns : goal.returns
returns c =
    let a = c.args in
    let full : length a.wire ≡ 8 = search rules in
    let beyond : length a.wire ≤ a.group - 1 = omega (arith, c.place_of-g.ensures) in
    sym (get_or-eq_default a.wire blank_row beyond)
