-- A start that goes through has an index for each of at most 64 records. Assumes nothing.
use mathlib.Core.Path.{sym, ◌∙◌}
use native.Mathlib.Omega.{arith}
use Rattle.calls.proofs.ByValue.{few_true}
use Rattle.start_numbers.proofs.Numbers.{start-passed}
use Rattle.starts.proofs.begin.Goals as goal

pub new_table-requires : goal.new_table-requires
new_table-requires c =
    let a = c.args in
    let p = start-passed a.count a.m a.n a.indexes.now (sym c.start_number-number.ensures ∙ c.if-number-ne0.false) in
    omega (arith, few_true a.count p.0, p.1)
