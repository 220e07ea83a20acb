-- `refused` gives the answer of a refused row: nothing is heard of it. Assumes nothing.
use mathlib.Core.Path.{◌≡◌, refl}
use mathlib.Core.List.{[]}
use Prim.Native.Nat.{ℕ, zero, suc}
use Rattle.minislot.specs.declared.RowReading.{RowReading}
use Rattle.rows.specs.Row.{weight, padded, row_answer}
use Rattle.rows.proofs.refused.Goals as goal

answer : (n : ℕ) → ◌≡◌ {A = RowReading} (record { number = n; weight = 0; minislots = padded 8 [] }) (row_answer n [])
unfolding weight
answer zero = refl
answer (suc n) = refl

pub returns : goal.returns
unfolding padded
returns c = answer c.args.number
