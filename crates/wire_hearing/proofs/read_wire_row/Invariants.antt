-- `read_wire_row` copies the row of the wire as words and counts, and reads its first m minislots. Assumes nothing.
use Rattle.wire_hearing.proofs.Copying.{zeros}
use Rattle.listlaws.specs.Steps.{first_steps, latter}
use Rattle.rules.specs.Hearing.{words_of, counts_of}
use Prim.Native.Nat.{◌≤◌}
use mathlib.Core.Path.{◌≡◌}
use Rattle.wire_hearing.proofs.read_wire_row.Given as goal

abbrev pub invariant-loop-j : goal.invariant-loop-j
invariant-loop-j l = (l.j ≤ 8) × (l.words ≡ first_steps latter l.j zeros (words_of l.fn.minislots)) × (l.counts ≡ first_steps latter l.j zeros (counts_of l.fn.minislots))
