-- `landings` lands a newcomer of each minislot, one after the other: after j of them the lengths and the landings are those of the first j. Assumes nothing.
use mathlib.Core.Path.{◌≡◌}
use lib.ListN.{take}
use Rattle.rules.specs.Queueing.{queued_row}
use Rattle.rules.specs.Landing.{landings as landings_of}
use Rattle.queueing.proofs.Rows.{first}
use Rattle.newcomers.proofs.landings.Given as goal

abbrev pub invariant-loop-j : goal.invariant-loop-j
invariant-loop-j l =
    (l.p ≡ queued_row l.success l.initial.p (take l.j (first l.m l.row))) × (l.landed ≡ landings_of l.success l.initial.p (take l.j (first l.m l.row)) 8)
