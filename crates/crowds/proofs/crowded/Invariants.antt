-- `crowded` counts each place from the last one down: what is left of the queue tests as the whole. Assumes nothing.
use mathlib.Core.Path.{◌≡◌}
use Prim.Native.Nat.{◌-◌}
use Rattle.crowds.specs.Crowds.{crowded}
use Rattle.crowds.proofs.crowded.Given as goal

abbrev pub invariant-loop-passed : goal.invariant-loop-passed
invariant-loop-passed l = crowded l.places (l.queue - l.passed) ≡ crowded l.places l.queue
