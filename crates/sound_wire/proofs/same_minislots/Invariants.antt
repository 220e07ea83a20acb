-- `same_minislots` compares one minislot after the other: each one before j is the same, and one that is not fails the row. Assumes nothing.
use mathlib.Core.Path.{◌≡◌}
use mathlib.Core.Bool.{Bool, true}
use mathlib.Core.List.{List}
use Prim.Native.Nat.{ℕ, ◌<◌}
use lib.ListN.{get_or}
use Rattle.minislot.specs.declared.Minislot.{Minislot}
use Rattle.requests.specs.Together.{silent}
use Rattle.channel_rules.specs.Soundness.{same_minislot}
use Rattle.sound_wire.proofs.same_minislots.Given as goal

abbrev pub same : List Minislot → ℕ → Minislot → Bool
same b j slot = same_minislot slot (get_or b j silent)

abbrev pub invariant-loop-j : goal.invariant-loop-j
invariant-loop-j l = (k : ℕ) → k < l.j → same l.b k (get_or l.a k silent) ≡ true
