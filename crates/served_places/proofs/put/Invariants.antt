-- `put` meets its contract. The loop's invariant: with the places to come put from where it stands, the list is what it is to be. Assumes nothing.
use mathlib.Core.Path.{◌≡◌}
use Prim.Native.Nat.{◌-◌, ◌≤◌}
use lib.ListN.{length}
use Rattle.served_places.specs.Served.{put_of}
use Rattle.served_places.proofs.put.Given as goal

abbrev pub invariant-loop-k : goal.invariant-loop-k
invariant-loop-k l = (l.first ≤ l.k) × (length l.served ≡ length l.initial.served) × (put_of l.served l.k (l.end - l.k) l.index ≡ put_of l.initial.served l.first (l.end - l.first) l.index)
