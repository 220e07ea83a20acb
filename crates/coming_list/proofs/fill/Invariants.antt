-- `fill` meets its contract. The loop's invariant: the list holds the senders of the first `i` slots. The measure is how many slots are to come.
-- Assumes nothing.
use Prim.Native.Nat.{ℕ, ◌-◌}
use lib.ListN.{length, get_or}
use Rattle.coming_rules.specs.Coming.{nobody}
use Rattle.coming_list.proofs.Listing.{Listed}
use Rattle.coming_list.proofs.fill.Given as goal

abbrev pub invariant-loop-i : goal.invariant-loop-i
invariant-loop-i l = Listed l.calendar l.position (λ (k : ℕ). get_or l.served k nobody) l.initial.list l.list l.p l.place l.i

abbrev pub decreases-loop-i : goal.decreases-loop-i
decreases-loop-i l = length l.initial.list - l.i
