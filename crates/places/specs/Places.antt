-- Tests on lists of numbers and of places in a queue, each of which takes no longer for longer queues. That they say what is meant, place
-- by place, is shown in proofs/Counting. Assumes nothing.
use Rattle.std.specs.Prelude.{Bool, not, ◌&&◌, List, ℕ, eqb, length}
use Rattle.listlaws.specs.Lists.{each_pair}

abbrev pub differ : ℕ → ℕ → Bool
differ a b = not (eqb a b)

-- ---- each place of a queue is taken once: as many places taken as the queue has, no two the same

abbrev pub taken_once : List ℕ → ℕ → Bool
taken_once places queue = eqb (length places) queue && each_pair differ places
