-- Each place of a queue is taken twice or more: the list names every place of the queue, 1 to its length, twice or more. What is said place
-- by place of it is shown in proofs/Counting. Assumes nothing.
use Rattle.std.specs.Prelude.{Bool, true, ◌&&◌, List, ℕ, zero, suc, leb, eqb}
use Rattle.listlaws.specs.Lists.{count_of}

abbrev pub named_twice : List ℕ → ℕ → Bool
named_twice places i = leb 2 (count_of (eqb i) places)

abbrev pub crowded : List ℕ → ℕ → Bool
crowded places zero = true
crowded places (suc n) = named_twice places (suc n) && crowded places n
