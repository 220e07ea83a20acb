-- Stretches cover a queue without overlap: as many slots left as the queue has places, no two stretches overlap. That this says what is
-- meant, place by place, is shown in proofs/Counting. Assumes nothing.
use Rattle.std.specs.Prelude.{Bool, ◌&&◌, ◌||◌, List, ℕ, ◌+◌, leb, eqb}
use Rattle.listlaws.specs.Lists.{each_pair, sum_of}
use Rattle.stretches.specs.declared.Stretch.{Stretch}

-- the slots left of all stretches
abbrev pub slots_of : List Stretch → ℕ
slots_of l = sum_of (λ (s : Stretch). s.left) l

-- one ends before the other begins
abbrev pub apart : Stretch → Stretch → Bool
apart a b = leb (a.first + a.left) b.first || leb (b.first + b.left) a.first

abbrev pub covered : List Stretch → ℕ → Bool
covered l queue = eqb (slots_of l) queue && each_pair apart l
