-- The line that `rehearse` prints for a slot that went through. Bytes are numbers: letters are ASCII. Assumes nothing.
use Rattle.std.specs.Prelude.{List, [], ◌∷◌, map, ℕ, ◌-◌, get_or}
use Rattle.decimals.specs.Decimal.{digits_of}
use Rattle.decimals.specs.Printing.{record_of}
use Rattle.call_records.specs.Words.{slot_word}
use Rattle.turn_letters.specs.Letters.{letter_of}
use Rattle.rules.specs.declared.Counters.{Counters}
use Rattle.rules.specs.declared.Turn.{Turn}

-- THE LINE OF A SLOT, call `k`: `k,slot,group,turn,senders,index,segment,delivered,H,N,RQ`, where `c` is the counters after it, and RQ
-- that of the slot's group
abbrev pub slot_line : ℕ → ℕ → Counters → Turn → ℕ → ℕ → ℕ → ℕ → List ℕ
slot_line k group c turn senders index segment delivered =
    let queues = c.urgent ∷ c.long ∷ get_or c.resolution (group - 1) 0 ∷ [] in
    record_of
    (digits_of k ∷ slot_word ∷ digits_of group ∷ (letter_of turn ∷ []) ∷ map digits_of (senders ∷ index ∷ segment ∷ delivered ∷ queues))
