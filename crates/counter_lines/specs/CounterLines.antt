-- The lines that `show` of `rehearse` prints of a channel's counters: the counters themselves, the position of the coming slot and the
-- calendar, and each group's RQ and Open mark. A line begins with the call's number in the list. Bytes are numbers: letters are ASCII.
-- Assumes nothing.
use Rattle.std.specs.Prelude.{Bool, cond, true, List, [], ◌∷◌, map, ℕ, ◌-◌, get_or}
use Rattle.decimals.specs.Decimal.{digits_of}
use Rattle.decimals.specs.Printing.{record_of}
use Rattle.rules.specs.declared.Counters.{Counters}

-- `counters`, `owners` and `group`
abbrev pub counters_word : List ℕ
counters_word = 99 ∷ 111 ∷ 117 ∷ 110 ∷ 116 ∷ 101 ∷ 114 ∷ 115 ∷ []

abbrev pub owners_word : List ℕ
owners_word = 111 ∷ 119 ∷ 110 ∷ 101 ∷ 114 ∷ 115 ∷ []

abbrev pub group_word : List ℕ
group_word = 103 ∷ 114 ∷ 111 ∷ 117 ∷ 112 ∷ []

-- an Open mark: `yes` or `no`
abbrev pub mark_word : Bool → List ℕ
mark_word mark = cond mark (121 ∷ 101 ∷ 115 ∷ []) (110 ∷ 111 ∷ [])

-- `k,counters,m,n,next,H,N`
unfoldable pub counters_line : ℕ → Counters → List ℕ
counters_line k c =
    record_of (digits_of k ∷ counters_word ∷ map digits_of (c.minislots ∷ c.groups ∷ c.next ∷ c.urgent ∷ c.long ∷ []))

-- `k,owners,position,e0,..,e23`: whose each position is, 65535 for nobody's
unfoldable pub owners_line : ℕ → Counters → List ℕ
owners_line k c = record_of (digits_of k ∷ owners_word ∷ map digits_of (c.position ∷ c.calendar))

-- `k,group,g,RQ,mark`
unfoldable pub group_line : ℕ → Counters → ℕ → List ℕ
group_line k c g =
    record_of
    (digits_of k ∷ group_word ∷ digits_of g ∷ digits_of (get_or c.resolution (g - 1) 0) ∷ mark_word (get_or c.opened (g - 1) true) ∷ [])
