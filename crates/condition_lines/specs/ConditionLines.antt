-- The line that `show` of `rehearse` prints of a message record, by its station's index and the condition of its message. A line begins
-- with the call's number in the list. Bytes are numbers: letters are ASCII. Assumes nothing.
use Rattle.std.specs.Prelude.{List, [], ◌∷◌, map, ℕ}
use Rattle.decimals.specs.Decimal.{digits_of}
use Rattle.decimals.specs.Printing.{record_of}
use Rattle.rules.specs.declared.Condition.{Condition}
use Rattle.rules.specs.declared.Condition.TheVariants as condition

-- `message`
abbrev pub message_word : List ℕ
message_word = 109 ∷ 101 ∷ 115 ∷ 115 ∷ 97 ∷ 103 ∷ 101 ∷ []

-- a condition's word, its places and totals: `free`; `fresh,total`; `asked,group,minislot,total`; `resolving,group,place,total`;
-- `urgent,place`; `long,first,left,total`; `held,total`
abbrev pub condition_fields : Condition → List (List ℕ)
condition_fields condition.Free = (102 ∷ 114 ∷ 101 ∷ 101 ∷ []) ∷ []
condition_fields (condition.Fresh total) = (102 ∷ 114 ∷ 101 ∷ 115 ∷ 104 ∷ []) ∷ digits_of total ∷ []
condition_fields (condition.Asked group minislot total) =
    (97 ∷ 115 ∷ 107 ∷ 101 ∷ 100 ∷ []) ∷ map digits_of (group ∷ minislot ∷ total ∷ [])
condition_fields (condition.Resolving group place total) =
    (114 ∷ 101 ∷ 115 ∷ 111 ∷ 108 ∷ 118 ∷ 105 ∷ 110 ∷ 103 ∷ []) ∷ map digits_of (group ∷ place ∷ total ∷ [])
condition_fields (condition.Urgent place) = (117 ∷ 114 ∷ 103 ∷ 101 ∷ 110 ∷ 116 ∷ []) ∷ digits_of place ∷ []
condition_fields (condition.Long first left total) = (108 ∷ 111 ∷ 110 ∷ 103 ∷ []) ∷ map digits_of (first ∷ left ∷ total ∷ [])
condition_fields (condition.Held total) = (104 ∷ 101 ∷ 108 ∷ 100 ∷ []) ∷ digits_of total ∷ []

-- `k,message,index,condition..`
unfoldable pub condition_line : ℕ → ℕ → Condition → List ℕ
condition_line k index c = record_of (digits_of k ∷ message_word ∷ digits_of index ∷ condition_fields c)
