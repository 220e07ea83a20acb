-- The lines that `rehearse` prints for the answers of calls, and the header before them. A line begins with the call's number in the list.
-- Bytes are numbers: letters are ASCII. Assumes nothing.
use Rattle.std.specs.Prelude.{List, [], ◌∷◌, ℕ}
use Rattle.decimals.specs.Decimal.{digits_of}
use Rattle.decimals.specs.Printing.{record_of}
use Rattle.call_records.specs.Words.{offer_word, hold_word, commit_word, withdraw_word, calendar_word}
use Rattle.slot_lines.specs.SlotLine.{slot_line}
use Rattle.rules.specs.declared.Counters.{Counters}
use Rattle.rules.specs.declared.Answer.{Answer}
use Rattle.rules.specs.declared.Answer.TheVariants.{Refused, Taken, OnHold, Committed, Withdrawn, Set, Went}

-- `refused`
abbrev pub refused_word : List ℕ
refused_word = 114 ∷ 101 ∷ 102 ∷ 117 ∷ 115 ∷ 101 ∷ 100 ∷ []

-- `call,kind,group,turn,senders,index,segment,delivered,H,N,RQ`: the columns of a slot's line
unfoldable pub header_of : List ℕ
header_of =
    record_of
    (
    (99 ∷ 97 ∷ 108 ∷ 108 ∷ [])
    ∷ (107 ∷ 105 ∷ 110 ∷ 100 ∷ [])
    ∷ (103 ∷ 114 ∷ 111 ∷ 117 ∷ 112 ∷ [])
    ∷ (116 ∷ 117 ∷ 114 ∷ 110 ∷ [])
    ∷ (115 ∷ 101 ∷ 110 ∷ 100 ∷ 101 ∷ 114 ∷ 115 ∷ [])
    ∷ (105 ∷ 110 ∷ 100 ∷ 101 ∷ 120 ∷ [])
    ∷ (115 ∷ 101 ∷ 103 ∷ 109 ∷ 101 ∷ 110 ∷ 116 ∷ [])
    ∷ (100 ∷ 101 ∷ 108 ∷ 105 ∷ 118 ∷ 101 ∷ 114 ∷ 101 ∷ 100 ∷ [])
    ∷ (72 ∷ [])
    ∷ (78 ∷ [])
    ∷ (82 ∷ 81 ∷ [])
    ∷ []
    )

-- THE LINE OF AN ANSWER to call `k`: `k,refused,number`; an offer's `k,offer,total`, a hold's `k,hold,total`, a commit's
-- `k,commit,total`, a withdrawal's `k,withdraw,total`; a calendar's `k,calendar`; a slot's,
-- where `group` is whose slot it is and `c` the counters after it
unfoldable pub answer_line : ℕ → ℕ → Counters → Answer → List ℕ
answer_line k group c (Refused number) = record_of (digits_of k ∷ refused_word ∷ digits_of number ∷ [])
answer_line k group c (Taken total) = record_of (digits_of k ∷ offer_word ∷ digits_of total ∷ [])
answer_line k group c (OnHold total) = record_of (digits_of k ∷ hold_word ∷ digits_of total ∷ [])
answer_line k group c (Committed total) = record_of (digits_of k ∷ commit_word ∷ digits_of total ∷ [])
answer_line k group c (Withdrawn total) = record_of (digits_of k ∷ withdraw_word ∷ digits_of total ∷ [])
answer_line k group c Set = record_of (digits_of k ∷ calendar_word ∷ [])
answer_line k group c (Went turn senders index segment delivered) = slot_line k group c turn senders index segment delivered
