-- The word that a record of `rehearse` begins with: `offer,`, `hold,`, `slot,`, `calendar,` or `coming,` with numbers after it, `commit,`
-- or `withdraw,` with a number and a word after it, or `slot` or `show` alone. Bytes are numbers: letters are ASCII, the comma is 44.
-- Assumes nothing.
use Rattle.std.specs.Prelude.{cond, List, [], ◌∷◌, ℕ}
use Rattle.prefixes.specs.Prefix.{prefixed, is_word}
use Rattle.call_records.specs.declared.Kind.{Kind}
use Rattle.call_records.specs.declared.Kind.TheVariants.{Offer, Hold, Commit, Withdraw}
use Rattle.call_records.specs.declared.Kind.TheVariants.{Slot, BareSlot, Calendar, Show, Coming, Unknown}

-- `offer` and `slot`
abbrev pub offer_word : List ℕ
offer_word = 111 ∷ 102 ∷ 102 ∷ 101 ∷ 114 ∷ []

abbrev pub slot_word : List ℕ
slot_word = 115 ∷ 108 ∷ 111 ∷ 116 ∷ []

-- `offer,` and `slot,`
abbrev pub offer_start : List ℕ
offer_start = 111 ∷ 102 ∷ 102 ∷ 101 ∷ 114 ∷ 44 ∷ []

abbrev pub slot_start : List ℕ
slot_start = 115 ∷ 108 ∷ 111 ∷ 116 ∷ 44 ∷ []

-- `hold` and `hold,`
abbrev pub hold_word : List ℕ
hold_word = 104 ∷ 111 ∷ 108 ∷ 100 ∷ []

abbrev pub hold_start : List ℕ
hold_start = 104 ∷ 111 ∷ 108 ∷ 100 ∷ 44 ∷ []

-- `commit` and `commit,`
abbrev pub commit_word : List ℕ
commit_word = 99 ∷ 111 ∷ 109 ∷ 109 ∷ 105 ∷ 116 ∷ []

abbrev pub commit_start : List ℕ
commit_start = 99 ∷ 111 ∷ 109 ∷ 109 ∷ 105 ∷ 116 ∷ 44 ∷ []

-- `withdraw` and `withdraw,`
abbrev pub withdraw_word : List ℕ
withdraw_word = 119 ∷ 105 ∷ 116 ∷ 104 ∷ 100 ∷ 114 ∷ 97 ∷ 119 ∷ []

abbrev pub withdraw_start : List ℕ
withdraw_start = 119 ∷ 105 ∷ 116 ∷ 104 ∷ 100 ∷ 114 ∷ 97 ∷ 119 ∷ 44 ∷ []

-- `calendar` and `calendar,`
abbrev pub calendar_word : List ℕ
calendar_word = 99 ∷ 97 ∷ 108 ∷ 101 ∷ 110 ∷ 100 ∷ 97 ∷ 114 ∷ []

abbrev pub calendar_start : List ℕ
calendar_start = 99 ∷ 97 ∷ 108 ∷ 101 ∷ 110 ∷ 100 ∷ 97 ∷ 114 ∷ 44 ∷ []

-- `show`
abbrev pub show_word : List ℕ
show_word = 115 ∷ 104 ∷ 111 ∷ 119 ∷ []

-- `coming` and `coming,`
abbrev pub coming_word : List ℕ
coming_word = 99 ∷ 111 ∷ 109 ∷ 105 ∷ 110 ∷ 103 ∷ []

abbrev pub coming_start : List ℕ
coming_start = 99 ∷ 111 ∷ 109 ∷ 105 ∷ 110 ∷ 103 ∷ 44 ∷ []

-- a record that writes a message record
unfoldable pub writing_kind_of : List ℕ → Kind
writing_kind_of bytes =
    cond (prefixed offer_start bytes) Offer
    (cond (prefixed hold_start bytes) Hold
    (cond (prefixed commit_start bytes) Commit
    (cond (prefixed withdraw_start bytes) Withdraw
    Unknown)))

-- WHICH CALL A RECORD ASKS FOR
unfoldable pub kind_of : List ℕ → Kind
kind_of bytes =
    cond (prefixed slot_start bytes) Slot
    (cond (prefixed calendar_start bytes) Calendar
    (cond (prefixed coming_start bytes) Coming
    (cond (is_word show_word bytes) Show
    (cond (is_word slot_word bytes) BareSlot
    (writing_kind_of bytes)))))
