-- The numbers of a recording's records, in order of checking (paper 01, "`follow`": "In each record 19 comes before all others; then 5 in
-- the first, and in a row 6 for a wrong field count, then 1 to 4 and 7 as in listening"; 2 is retired by paper 02, T-01). Assumes nothing.
use Rattle.std.specs.Prelude.{Bool, cond, ◌&&◌, List, ℕ, ◌*◌, ltb, eqb, length, get_or}
use Rattle.fields.specs.Fields.{well_formed, fields_of}
use Rattle.row_fields.specs.Row.{words_of, counts_of, within_range}
use Rattle.rules.specs.Refusing.{unless}
use Rattle.rules.specs.Starting.{start_number_of}
use Rattle.rules.specs.Listening.{listen_number_of}
use Rattle.following.specs.declared.Follower.{Follower}

-- m and n of the first record
abbrev pub first_minislots : List ℕ → ℕ
first_minislots bytes = get_or (fields_of bytes) 0 0

abbrev pub first_groups : List ℕ → ℕ
first_groups bytes = get_or (fields_of bytes) 1 0

-- words and counts of a row
abbrev pub row_words : List ℕ → List ℕ
row_words bytes = words_of (fields_of bytes)

abbrev pub row_counts : List ℕ → List ℕ
row_counts bytes = counts_of (fields_of bytes)

-- it keeps the form and has two fields
abbrev pub is_first : List ℕ → Bool
is_first bytes = well_formed bytes && eqb (length (fields_of bytes)) 2

-- it keeps the form, no word is above 65,535 and no count above 255
abbrev pub is_row : List ℕ → Bool
is_row bytes = well_formed bytes && within_range (fields_of bytes)

-- it has 2m fields
abbrev pub has_fields : Follower → List ℕ → Bool
has_fields f bytes = eqb (length (fields_of bytes)) (f.counters.minislots * 2)

-- THE FIRST RECORD `m,n`: 19, then 5 as in starting a listener
unfoldable pub first_number_of : List ℕ → ℕ
first_number_of bytes =
    unless (is_first bytes) 19
    (start_number_of (first_minislots bytes) (first_groups bytes))

-- A ROW: 19, 6, then 1, 3 or 4 and 7 as in listening (whose 18 comes only of a follower that no start made)
unfoldable pub row_number_of : Follower → List ℕ → ℕ
row_number_of f bytes =
    unless (is_row bytes) 19
    (unless (has_fields f bytes) 6
    (listen_number_of f.counters (row_words bytes) (row_counts bytes)))

-- A RECORD: the first, and then rows
unfoldable pub record_number_of : Follower → List ℕ → ℕ
record_number_of f bytes = cond (ltb 1 f.place) (row_number_of f bytes) (first_number_of bytes)
