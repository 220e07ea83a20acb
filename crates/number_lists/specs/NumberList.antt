-- The numbers of a record's fields from a place on, as a list of at most 256 numbers, each of at most `most`.
-- Every other record breaks the form, whichever field does: it is answered 19.
use Rattle.std.specs.Prelude.{Bool, cond, ◌&&◌, Option, Some, None, List, map, ℕ, ◌%◌, leb, length}
use Rattle.fields.specs.Fields.{every, is_field, numeral}
use Rattle.listlaws.specs.Lists.{padded}
use Rattle.number_lists.specs.declared.NumberList.{NumberList}

-- a part that is a number of at most `most`
unfoldable pub is_number : ℕ → List ℕ → Bool
is_number most p = is_field p && leb (numeral p) most

-- a list of so many numbers, which stand in the front of the array
abbrev pub whole_list : ℕ → List ℕ → NumberList
whole_list n array = record { count = n; values = array }

-- the list of these numbers, with zeros behind them
unfoldable pub list_with : List ℕ → NumberList
list_with l = whole_list (length l) (padded 256 0 l)

unfoldable pub list_of : ℕ → List (List ℕ) → Option NumberList
list_of most ps = cond (leb (length ps) 256 && every (is_number most) ps) (Some (list_with (map numeral ps))) None

-- the low eight bits of a number
abbrev pub low_byte : ℕ → ℕ
low_byte v = v % 256
