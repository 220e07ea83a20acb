-- The entries of a calendar, by the parts between a record's commas. An entry that its parameter can't hold (above 65,535), or more or
-- fewer than 24 of them, breaks the record, as a part that is no number does: it is answered 19. Assumes nothing.
use Rattle.std.specs.Prelude.{cond, ◌&&◌, Option, Some, None, List, map, ℕ, eqb, length, take}
use Rattle.fields.specs.Fields.{every, numeral}
use Rattle.number_lists.specs.declared.NumberList.{NumberList}
use Rattle.number_lists.specs.NumberList.{is_number}

-- the entries of a calendar, which are the numbers of a list, if they could be read and are 24
abbrev pub calendar_with : Option NumberList → Option (List ℕ)
calendar_with None = None
calendar_with (Some l) = cond (eqb l.count 24) (Some (take 24 l.values)) None

-- A CALENDAR: 24 parts, an entry each
unfoldable pub calendar_in : List (List ℕ) → Option (List ℕ)
calendar_in ps = cond (eqb (length ps) 24 && every (is_number 65535) ps) (Some (map numeral ps)) None
