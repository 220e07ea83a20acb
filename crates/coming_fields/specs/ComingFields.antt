-- How many coming slots are asked about (paper 02, T-07), by the parts between a record's commas. A number that its parameter can't hold
-- (above 65,535), or more than one number, breaks the record, as a part that is no number does: it is answered 19. Assumes nothing.
use Rattle.std.specs.Prelude.{cond, Option, Some, None, List, [], ◌∷◌, ℕ}
use Rattle.fields.specs.Fields.{numeral}
use Rattle.number_lists.specs.NumberList.{is_number}

-- THE SLOTS ASKED ABOUT: one part
unfoldable pub coming_in : List (List ℕ) → Option ℕ
coming_in [] = None
coming_in (p ∷ []) = cond (is_number 65535 p) (Some (numeral p)) None
coming_in (p ∷ q ∷ ps) = None
