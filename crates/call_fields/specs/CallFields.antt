-- The numbers of a start, and of an offer or a hold, by the parts between a record's commas. A number that its parameter can't hold (m or
-- n above 255, an index above 65,535) breaks the record, as a part that is no number does: it is answered 19. Assumes nothing.
use Rattle.std.specs.Prelude.{cond, ◌&&◌, Option, Some, None, List, [], ◌∷◌, ℕ}
use Rattle.fields.specs.Fields.{is_field, numeral}
use Rattle.number_lists.specs.declared.NumberList.{NumberList}
use Rattle.number_lists.specs.NumberList.{is_number, list_of}
use Rattle.call_fields.specs.declared.OfferFields.{OfferFields}
use Rattle.call_fields.specs.declared.StartFields.{StartFields}

-- AN OFFER OR A HOLD: two parts, the index and the bytes
unfoldable pub offer_in : List (List ℕ) → Option OfferFields
offer_in [] = None
offer_in (i ∷ []) = None
offer_in (i ∷ b ∷ []) = cond (is_number 65535 i && is_field b) (Some (record { index = numeral i; bytes = numeral b })) None
offer_in (i ∷ b ∷ c ∷ ps) = None

-- a start of these indexes, if they could be read
abbrev pub start_with : ℕ → ℕ → Option NumberList → Option StartFields
start_with m n None = None
start_with m n (Some indexes) = Some (record { m = m; n = n; indexes = indexes })

-- A START: m, n and then an index for each station, of which there may be none
unfoldable pub start_in : List (List ℕ) → Option StartFields
start_in [] = None
start_in (p ∷ []) = None
start_in (p ∷ q ∷ ps) = cond (is_number 255 p && is_number 255 q) (start_with (numeral p) (numeral q) (list_of 65535 ps)) None
