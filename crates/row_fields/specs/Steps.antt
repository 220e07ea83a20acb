-- The private step on the way to `row_of`: what the reader of one pair of fields answers, of the parts from a place on.
use Rattle.std.specs.Prelude.{Bool, cond, ◌&&◌, Option, Some, None, List, [], ◌∷◌, ℕ, ◌+◌, leb, length}
use Rattle.fields.specs.Fields.{is_field, numeral}
use Rattle.fields.specs.Steps.{none}
use Rattle.row_fields.specs.declared.Pair.{Pair}
use Rattle.row_fields.specs.declared.Pair.TheVariants as pair

-- a part that may stand at a word's position, and one that may stand at a count's
unfoldable pub is_word : List ℕ → Bool
is_word p = is_field p && leb (numeral p) 65535

unfoldable pub is_count : List ℕ → Bool
is_count p = is_field p && leb (numeral p) 255

-- the parts after the word p, which begins at place `at`: none, or a count
unfoldable pub after_word : ℕ → List ℕ → List (List ℕ) → Option Pair
after_word at p [] = Some (pair.Odd (numeral p))
after_word at p (q ∷ ps) =
    cond (is_count q) (Some (pair.Both (numeral p) (numeral q) (at + length p + 1 + length q + 1) (none ps))) None

-- the first two of the parts that begin at place `at`, read as a word and a count
unfoldable pub pair_of : ℕ → List (List ℕ) → Option Pair
pair_of at [] = None
pair_of at (p ∷ ps) = cond (is_word p) (after_word at p ps) None
