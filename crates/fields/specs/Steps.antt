-- One field: what its reader answers of the parts from a place on.
use Rattle.std.specs.Prelude.{Bool, true, false, cond, Option, Some, None, List, [], ◌∷◌, ℕ, ◌+◌, length}
use Rattle.fields.specs.Fields.{is_field, numeral}
use Rattle.fields.specs.declared.Field.{Field}

-- whether no part is left
unfoldable pub none : {A : Type 0} → List A → Bool
none [] = true
none (x ∷ l) = false

-- the first of the parts that begin at place `at`, read as a field
unfoldable pub field_of : ℕ → List (List ℕ) → Option Field
field_of at [] = None
field_of at (p ∷ ps) = cond (is_field p) (Some (record { value = numeral p; next = at + length p + 1; last = none ps })) None
