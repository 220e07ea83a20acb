-- A calendar's entries: that a calendar read by way of a list of numbers is `calendar_in` of the parts.
-- Assumes nothing.
use Rattle.std.specs.Prelude.{None}
use mathlib.Core.Bool.{Bool, true, false, and-false}
use mathlib.Core.Path.{◌≡◌, refl, ap, ◌∙◌}
use mathlib.Core.List.{List, map}
use Prim.Native.Nat.{ℕ, ◌≤◌}
use native.Mathlib.Omega.{arith}
use borrow.Author.Tests.{eqb-true, leb-true}
use lib.Dec.{leb, eqb}
use lib.ListN.{length, take}
use Rattle.fields.specs.Fields.{every, numeral}
use Rattle.number_lists.specs.NumberList.{is_number, list_with, list_of}
use Rattle.number_lists.proofs.ListLaws.{list-listed, list-whole}
use Rattle.calendar_fields.specs.CalendarFields.{calendar_with, calendar_in}

-- the parts: 24 numbers; numbers, but not 24; not all numbers
module _ (ps : List (List ℕ)) where
  abbrev as_read : Type 0
  as_read = calendar_with (list_of 65535 ps) ≡ calendar_in ps

  all_read : length ps ≡ 24 → every (is_number 65535) ps ≡ true → as_read
  unfolding calendar_in
  all_read n e =
      let few : length ps ≤ 256 = omega arith in
      let g = list-listed 65535 ps few e in
      let k : (list_with (map numeral ps)).count ≡ 24 = g.counted ∙ n in
      let u : take 24 (list_with (map numeral ps)).values ≡ map numeral ps = rw k at g.used in
      ap calendar_with (list-whole 65535 ps few e) ∙ rw (k, u, n, e)

  not_24 : length ps ≤ 256 → eqb (length ps) 24 ≡ false → every (is_number 65535) ps ≡ true → as_read
  unfolding calendar_in
  not_24 h n e =
      let g = list-listed 65535 ps h e in
      ap calendar_with (list-whole 65535 ps h e) ∙ rw (g.counted, n)

  broken : list_of 65535 ps ≡ None → calendar_in ps ≡ None → as_read
  broken l n = rw (l, n)

  pub calendar-read : as_read
  unfolding calendar_in list_of
  calendar-read = go (leb (length ps) 256) (eqb (length ps) 24) (every (is_number 65535) ps) refl refl refl
    where
      go : (s t u : Bool) → leb (length ps) 256 ≡ s → eqb (length ps) 24 ≡ t → every (is_number 65535) ps ≡ u → as_read
      go s true true d f g = all_read (eqb-true _ _ f) g
      go true false true d f g = not_24 (leb-true _ _ d) f g
      go false false true d f g = broken (rw d) (rw f)
      go s t false d f g = broken (rw (g, and-false (leb (length ps) 256))) (rw (g, and-false (eqb (length ps) 24)))
