-- A calendar's entries as the library tests them one after the other: each within, and some free.
-- Assumes nothing.
use mathlib.Core.Path.{◌≡◌, refl, sym, ap}
use mathlib.Core.Bool.{Bool, ◌||◌}
use mathlib.Core.List.{List, [], ◌∷◌}
use Prim.Native.Nat.{ℕ}
use borrow.Author.Tests.{eq-eqb}
use lib.Dec.{eqb}
use lib.ListN.{length}
use Rattle.std.specs.List.{list_all, list_any}
use Rattle.rules.specs.Calendars.{free_entry, entry_within, entries_within, some_free}

-- of 24 entries the test of each is left
pub entries_by : (l : List ℕ) (b : Bool) → length l ≡ 24 → list_all entry_within l ≡ b → b ≡ entries_within l
unfolding entries_within
entries_by l b w e = rw (eq-eqb _ _ w) (sym e)

-- some entry is free
pub free-any : (l : List ℕ) → list_any (λ x. eqb x free_entry) l ≡ some_free l
unfolding some_free
free-any [] = refl
free-any (x ∷ l) = ap (λ b. eqb x free_entry || b) (free-any l)
