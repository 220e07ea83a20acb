-- The calendar (paper 02, T-02): who owns the data slot at each of 24 positions, and the position of the coming slot. Assumes nothing.
use Rattle.std.specs.Prelude.{Bool, false, ◌&&◌, ◌||◌, cond, List, [], ◌∷◌, ℕ, ◌+◌, leb, eqb, length, get_or, replicate}
use Rattle.std.proofs.Math.Option.{Option, none, some}
use Rattle.std.specs.List.{list_all}
use Rattle.rules.specs.declared.Counters.{Counters}

-- the positions of a calendar, and the entry that stands for a free one
abbrev pub positions : ℕ
positions = 24

abbrev pub free_entry : ℕ
free_entry = 65535

-- whose a position is, by its entry: nobody's, or the station's with this index
abbrev pub owner_in : ℕ → Option ℕ
owner_in x = cond (eqb x free_entry) none (some x)

-- ---- entries: each free or an index, some of them free

abbrev pub entry_within : ℕ → Bool
entry_within x = eqb x free_entry || leb x 923

unfoldable pub entries_within : List ℕ → Bool
entries_within entries = eqb (length entries) positions && list_all entry_within entries

unfoldable pub some_free : List ℕ → Bool
some_free [] = false
some_free (x ∷ l) = eqb x free_entry || some_free l

-- THE LIMITS of calendar and position (their part of refusal 18)
unfoldable pub calendar_within : Counters → Bool
calendar_within c = leb c.position 23 && entries_within c.calendar && some_free c.calendar

-- ---- slots

-- at the start all are free
abbrev pub free_calendar : List ℕ
free_calendar = replicate 24 free_entry

-- the owner of the coming slot
abbrev pub owner_of : Counters → Option ℕ
owner_of c = owner_in (get_or c.calendar c.position free_entry)

-- each slot that goes through moves the position on by one, 23 to 0
abbrev pub position_after : ℕ → ℕ
position_after p = cond (eqb p 23) 0 (p + 1)
