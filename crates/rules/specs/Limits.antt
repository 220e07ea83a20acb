-- A record of counters within its limits (paper 01, "Counters", and the counters' part of "A record is within its limits"; paper 02,
-- T-02). Assumes nothing.
use Rattle.std.specs.Prelude.{Bool, true, ◌&&◌, cond, ℕ, leb, ltb, eqb, length}
use Rattle.listlaws.specs.Every.{every_from}
use Rattle.rules.specs.declared.Counters.{Counters}
use Rattle.rules.specs.Calendars.{calendar_within}

-- low ≤ x ≤ high
abbrev pub between : ℕ → ℕ → ℕ → Bool
between low x high = leb low x && leb x high

-- the limits of paper 01, "Counters"
abbrev pub urgent_limit : ℕ
urgent_limit = 4095

abbrev pub long_limit : ℕ
long_limit = 65535

abbrev pub resolution_limit : ℕ
resolution_limit = 4095

-- the RQ at position i of n groups' array: within its limit, and as at the start for a group above n
abbrev pub resolution_within : ℕ → ℕ → ℕ → Bool
resolution_within n i r = cond (ltb i n) (leb r resolution_limit) (eqb r 0)

-- the Open mark at position i: as at the start for a group above n
abbrev pub opened_within : ℕ → ℕ → Bool → Bool
opened_within n i b = cond (ltb i n) true b

-- the two arrays
unfoldable pub groups_within : Counters → Bool
groups_within c =
    eqb (length c.resolution) 8 && eqb (length c.opened) 8 && every_from (resolution_within c.groups) 0 c.resolution
    && every_from (opened_within c.groups) 0 c.opened

-- the next group, H, N and the arrays
abbrev pub counts_within : Counters → Bool
counts_within c =
    between 1 c.next c.groups && leb c.urgent urgent_limit && leb c.long long_limit && groups_within c

-- THE LIMITS of a record of counters (refusal 18 for a listener)
unfoldable pub within_limits : Counters → Bool
within_limits c = between 2 c.minislots 8 && between 1 c.groups 8 && counts_within c && calendar_within c
