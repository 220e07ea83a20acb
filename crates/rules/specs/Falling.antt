-- Steps 4 and 5 of the counters: which fall, the next group and the next position (paper 01, "One slot of group g", 4 and 5; paper 02,
-- T-02). Assumes nothing.
use Rattle.std.specs.Prelude.{cond, ℕ, ◌+◌, ◌-◌, eqb, set}
use Rattle.rules.specs.declared.Counters.{Counters}
use Rattle.rules.specs.declared.Places.{Places}
use Rattle.rules.specs.Calendars.{owner_of, position_after}
use Rattle.rules.specs.Turns.{Turn, OwnedTurn, UrgentTurn, LongTurn, ResolveTurn, OpenTurn, turn_of, is_open}

-- urgent: H falls by 1; in an owned slot neither H nor N falls
abbrev pub urgent_falls : Turn → ℕ → ℕ
urgent_falls (OwnedTurn x) h = h
urgent_falls UrgentTurn h = h - 1
urgent_falls LongTurn h = h
urgent_falls ResolveTurn h = h
urgent_falls OpenTurn h = h

-- long: N falls by 1
abbrev pub long_falls : Turn → ℕ → ℕ
long_falls (OwnedTurn x) n = n
long_falls UrgentTurn n = n
long_falls LongTurn n = n - 1
long_falls ResolveTurn n = n
long_falls OpenTurn n = n

-- if RQ > 0 it falls by 1, whatever the turn (in ℕ 0 - 1 is 0)
abbrev pub resolution_falls : ℕ → ℕ
resolution_falls r = r - 1

-- the group after g of n
abbrev pub following : ℕ → ℕ → ℕ
following n g = cond (eqb g n) 1 (g + 1)

-- the record after a slot of its next group, by the lengths p after step 1
unfoldable pub fallen : Counters → Places → Counters
fallen c p =
    record {
      minislots = c.minislots;
      groups = c.groups;
      next = following c.groups c.next;
      urgent = urgent_falls (turn_of (owner_of c) p) p.urgent;
      long = long_falls (turn_of (owner_of c) p) p.long;
      resolution = set c.resolution (c.next - 1) (resolution_falls p.resolution);
      opened = set c.opened (c.next - 1) (is_open (turn_of (owner_of c) p));
      calendar = c.calendar;
      position = position_after c.position;
    }
