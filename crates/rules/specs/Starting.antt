-- Starting a listener (paper 01, "Counters": at the start all counters are 0, every Open is yes, the next group is 1; refusal 5; paper 02,
-- T-02: every position is free). Assumes nothing.
use Rattle.std.specs.Prelude.{Bool, true, false, ◌&&◌, ℕ, replicate}
use Rattle.rules.specs.declared.Counters.{Counters}
use Rattle.rules.specs.declared.Started.{Started}
use Rattle.rules.specs.declared.StartAnswer.TheVariants.{Ready, Refused}
use Rattle.rules.specs.Calendars.{free_calendar}
use Rattle.rules.specs.Limits.{between}
use Rattle.rules.specs.Refusing.{unless, by_number}

-- the counters at the start
abbrev pub start_counters : ℕ → ℕ → Counters
start_counters m n =
    record {
      minislots = m;
      groups = n;
      next = 1;
      urgent = 0;
      long = 0;
      resolution = replicate 8 0;
      opened = replicate 8 true;
      calendar = free_calendar;
      position = 0;
    }

-- what stands in for a record where a start is refused: all zero, outside the limits
abbrev pub no_counters : Counters
no_counters =
    record {
      minislots = 0;
      groups = 0;
      next = 0;
      urgent = 0;
      long = 0;
      resolution = replicate 8 0;
      opened = replicate 8 false;
      calendar = replicate 24 0;
      position = 0;
    }

-- m and n in their ranges (refusal 5)
abbrev pub in_ranges : ℕ → ℕ → Bool
in_ranges m n = between 2 m 8 && between 1 n 8

abbrev pub refused_listener : ℕ → Started
refused_listener n = record { answer = Refused n; counters = no_counters }

-- STARTING A LISTENER: 5
unfoldable pub start_number_of : ℕ → ℕ → ℕ
start_number_of m n = unless (in_ranges m n) 5 0

unfoldable pub start_of : ℕ → ℕ → Started
start_of m n = by_number (start_number_of m n) refused_listener (record { answer = Ready; counters = start_counters m n })
