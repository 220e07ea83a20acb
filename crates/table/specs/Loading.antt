-- The lent table by value: its first 64 records, over blank ones, and how many it has; and what the lent table holds once the records of
-- one by value are written over it. Assumes nothing.
use Rattle.std.specs.Prelude.{ℕ, min, List, [], length, replicate, set, take}
use Rattle.listlaws.specs.Steps.{all_steps, latter}
use Rattle.rules.specs.declared.Station.{Station}
use Rattle.rules.specs.declared.Condition.TheVariants.{Free}
use Rattle.rules.specs.StationCalls.{no_station}
use Rattle.table.specs.declared.Loaded.{Loaded}

-- what a read past the end of a list of stations gives, by the borrow checker's own default, in which an array is `[]`
abbrev pub absent : Station
absent = record {
  counters =
      record {
        minislots = 0;
        groups = 0;
        next = 0;
        urgent = 0;
        long = 0;
        resolution = [];
        opened = [];
        calendar = [];
        position = 0;
      };
  index = 0;
  short = record { condition = Free };
  long = record { condition = Free };
}

-- how many records are copied
unfoldable pub copies_of : ℕ → ℕ → ℕ
copies_of n m = min (min n m) 64

abbrev pub of : List Station → ℕ → Loaded
of l n = record { stations = l; count = n }

unfoldable pub blank_stations : List Station
blank_stations = replicate 64 no_station

-- a table of n stations, none of them read
unfoldable pub blank_of : ℕ → Loaded
blank_of n = of blank_stations n

-- station i is s
unfoldable pub with_of : Loaded → ℕ → Station → Loaded
with_of d i s = of (set d.stations i s) d.count

-- the first 64 of the lent records, over blank ones, and the table's length
unfoldable pub load_of : List Station → Loaded
load_of ys = of (all_steps latter (replicate 64 no_station) (take 64 ys)) (length ys)

-- the table by value
abbrev pub table_in : Loaded → List Station
table_in d = take d.count d.stations

-- the records of a table by value written over the lent ones, as far as both go
unfoldable pub store_of : List Station → Loaded → List Station
store_of ys d = all_steps latter ys (table_in d)
