-- An entry of a calendar beside a table's stations. Assumes nothing.
use Rattle.std.specs.Prelude.{Bool, ◌||◌, List, ℕ, eqb}
use Rattle.std.specs.List.{list_any}
use Rattle.rules.specs.declared.Station.{Station}
use Rattle.rules.specs.Calendars.{free_entry}

-- one of the stations has this index
abbrev pub has_index : List Station → ℕ → Bool
has_index stations x = list_any (λ (s : Station). eqb s.index x) stations

-- free, or the index of one of the stations
abbrev pub entry_among : List Station → ℕ → Bool
entry_among stations x = eqb x free_entry || has_index stations x
