-- The lines that `show` of `rehearse` prints of a channel: the counters, the owners, each group's RQ and Open mark, a line for each of the
-- two message records of a station, and each group's row on the wire. A line begins with the call's number in the list. Assumes nothing.
use Rattle.std.specs.Prelude.{List, ◌∷◌, ◌++◌, ℕ}
use Rattle.std.specs.List.{flat_map}
use Rattle.rules.specs.declared.Counters.{Counters}
use Rattle.rules.specs.declared.Station.{Station}
use Rattle.rules.specs.declared.WireRow.{WireRow}
use Rattle.counter_lines.specs.CounterLines.{counters_line, owners_line, group_line}
use Rattle.message_lines.specs.MessageLines.{message_lines}
use Rattle.wire_lines.specs.WireLines.{wire_line, groups_lines}

-- ALL LINES of a channel whose stations have the counters c
unfoldable pub show_lines : ℕ → Counters → List Station → List WireRow → List (List ℕ)
show_lines k c stations wire =
    counters_line k c
    ∷ owners_line k c
    ∷ groups_lines c.groups (group_line k c)
    ++ flat_map (message_lines k) stations
    ++ groups_lines c.groups (wire_line k c.minislots wire)
