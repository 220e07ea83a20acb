-- The quieted channel (paper 02, T-07: "as if every row from now were empty and every message outside H and N were absent"): records
-- outside both transmission queues are free, resolution queues empty and the wire silent; H, N and their places, calendar, position,
-- Open marks and next group stay as they are. Assumes nothing.
use Rattle.std.specs.Prelude.{map, replicate}
use Rattle.rules.specs.declared.Counters.{Counters}
use Rattle.rules.specs.declared.Station.{Station}
use Rattle.rules.specs.declared.Condition.{Condition}
use Rattle.rules.specs.declared.Condition.TheVariants.{Free, Held, Fresh, Asked, Resolving, Urgent, Long}
use Rattle.rules.specs.StationLimits.{holding}
use Rattle.channel_rules.specs.ChannelCalls.{Channel, blank_wire}

-- a message outside H and N is absent
abbrev pub quiet_condition : Condition → Condition
quiet_condition Free = Free
quiet_condition (Held t) = Free
quiet_condition (Fresh t) = Free
quiet_condition (Asked g j t) = Free
quiet_condition (Resolving g i t) = Free
quiet_condition (Urgent i) = Urgent i
quiet_condition (Long f l t) = Long f l t

-- the counters with empty resolution queues
abbrev pub quiet_counters : Counters → Counters
quiet_counters c =
    record {
      minislots = c.minislots;
      groups = c.groups;
      next = c.next;
      urgent = c.urgent;
      long = c.long;
      resolution = replicate 8 0;
      opened = c.opened;
      calendar = c.calendar;
      position = c.position;
    }

abbrev pub quiet_station : Station → Station
quiet_station s =
    record {
      counters = quiet_counters s.counters;
      index = s.index;
      short = holding (quiet_condition s.short.condition);
      long = holding (quiet_condition s.long.condition);
    }

-- THE QUIETED CHANNEL
abbrev pub quieted : Channel → Channel
quieted ch = record { stations = map quiet_station ch.stations; wire = blank_wire }
