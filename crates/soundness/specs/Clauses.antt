-- The clauses on messages together, in the order in which the code tests them, for queues as long as the counters say. Assumes nothing.
use Rattle.std.specs.Prelude.{Bool, ◌&&◌, List}
use Rattle.places.specs.Places.{taken_once}
use Rattle.stretches.specs.Stretches.{covered}
use Rattle.rules.specs.declared.Counters.{Counters}
use Rattle.rules.specs.declared.TableMessage.{TableMessage}
use Rattle.rules.specs.declared.WireRow.{WireRow}
use Rattle.channel_rules.specs.Soundness.{urgent_places, long_stretches}
use Rattle.sound_resolution.specs.Resolution.{queues_sound}
use Rattle.sound_wire.specs.Wire.{wire_carries}

unfoldable pub messages_sound : Counters → List TableMessage → List WireRow → Bool
messages_sound c messages wire =
    taken_once (urgent_places messages) c.urgent
    && covered (long_stretches messages) c.long
    && queues_sound messages c.resolution
    && wire_carries messages wire
