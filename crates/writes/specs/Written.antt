-- What a writing on a channel comes to, by its number (paper 01, "Offering on a channel"; paper 02, T-04 and T-06). Assumes nothing.
use Rattle.std.specs.Prelude.{List, ℕ, get_or}
use Rattle.rules.specs.declared.Station.{Station}
use Rattle.rules.specs.declared.WireRow.{WireRow}
use Rattle.rules.specs.declared.Writing.{Writing}
use Rattle.rules.specs.Refusing.{by_number}
use Rattle.rules.specs.Calls.{writing_answer}
use Rattle.rules.specs.Writing.{writing_total_of, written_of}
use Rattle.channel_rules.specs.Soundness.{position_of}
use Rattle.channel_rules.specs.ChannelCalls.{channel_write_number_of}
use Rattle.table.specs.Loading.{absent, of, with_of}
use Rattle.calls.specs.ByValue.{array_table, array_channel}
use Rattle.calls.specs.declared.Decided.{Decided}
use Rattle.calls.specs.Replies.{refused_decided}

-- station k of n is written
abbrev pub written_to : List Station → ℕ → List WireRow → ℕ → Writing → Decided
written_to stations n wire k w =
    record {
      loaded = with_of (of stations n) k (written_of (get_or stations k absent) w);
      reply = record { answer = writing_answer w (writing_total_of (get_or stations k absent) w); wire = wire };
    }

-- on the first n records
unfoldable pub decided_of : List Station → ℕ → List WireRow → ℕ → Writing → Decided
decided_of stations n wire index w =
    by_number (channel_write_number_of (array_channel stations n wire) index w) (refused_decided wire)
    (written_to stations n wire (position_of index (array_table stations n)) w)
