-- What a start of a channel comes to, by its number (paper 01, "Starting a channel"). Assumes nothing.
use Rattle.std.specs.Prelude.{List, ℕ}
use Rattle.rules.specs.declared.Station.{Station}
use Rattle.rules.specs.declared.StartAnswer.TheVariants.{Ready}
use Rattle.rules.specs.declared.WireRow.{WireRow}
use Rattle.rules.specs.Refusing.{by_number}
use Rattle.channel_rules.specs.ChannelCalls.{ChannelStarted, blank_wire, new_stations, channel_start_number_of}
use Rattle.table.specs.Loading.{blank_of, load_of, store_of}
use Rattle.calls.specs.ByValue.{channel_of}
use Rattle.calls.specs.Replies.{refused_start_reply}
use Rattle.starts.specs.declared.Beginning.{Beginning}

-- a refusal writes no record
abbrev pub no_beginning : List WireRow → ℕ → Beginning
no_beginning wire n = record { loaded = blank_of 0; reply = refused_start_reply wire n }

-- on a table of `count` records
unfoldable pub beginning_of : ℕ → List WireRow → ℕ → ℕ → List ℕ → Beginning
beginning_of count wire m n indexes =
    by_number (channel_start_number_of count m n indexes) (no_beginning wire)
    (record { loaded = load_of (new_stations m n indexes); reply = record { answer = Ready; wire = blank_wire } })

-- what is left once its records are written over the table
abbrev pub start_left : List Station → Beginning → ChannelStarted
start_left ys b = record { state = channel_of (store_of ys b.loaded) b.reply.wire; answer = b.reply.answer }
