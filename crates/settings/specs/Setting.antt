-- What setting a channel's calendar comes to, by its number (paper 02, T-02). Assumes nothing.
use Rattle.std.specs.Prelude.{List, map, ℕ}
use Rattle.rules.specs.declared.Answer.TheVariants.{Set}
use Rattle.rules.specs.declared.Station.{Station}
use Rattle.rules.specs.declared.WireRow.{WireRow}
use Rattle.rules.specs.Refusing.{by_number}
use Rattle.rules.specs.Settings.{calendar_on}
use Rattle.channel_rules.specs.ChannelCalls.{channel_calendar_number_of}
use Rattle.table.specs.Loading.{of}
use Rattle.calls.specs.declared.Decided.{Decided}
use Rattle.calls.specs.ByValue.{array_channel}
use Rattle.calls.specs.Replies.{refused_decided}

-- every record of the copy has these entries, and n of them are the table's
abbrev pub set_of : List Station → ℕ → List WireRow → List ℕ → Decided
set_of stations n wire entries =
    record { loaded = of (map (calendar_on entries) stations) n; reply = record { answer = Set; wire = wire } }

-- on the first n records
unfoldable pub setting_of : List Station → ℕ → List WireRow → List ℕ → Decided
setting_of stations n wire entries =
    by_number (channel_calendar_number_of (array_channel stations n wire) entries) (refused_decided wire) (set_of stations n wire entries)
