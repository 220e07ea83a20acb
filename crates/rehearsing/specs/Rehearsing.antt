-- What each record of `rehearse` leads to: the start of a channel, and then its calls, each the channel's own. A record that is no call of
-- the form is 19 and ends the output, and so does a start that is refused, with its number; a call that is refused prints a line like any
-- other. Assumes nothing.
use Rattle.std.specs.Prelude.{cond, Option, Some, None, List, [], ◌∷◌, ℕ, ◌-◌, min, ltb, take, drop, replicate}
use Rattle.fields.specs.Fields.{parts}
use Rattle.number_lists.specs.declared.NumberList.{NumberList}
use Rattle.number_lists.specs.NumberList.{list_of}
use Rattle.call_records.specs.declared.Kind.{Kind}
use Rattle.call_records.specs.declared.Kind.TheVariants as kind
use Rattle.call_records.specs.Words.{kind_of}
use Rattle.call_fields.specs.declared.StartFields.{StartFields}
use Rattle.call_fields.specs.CallFields.{offer_in, start_in}
use Rattle.which_fields.specs.WhichFields.{which_in}
use Rattle.write_fields.specs.declared.WriteFields.{WriteFields}
use Rattle.write_fields.specs.WriteFields.{new_by, held_by}
use Rattle.calendar_fields.specs.CalendarFields.{calendar_in}
use Rattle.coming_fields.specs.ComingFields.{coming_in}
use Rattle.answer_lines.specs.AnswerLines.{answer_line}
use Rattle.coming_lines.specs.ComingLines.{coming_line}
use Rattle.show_lines.specs.ShowLines.{show_lines}
use Rattle.programs.specs.Places.{place_following}
use Rattle.programs.specs.Program.{Result, Goes, Ends}
use Rattle.rules.specs.declared.Counters.{Counters}
use Rattle.rules.specs.declared.StartAnswer.{StartAnswer}
use Rattle.rules.specs.declared.StartAnswer.TheVariants.{Ready, Refused}
use Rattle.rules.specs.declared.Writing.TheVariants.{Offer, Hold, Commit, Withdraw}
use Rattle.rules.specs.StationCalls.{no_station}
use Rattle.channel_rules.specs.Soundness.{table_counters}
use Rattle.channel_rules.specs.ChannelCalls.{blank_wire}
use Rattle.coming_rules.specs.Coming.{ComingResult, coming_of}
use Rattle.local_channel.specs.declared.LocalChannel.{LocalChannel}
use Rattle.local_channel.specs.declared.LocalStarted.{LocalStarted}
use Rattle.local_channel.specs.declared.LocalCalled.{LocalCalled}
use Rattle.local_channel.specs.Local.{lent_by, local_start_of, local_write_of, local_slot_of, local_calendar_of}
use Rattle.rehearsing.specs.declared.Rehearsal.{Rehearsal}

-- a table of so many records that stand for no station, and a silent wire
abbrev pub blank_channel : ℕ → LocalChannel
blank_channel count = record { stations = replicate 65 no_station; count = count; wire = blank_wire }

-- before the start: there is no table yet, and record 1 is to come
abbrev pub at_start : Rehearsal
at_start = record { channel = blank_channel 0; place = 1 }

-- the record went through, and left the channel so
abbrev pub with_channel : Rehearsal → LocalChannel → Rehearsal
with_channel r channel = record { channel = channel; place = place_following r.place }

-- the counters that all stations share
abbrev pub counters_of : LocalChannel → Counters
counters_of c = table_counters c.stations

-- ---- the start: a table of as many stations as there are indexes

abbrev pub started_by : Rehearsal → LocalChannel → StartAnswer → Result Rehearsal
started_by r channel Ready = Goes (with_channel r channel) []
started_by r channel (Refused number) = Ends number

abbrev pub started_result : Rehearsal → LocalStarted → Result Rehearsal
started_result r s = started_by r s.channel s.answer

abbrev pub indexes_of : NumberList → List ℕ
indexes_of l = take l.count l.values

abbrev pub start_of : StartFields → LocalStarted
start_of s = local_start_of (blank_channel s.indexes.count) s.m s.n (indexes_of s.indexes)

unfoldable pub start_result : Rehearsal → Option StartFields → Result Rehearsal
start_result r None = Ends 19
start_result r (Some s) = started_result r (start_of s)

-- ---- an offer, a hold, a commit, a withdrawal, a slot and a calendar: the call's line, by the counters after it and the group whose slot
-- ---- was next before it. The number of a call in the list is that of its record where the start does not count

abbrev pub called_result : Rehearsal → LocalCalled → Result Rehearsal
called_result r called =
    let line = answer_line (r.place - 1) (counters_of r.channel).next (counters_of called.channel) called.answer in
    Goes (with_channel r called.channel) (line ∷ [])

unfoldable pub write_result : Rehearsal → Option WriteFields → Result Rehearsal
write_result r (Some w) = called_result r (local_write_of r.channel w.index w.writing)
write_result r None = Ends 19

unfoldable pub slot_result : Rehearsal → Option NumberList → Result Rehearsal
slot_result r None = Ends 19
slot_result r (Some picks) = called_result r (local_slot_of r.channel (take picks.count picks.values))

unfoldable pub bare_result : Rehearsal → Result Rehearsal
bare_result r = called_result r (local_slot_of r.channel [])

unfoldable pub calendar_result : Rehearsal → Option (List ℕ) → Result Rehearsal
calendar_result r None = Ends 19
calendar_result r (Some entries) = called_result r (local_calendar_of r.channel entries)

-- ---- who sends in the coming slots: the channel stays as it was. A list of w entries is lent, of a room for one entry more than a list
-- ---- may have, so that any longer list is refused by the call's own number

abbrev pub coming_result_by : Rehearsal → ComingResult → Result Rehearsal
coming_result_by r coming = Goes (with_channel r r.channel) (coming_line (r.place - 1) coming.answer coming.list ∷ [])

abbrev pub coming_with : Rehearsal → ℕ → Result Rehearsal
coming_with r w = coming_result_by r (coming_of (lent_by r.channel) (replicate (min w 1025) 0))

unfoldable pub coming_result : Rehearsal → Option ℕ → Result Rehearsal
coming_result r None = Ends 19
coming_result r (Some w) = coming_with r w

-- ---- to be shown the channel

unfoldable pub show_result : Rehearsal → Result Rehearsal
show_result r =
    let c = r.channel in
    Goes (with_channel r c) (show_lines (r.place - 1) (counters_of c) (take c.count c.stations) c.wire)

-- ---- a record after the first, by the word that it begins with; `offer,` has 6 bytes, `hold,` 5, `commit,` 7, `withdraw,` 9, `slot,` 5,
-- ---- `calendar,` 9 and `coming,` 7

abbrev pub call_by : Rehearsal → List ℕ → Kind → Result Rehearsal
call_by r bytes kind.Offer = write_result r (new_by Offer (offer_in (parts (drop 6 bytes))))
call_by r bytes kind.Hold = write_result r (new_by Hold (offer_in (parts (drop 5 bytes))))
call_by r bytes kind.Commit = write_result r (held_by Commit (which_in (parts (drop 7 bytes))))
call_by r bytes kind.Withdraw = write_result r (held_by Withdraw (which_in (parts (drop 9 bytes))))
call_by r bytes kind.Slot = slot_result r (list_of 255 (parts (drop 5 bytes)))
call_by r bytes kind.BareSlot = bare_result r
call_by r bytes kind.Calendar = calendar_result r (calendar_in (parts (drop 9 bytes)))
call_by r bytes kind.Show = show_result r
call_by r bytes kind.Coming = coming_result r (coming_in (parts (drop 7 bytes)))
call_by r bytes kind.Unknown = Ends 19

-- A RECORD: the start, and then calls
unfoldable pub rehearse_record : Rehearsal → List ℕ → Result Rehearsal
rehearse_record r bytes = cond (ltb 1 r.place) (call_by r bytes (kind_of bytes)) (start_result r (start_in (parts bytes)))
