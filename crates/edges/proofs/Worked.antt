-- Worked channels, by hand-checked numbers: a list of calls on three stations in two groups, and every answer. The table's answers and the
-- plain channel's are each computed. Shown: immediate success; two stations that collide, resolve and are served; a long message preempted by an urgent one;
-- a Collide beside a Single; every refusal of an offer and of a slot that a sound channel can give but 7. A list with calendars: owned slots beside a request,
-- an urgent place and an immediate success. A list on both records of a station. One of short and long requests side by side. And one of messages that are
-- held, committed and withdrawn. Assumes nothing.
use mathlib.Core.Path.{◌≡◌, refl, ◌∙◌}
use mathlib.Core.List.{List, [], ◌∷◌}
use Prim.Native.Nat.{ℕ}
use lib.ListN.{replicate}
use Rattle.message.specs.Message.{fits_message, fits_short, slots_for, ceiling}
use Rattle.rules.specs.declared.StartAnswer.TheVariants.{Ready}
use lib.Count.{ones, ones_in}
use Rattle.pattern.specs.Patterns.{patterns, those, six_ones, word_of, index_of, place_of}
use Rattle.pattern.specs.Ones.{contains_ones}
use Rattle.minislot.specs.Reading.{reading_of}
use Rattle.rows.specs.Row.{readings, first_number, feedbacks}
use Rattle.requests.specs.Together.{together}
use Rattle.rules.specs.Calendars.{entries_within, some_free, calendar_within}
use Rattle.rules.specs.Limits.{groups_within, within_limits}
use Rattle.rules.specs.RowCounts.{short_singles, collides}
use Rattle.rules.specs.Queueing.{queued_row, passes, immediate_of, places_after, step_one_of}
use Rattle.rules.specs.declared.Turn.TheVariants.{Owned as OwnedTurn, Urgent as UrgentTurn, Long as LongTurn, Resolve as ResolveTurn, Open as OpenTurn}
use Rattle.rules.specs.Turns.{turn_of}
use Rattle.rules.specs.Falling.{fallen}
use Rattle.rules.specs.Messages.{record_of}
use Rattle.rules.specs.StationLimits.{condition_within, short_within, long_within, records_apart, messages_within, station_within}
use Rattle.rules.specs.OwnHearing.{hears_itself}
use Rattle.rules.specs.Requesting.{requests, requested}
use Rattle.rules.specs.Serving.{sends, moved}
use Rattle.rules.specs.StationCalls.{no_station, heard_slot_number_of, slot_number_of, slot_of}
use Rattle.channel_rules.specs.Soundness.{indexes_distinct, records_within, same_counters, counters_shared, urgent_sound, long_sound, resolution_sound, asked_minislot, wire_sound, entries_on, owners_sound, sound_table}
use Rattle.channel_rules.specs.ChannelCalls.{Channel, blank_wire, channel_start_number_of, channel_start_of, channel_write_number_of, channel_write_of, heard_row, channel_slot_number_of, channel_slot_of, channel_calendar_number_of, channel_calendar_of, channel_answers}
use Rattle.rules.specs.declared.Answer.{Answer}
use Rattle.rules.specs.declared.Answer.TheVariants.{Refused, Taken, OnHold, Committed, Withdrawn, Set, Went}
use Rattle.rules.specs.Calls.{Start, Call, Write, Slot, Calendar}
use Rattle.rules.specs.declared.Which.{Which}
use Rattle.rules.specs.declared.Which.TheVariants.{ShortOne, LongOne}
use Rattle.rules.specs.declared.Writing.TheVariants.{Offer, Hold, Commit, Withdraw}
use Rattle.rules.specs.Plain.{plain_start, plain_answers}
use Rattle.channel_rules.proofs.Theorem.{demand3}
use Rattle.rules.specs.Landing.{landings}
use Rattle.rules.specs.Outcome.{outcome_by}
use Rattle.rules.specs.Stepping.{settled_in, acts_of, acts_beside, step_of}

-- a table of three stations, whatever they hold, started with two minislots, two groups and three indexes
abbrev table : Channel
table = record { stations = replicate 3 no_station; wire = blank_wire }

abbrev indexes : List ℕ
indexes = 7 ∷ 9 ∷ 923 ∷ []

abbrev start : Start
start = record { m = 2; n = 2; indexes = 7 ∷ 9 ∷ 923 ∷ [] }

goes : (channel_start_of table 2 2 indexes).answer ≡ Ready
unfolding channel_start_of channel_start_number_of
goes = refl

-- the picks of the three stations
abbrev slot : ℕ → ℕ → ℕ → Call
slot a b c = Slot (a ∷ b ∷ c ∷ [])

-- to the station of an index: a message of so many bytes
abbrev offer : ℕ → ℕ → Call
offer x bytes = Write x (Offer bytes)

abbrev calls : List Call
calls =
    -- station 1 alone (index 7): it asks and sends in an open slot of group 1; heard alone there, it is delivered
    offer 7 48 ∷ slot 1 1 1 ∷ slot 1 1 1 ∷ slot 1 1 1
    -- stations 1 and 2 (1 slot and 3) collide in group 2, resolve, and are queued: H 1, N 3; the urgent one is served first
    ∷ offer 7 1 ∷ offer 9 100 ∷ slot 1 1 1 ∷ slot 1 1 1 ∷ slot 1 2 1 ∷ slot 1 1 1 ∷ slot 1 1 1
    -- station 3's message comes between: it asks in group 1 while the long message is served, and preempts it when heard, the last slot of group 1 having been no open one
    ∷ offer 923 1 ∷ slot 1 1 1 ∷ slot 1 1 1 ∷ slot 1 1 1 ∷ slot 1 1 1
    -- stations 1 and 2 collide beside station 3's Single: three send, none is delivered; then 3 is served, 1 and 2 resolve
    ∷ offer 7 48 ∷ offer 9 48 ∷ offer 923 48 ∷ slot 1 1 2 ∷ slot 1 1 1 ∷ slot 1 2 1 ∷ slot 1 1 1 ∷ slot 1 1 1 ∷ slot 1 1 1 ∷ slot 1 1 1
    -- refusals: a waiting message of that kind, no station of that index, 0 bytes, 12,241 bytes, two picks, a pick of 3, a pick of 0
    ∷ offer 7 12240 ∷ offer 7 49 ∷ offer 8 1 ∷ offer 9 0 ∷ offer 9 12241 ∷ Slot (1 ∷ 1 ∷ []) ∷ slot 1 3 1 ∷ slot 0 1 1
    ∷ []

abbrev answers : List Answer
answers =
    Taken 1 ∷ Went OpenTurn 1 7 1 0 ∷ Went OpenTurn 0 0 0 0 ∷ Went OpenTurn 0 0 0 1
    ∷ Taken 1 ∷ Taken 3 ∷ Went OpenTurn 1 7 1 0 ∷ Went OpenTurn 0 0 0 0 ∷ Went ResolveTurn 0 0 0 0 ∷ Went OpenTurn 0 0 0 0 ∷ Went UrgentTurn 1 7 1 1
    ∷ Taken 1 ∷ Went LongTurn 1 9 1 1 ∷ Went LongTurn 1 9 2 1 ∷ Went UrgentTurn 1 923 1 1 ∷ Went LongTurn 1 9 3 1
    ∷ Taken 1 ∷ Taken 1 ∷ Taken 1 ∷ Went OpenTurn 3 0 0 0 ∷ Went OpenTurn 0 0 0 0 ∷ Went UrgentTurn 1 923 1 1 ∷ Went OpenTurn 0 0 0 0 ∷ Went UrgentTurn 1 7 1 1 ∷ Went UrgentTurn 1 9 1 1 ∷ Went OpenTurn 0 0 0 0
    ∷ Taken 255 ∷ Refused 9 ∷ Refused 16 ∷ Refused 10 ∷ Refused 10 ∷ Refused 17 ∷ Refused 11 ∷ Refused 11
    ∷ []

-- on the plain channel
plain : plain_answers start (plain_start start) calls ≡ answers
unfolding fits_message slots_for ceiling record_of
plain = refl

-- on the table and the wire: words, readings, soundness and all
direct : channel_answers (channel_start_of table 2 2 indexes).state calls ≡ answers
unfolding ones ones_in fits_message fits_short slots_for ceiling patterns those six_ones word_of index_of place_of contains_ones reading_of readings first_number feedbacks short_singles collides
    together groups_within entries_within some_free calendar_within within_limits queued_row passes immediate_of places_after step_one_of turn_of fallen condition_within short_within long_within records_apart messages_within station_within landings outcome_by settled_in acts_of acts_beside step_of
    hears_itself requests requested sends moved heard_slot_number_of slot_number_of slot_of indexes_distinct records_within same_counters counters_shared urgent_sound long_sound
    resolution_sound asked_minislot wire_sound entries_on owners_sound sound_table channel_start_number_of channel_start_of channel_write_number_of channel_write_of heard_row channel_slot_number_of channel_slot_of
direct = refl

-- THE WORKED CHANNELS: the table and the wire, the plain channel, and the one by the other through demand 3
pub worked : (channel_answers (channel_start_of table 2 2 indexes).state calls ≡ answers) × (plain_answers start (plain_start start) calls ≡ answers)
worked = (direct, plain)

pub worked-by-demand3 : channel_answers (channel_start_of table 2 2 indexes).state calls ≡ answers
worked-by-demand3 = (demand3 table 2 2 indexes goes calls).answers ∙ plain

-- ---- STREAMS: the same three stations, with calendars

-- index 7 owns positions 0 and 3, index 923 position 2; an entry beside free ones
abbrev calendar : Call
calendar = Calendar (7 ∷ 65535 ∷ 923 ∷ 7 ∷ replicate 20 65535)

abbrev only : ℕ → Call
only x = Calendar (x ∷ replicate 23 65535)

abbrev streams : List Call
streams =
    -- in station 1's owned slot of group 1 station 2 asks, and sends no data; then station 1 itself asks in an open slot of group 2
    calendar ∷ offer 9 48 ∷ slot 1 1 1 ∷ offer 7 48 ∷ slot 1 1 1
    -- station 2 is heard alone, but the mark of group 1 is no: it is urgent, and stays at its place while station 3's stream is sent
    ∷ slot 1 1 1
    -- station 1 is heard alone: immediate success, delivered in its own owned slot; then the urgent place is served
    ∷ slot 1 1 1 ∷ slot 1 1 1
    -- refusals: an owner above 923, one that is not on the channel, no free position; then a calendar that frees every position
    ∷ only 924 ∷ only 8 ∷ Calendar (replicate 24 7) ∷ Calendar (replicate 24 65535) ∷ slot 1 1 1
    ∷ []

abbrev stream-answers : List Answer
stream-answers =
    Set ∷ Taken 1 ∷ Went (OwnedTurn 7) 1 7 0 0 ∷ Taken 1 ∷ Went OpenTurn 1 7 1 0
    ∷ Went (OwnedTurn 923) 1 923 0 0
    ∷ Went (OwnedTurn 7) 1 7 0 1 ∷ Went UrgentTurn 1 9 1 1
    ∷ Refused 20 ∷ Refused 20 ∷ Refused 21 ∷ Set ∷ Went OpenTurn 0 0 0 0
    ∷ []

streams-plain : plain_answers start (plain_start start) streams ≡ stream-answers
unfolding fits_message slots_for ceiling record_of
streams-plain = refl

streams-direct : channel_answers (channel_start_of table 2 2 indexes).state streams ≡ stream-answers
unfolding ones ones_in fits_message fits_short slots_for ceiling patterns those six_ones word_of index_of place_of contains_ones reading_of readings first_number feedbacks short_singles collides
    together groups_within entries_within some_free calendar_within within_limits queued_row passes immediate_of places_after step_one_of turn_of fallen condition_within short_within long_within records_apart messages_within station_within landings
    outcome_by settled_in acts_of acts_beside step_of hears_itself requests requested sends moved heard_slot_number_of slot_number_of slot_of indexes_distinct records_within same_counters counters_shared urgent_sound long_sound
    resolution_sound asked_minislot wire_sound entries_on owners_sound sound_table channel_start_number_of channel_start_of channel_write_number_of channel_write_of heard_row channel_slot_number_of channel_slot_of
    channel_calendar_number_of channel_calendar_of
streams-direct = refl

-- THE WORKED STREAMS: the table and the wire, and the plain channel
pub worked-streams : (channel_answers (channel_start_of table 2 2 indexes).state streams ≡ stream-answers) × (plain_answers start (plain_start start) streams ≡ stream-answers)
worked-streams = (streams-direct, streams-plain)

-- ---- BOTH RECORDS: the same three stations, a short and a long message of station 1 side by side

abbrev pairs : List Call
pairs =
    -- of two fresh messages the short one asks and sends, in group 1; the long one stayed fresh and asks in group 2, so both are asked
    offer 7 100 ∷ offer 7 48 ∷ slot 1 1 1 ∷ slot 2 1 1
    -- the short one is delivered at once; the next one asks in group 2, where it collides with station 2's, while the long one is served
    ∷ slot 1 1 1 ∷ offer 7 1 ∷ offer 9 1 ∷ slot 1 1 1 ∷ slot 1 1 1
    -- it resolves while the long one's last slot is sent; then a long message asks in group 1
    ∷ slot 1 2 1 ∷ offer 7 96 ∷ slot 1 1 1
    -- both short ones are urgent, and overtake the long one that waits in the long queue
    ∷ slot 1 1 1 ∷ slot 1 1 1
    -- a short one asks while the long one is served, and is queued behind nobody
    ∷ offer 7 1 ∷ slot 1 1 1 ∷ slot 1 1 1 ∷ slot 1 1 1
    -- each record is in use, and 10 comes before 9
    ∷ offer 7 100 ∷ offer 7 48 ∷ offer 7 97 ∷ offer 7 47 ∷ offer 7 0 ∷ offer 7 12241
    ∷ []

abbrev pair-answers : List Answer
pair-answers =
    Taken 3 ∷ Taken 1 ∷ Went OpenTurn 1 7 1 0 ∷ Went OpenTurn 0 0 0 0
    ∷ Went OpenTurn 0 0 0 1 ∷ Taken 1 ∷ Taken 1 ∷ Went LongTurn 1 7 1 1 ∷ Went LongTurn 1 7 2 1
    ∷ Went LongTurn 1 7 3 1 ∷ Taken 2 ∷ Went OpenTurn 0 0 0 0
    ∷ Went UrgentTurn 1 7 1 1 ∷ Went UrgentTurn 1 9 1 1
    ∷ Taken 1 ∷ Went LongTurn 1 7 1 1 ∷ Went LongTurn 1 7 2 1 ∷ Went UrgentTurn 1 7 1 1
    ∷ Taken 3 ∷ Taken 1 ∷ Refused 9 ∷ Refused 9 ∷ Refused 10 ∷ Refused 10
    ∷ []

pairs-plain : plain_answers start (plain_start start) pairs ≡ pair-answers
unfolding fits_message slots_for ceiling record_of
pairs-plain = refl

pairs-direct : channel_answers (channel_start_of table 2 2 indexes).state pairs ≡ pair-answers
unfolding ones ones_in fits_message fits_short slots_for ceiling patterns those six_ones word_of index_of place_of contains_ones reading_of readings first_number feedbacks short_singles collides
    together groups_within entries_within some_free calendar_within within_limits queued_row passes immediate_of places_after step_one_of turn_of fallen condition_within short_within long_within records_apart messages_within station_within landings outcome_by settled_in acts_of acts_beside step_of
    hears_itself requests requested sends moved heard_slot_number_of slot_number_of slot_of indexes_distinct records_within same_counters counters_shared urgent_sound long_sound
    resolution_sound asked_minislot wire_sound entries_on owners_sound sound_table channel_start_number_of channel_start_of channel_write_number_of channel_write_of heard_row channel_slot_number_of channel_slot_of
pairs-direct = refl

-- THE WORKED PAIR: the table and the wire, and the plain channel
pub worked-pair : (channel_answers (channel_start_of table 2 2 indexes).state pairs ≡ pair-answers) × (plain_answers start (plain_start start) pairs ≡ pair-answers)
worked-pair = (pairs-direct, pairs-plain)

-- ---- ONE SHORT REQUEST AMONG LONG ONES: the same three stations

abbrev among : List Call
among =
    -- in an open slot of group 1 station 1 asks for one slot and sends it, station 2 asks for three beside it; heard again, the one is delivered and the three
    -- are queued, so that the turn is long and two slots are delivered
    offer 7 48 ∷ offer 9 100 ∷ slot 1 2 1 ∷ slot 1 1 1 ∷ slot 1 1 1 ∷ slot 1 1 1
    -- the same of stations 1 and 3 while the long queue is served: the mark is no, and the one is queued
    ∷ offer 7 1 ∷ offer 923 96 ∷ slot 1 1 2 ∷ slot 1 1 1 ∷ slot 1 1 1 ∷ slot 1 1 1 ∷ slot 1 1 1
    -- two of one slot each in an open slot of group 2: both sent, so neither arrived, and both are queued
    ∷ slot 1 1 1 ∷ slot 1 1 1 ∷ offer 7 1 ∷ offer 9 1 ∷ slot 1 2 1 ∷ slot 1 1 1 ∷ slot 1 1 1 ∷ slot 1 1 1 ∷ slot 1 1 1
    ∷ []

abbrev among-answers : List Answer
among-answers =
    Taken 1 ∷ Taken 3 ∷ Went OpenTurn 1 7 1 0 ∷ Went OpenTurn 0 0 0 0 ∷ Went LongTurn 1 9 1 2 ∷ Went LongTurn 1 9 2 1
    ∷ Taken 1 ∷ Taken 2 ∷ Went LongTurn 1 9 3 1 ∷ Went OpenTurn 0 0 0 0 ∷ Went UrgentTurn 1 7 1 1 ∷ Went LongTurn 1 923 1 1 ∷ Went LongTurn 1 923 2 1
    ∷ Went OpenTurn 0 0 0 0 ∷ Went OpenTurn 0 0 0 0 ∷ Taken 1 ∷ Taken 1 ∷ Went OpenTurn 2 0 0 0 ∷ Went OpenTurn 0 0 0 0 ∷ Went UrgentTurn 1 7 1 1
    ∷ Went UrgentTurn 1 9 1 1 ∷ Went OpenTurn 0 0 0 0
    ∷ []

among-plain : plain_answers start (plain_start start) among ≡ among-answers
unfolding fits_message slots_for ceiling record_of
among-plain = refl

among-direct : channel_answers (channel_start_of table 2 2 indexes).state among ≡ among-answers
unfolding ones ones_in fits_message fits_short slots_for ceiling patterns those six_ones word_of index_of place_of contains_ones reading_of readings first_number feedbacks short_singles collides
    together groups_within entries_within some_free calendar_within within_limits queued_row passes immediate_of places_after step_one_of turn_of fallen condition_within short_within long_within records_apart messages_within station_within landings outcome_by settled_in acts_of acts_beside step_of
    hears_itself requests requested sends moved heard_slot_number_of slot_number_of slot_of indexes_distinct records_within same_counters counters_shared urgent_sound long_sound
    resolution_sound asked_minislot wire_sound entries_on owners_sound sound_table channel_start_number_of channel_start_of channel_write_number_of channel_write_of heard_row channel_slot_number_of channel_slot_of
among-direct = refl

-- THE WORKED ROWS of short and long requests: the table and the wire, and the plain channel
pub worked-among : (channel_answers (channel_start_of table 2 2 indexes).state among ≡ among-answers) × (plain_answers start (plain_start start) among ≡ among-answers)
worked-among = (among-direct, among-plain)

-- ---- HOLDS: the same three stations, messages that are held, committed and withdrawn

abbrev hold : ℕ → ℕ → Call
hold x bytes = Write x (Hold bytes)

abbrev commit : ℕ → Which → Call
commit x o = Write x (Commit o)

abbrev withdraw : ℕ → Which → Call
withdraw x o = Write x (Withdraw o)

abbrev holds : List Call
holds =
    -- 22 of records that are free; station 1's short message is held, its long one offered; 22 of a record that is fresh; station 2's long message is held
    commit 7 ShortOne ∷ withdraw 7 LongOne ∷ hold 7 48 ∷ offer 7 100 ∷ commit 7 LongOne ∷ withdraw 7 LongOne ∷ hold 9 96
    -- an open slot of group 1: of station 1 the long message asks, for the short one is held, and station 2 is silent
    ∷ slot 1 1 1
    -- the held record is in use, for an offer and for a hold, and 10 comes before 9; in an open slot of group 2 nobody asks
    ∷ offer 7 1 ∷ hold 7 47 ∷ hold 7 0 ∷ slot 1 1 1
    -- station 1's long message is heard alone and served, past both that are held; station 2's short one asks meanwhile in group 2
    ∷ slot 1 1 1 ∷ offer 9 48 ∷ slot 1 1 1
    -- station 2's long message is withdrawn, and one of another length is held in its record; the last slot of station 1's is sent
    ∷ withdraw 9 LongOne ∷ hold 9 145 ∷ slot 1 1 1
    -- station 2's short one is heard alone, but the mark of group 2 is no: it is urgent, and is served past its station's held one
    ∷ slot 1 1 1
    -- both are committed, and ask side by side in an open slot of group 1, where the short one is sent
    ∷ commit 7 ShortOne ∷ commit 9 LongOne ∷ slot 1 2 1 ∷ slot 1 1 1
    -- heard again, the short one is delivered at once and the long one is queued and served: two slots in one call
    ∷ slot 1 1 1 ∷ slot 1 1 1
    -- no station of that index
    ∷ commit 8 ShortOne
    ∷ []

abbrev hold-answers : List Answer
hold-answers =
    Refused 22 ∷ Refused 22 ∷ OnHold 1 ∷ Taken 3 ∷ Refused 22 ∷ Refused 22 ∷ OnHold 2
    ∷ Went OpenTurn 0 0 0 0
    ∷ Refused 9 ∷ Refused 9 ∷ Refused 10 ∷ Went OpenTurn 0 0 0 0
    ∷ Went LongTurn 1 7 1 1 ∷ Taken 1 ∷ Went LongTurn 1 7 2 1
    ∷ Withdrawn 2 ∷ OnHold 4 ∷ Went LongTurn 1 7 3 1
    ∷ Went UrgentTurn 1 9 1 1
    ∷ Committed 1 ∷ Committed 4 ∷ Went OpenTurn 1 7 1 0 ∷ Went OpenTurn 0 0 0 0
    ∷ Went LongTurn 1 9 1 2 ∷ Went LongTurn 1 9 2 1
    ∷ Refused 16
    ∷ []

holds_plain : plain_answers start (plain_start start) holds ≡ hold-answers
unfolding fits_message slots_for ceiling record_of
holds_plain = refl

holds-direct : channel_answers (channel_start_of table 2 2 indexes).state holds ≡ hold-answers
unfolding ones ones_in fits_message fits_short slots_for ceiling patterns those six_ones word_of index_of place_of contains_ones reading_of readings first_number feedbacks short_singles collides
    together groups_within entries_within some_free calendar_within within_limits queued_row passes immediate_of places_after step_one_of turn_of fallen condition_within short_within long_within records_apart messages_within station_within landings outcome_by settled_in acts_of acts_beside step_of
    hears_itself requests requested sends moved heard_slot_number_of slot_number_of slot_of indexes_distinct records_within same_counters counters_shared urgent_sound long_sound
    resolution_sound asked_minislot wire_sound entries_on owners_sound sound_table channel_start_number_of channel_start_of channel_write_number_of channel_write_of heard_row channel_slot_number_of channel_slot_of
holds-direct = refl

-- THE WORKED HOLDS: the table and the wire, and the plain channel
pub worked-holds : (channel_answers (channel_start_of table 2 2 indexes).state holds ≡ hold-answers) × (plain_answers start (plain_start start) holds ≡ hold-answers)
worked-holds = (holds-direct, holds_plain)
