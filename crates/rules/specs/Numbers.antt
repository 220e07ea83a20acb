-- The paper's number and values of each answer, by its cases (paper 01, "Operations and their numbers"). Which of them a call answers:
-- specs/Answered, and for a channel that of crate `channel_rules`. Assumes nothing.
use Rattle.std.specs.Prelude.{List, [], ◌∷◌, ℕ}
use Rattle.rules.specs.declared.StartAnswer.{StartAnswer}
use Rattle.rules.specs.declared.StartAnswer.TheVariants.{Ready, Refused as RefusedStart}
use Rattle.rules.specs.declared.ListenAnswer.{ListenAnswer}
use Rattle.rules.specs.declared.ListenAnswer.TheVariants.{Went as WentListening, Refused as RefusedListening}
use Rattle.rules.specs.declared.WriteAnswer.{WriteAnswer}
use Rattle.rules.specs.declared.WriteAnswer.TheVariants.{Total, Refused as RefusedWrite}
use Rattle.rules.specs.declared.SlotAnswer.{SlotAnswer}
use Rattle.rules.specs.declared.SlotAnswer.TheVariants.{Went as WentSlot, Refused as RefusedSlot}
use Rattle.rules.specs.declared.CalendarAnswer.{CalendarAnswer}
use Rattle.rules.specs.declared.CalendarAnswer.TheVariants.{Set as CalendarIsSet, Refused as RefusedCalendar}
use Rattle.rules.specs.Calls.{Answer, Refused, Taken, OnHold, Committed, Withdrawn, Set, Went}
use Rattle.rules.specs.Turns.{Turn}

-- an answer as the paper gives it: the number of the refusal, 0 where the call went through; then the turn, if it answers one, and its
-- other values in the paper's order
pub record Told : Type 0 where
  pub number : ℕ
  pub turn : List Turn
  pub values : List ℕ

-- a refusal: its number and nothing else
abbrev pub refusal : ℕ → Told
refusal n = record { number = n; turn = []; values = [] }

-- a call that went through: 0, the turn and the values
abbrev pub went : List Turn → List ℕ → Told
went turn values = record { number = 0; turn = turn; values = values }

-- starting a listener, a station or a channel: no values
abbrev pub start_told : StartAnswer → Told
start_told Ready = went [] []
start_told (RefusedStart n) = refusal n

-- listening: the turn
abbrev pub listen_told : ListenAnswer → Told
listen_told (WentListening turn) = went (turn ∷ []) []
listen_told (RefusedListening n) = refusal n

-- an offer, a hold, a commit or a withdrawal on a station: the slot total
abbrev pub write_told : WriteAnswer → Told
write_told (Total total) = went [] (total ∷ [])
write_told (RefusedWrite n) = refusal n

-- a station's slot: the turn, then the minislot of its request and the segment it sends, each 0 for none
abbrev pub slot_told : SlotAnswer → Told
slot_told (WentSlot turn minislot segment) = went (turn ∷ []) (minislot ∷ segment ∷ [])
slot_told (RefusedSlot n) = refusal n

-- setting the calendar of a listener or a station: no values
abbrev pub calendar_told : CalendarAnswer → Told
calendar_told CalendarIsSet = went [] []
calendar_told (RefusedCalendar n) = refusal n

-- an offer, a hold, a commit or a withdrawal on a channel: the slot total; setting its calendar: no values; a channel's slot: the turn,
-- then the number of data senders, the index and segment of a lone sender, and the slots delivered
abbrev pub call_told : Answer → Told
call_told (Refused n) = refusal n
call_told (Taken total) = went [] (total ∷ [])
call_told (OnHold total) = went [] (total ∷ [])
call_told (Committed total) = went [] (total ∷ [])
call_told (Withdrawn total) = went [] (total ∷ [])
call_told Set = went [] []
call_told (Went turn senders index segment delivered) = went (turn ∷ []) (senders ∷ index ∷ segment ∷ delivered ∷ [])
