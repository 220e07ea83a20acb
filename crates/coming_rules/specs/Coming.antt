-- Who sends in the coming slots (paper 02, T-07): the quieted channel is run by the channel's own definition of a slot, and the list
-- has the lone sender of each slot. With it comes the number of slots until H and N are 0 in that run. The picks don't matter, so that
-- any will do, and the run always gets there: ComingHolds. Assumes nothing.
use Rattle.std.specs.Prelude.{Bool, cond, List, [], ◌∷◌, map, ℕ, zero, suc, ◌+◌, ◌*◌, eqb, length, replicate}
use Rattle.rules.specs.declared.Answer.{Answer}
use Rattle.rules.specs.declared.Answer.TheVariants.{Refused, Taken, OnHold, Committed, Withdrawn, Set, Went}
use Rattle.rules.specs.Calls.{Call, Slot}
use Rattle.rules.specs.Limits.{between}
use Rattle.rules.specs.Numbers.{Told, refusal, went}
use Rattle.rules.specs.Refusing.{unless, by_number}
use Rattle.channel_rules.specs.Soundness.{sound_table, table_counters}
use Rattle.channel_rules.specs.ChannelCalls.{Channel, has_stations, channel_after, channel_answers}
use Rattle.coming_rules.specs.declared.ComingAnswer.{ComingAnswer}
use Rattle.coming_rules.specs.declared.ComingAnswer.TheVariants.{Until, Refused as RefusedComing}
use Rattle.coming_rules.specs.Quiet.{quieted}

-- ---- the run

-- n slots on a channel's stations, with the pick 1 for each of them
abbrev pub slots_on : Channel → ℕ → List Call
slots_on ch n = replicate n (Slot (replicate (length ch.stations) 1))

-- the quieted channel after n slots
unfoldable pub quiet_after : Channel → ℕ → Channel
quiet_after ch n = channel_after (quieted ch) (slots_on ch n)

-- ---- who sends

-- stands for nobody
abbrev pub nobody : ℕ
nobody = 65535

-- the index of the lone sender of data in a slot, its owner in an owned one; nobody where there isn't just one
abbrev pub sender_in : Answer → ℕ
sender_in (Refused n) = nobody
sender_in (Taken t) = nobody
sender_in (OnHold t) = nobody
sender_in (Committed t) = nobody
sender_in (Withdrawn t) = nobody
sender_in Set = nobody
sender_in (Went turn senders index segment delivered) = cond (eqb senders 1) index nobody

-- in each of the next w slots
unfoldable pub coming_senders : Channel → ℕ → List ℕ
coming_senders ch w = map sender_in (channel_answers (quieted ch) (slots_on ch w))

-- ---- how long both transmission queues last

-- the places of H and N together
abbrev pub places_in : Channel → ℕ
places_in ch = (table_counters ch.stations).urgent + (table_counters ch.stations).long

-- the first number from k on that passes a test, of so many tried; the next one if none does
abbrev pub first_from : (ℕ → Bool) → ℕ → ℕ → ℕ
first_from test zero k = k
first_from test (suc tries) k = cond (test k) k (first_from test tries (suc k))

-- the first k such that after k slots H and N are 0. Some position is free, so that in 24 slots a place is served: as many tries are
-- enough
unfoldable pub coming_until : Channel → ℕ
coming_until ch = first_from (λ k. eqb (places_in (quiet_after ch k)) 0) (24 * places_in ch) 0

-- ---- THE CALL: 14, 18, 23. A refusal leaves the list as it was; table and wire are only read

pub record ComingResult : Type 0 where
  pub list : List ℕ
  pub answer : ComingAnswer

-- a list of w entries
unfoldable pub coming_number_of : Channel → ℕ → ℕ
coming_number_of ch w =
    unless (has_stations ch.stations) 14
    (unless (sound_table ch.stations ch.wire) 18
    (unless (between 1 w 1024) 23
    0))

abbrev pub refused_coming : List ℕ → ℕ → ComingResult
refused_coming list n = record { list = list; answer = RefusedComing n }

unfoldable pub coming_of : Channel → List ℕ → ComingResult
coming_of ch list =
    by_number (coming_number_of ch (length list)) (refused_coming list)
    (record { list = coming_senders ch (length list); answer = Until (coming_until ch) })

-- ---- the paper's number and values of the answer: the slots until both queues are empty

abbrev pub coming_told : ComingAnswer → Told
coming_told (Until n) = went [] (n ∷ [])
coming_told (RefusedComing n) = refusal n

unfoldable pub coming_told_of : Channel → ℕ → Told
coming_told_of ch w = by_number (coming_number_of ch w) refusal (went [] (coming_until ch ∷ []))
