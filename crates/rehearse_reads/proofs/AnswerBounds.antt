-- The numbers of an answer on a sound channel: a refusal's is one of the paper's, at most 22; a message offered, held, committed or withdrawn
-- has at most 255 slots; of a slot, the senders are no more than the stations, a lone one's index and segment are a station's, and the slots
-- delivered are no more than the minislots heard and the senders. So the line of an answer has at most 233 bytes.
-- Assumes nothing.
use mathlib.Core.Path.{◌≡◌, refl}
use mathlib.Core.Bool.{Bool, true, false, cond, ◌&&◌}
use mathlib.Core.List.{List, [], ◌∷◌, ◌++◌, map}
use Prim.Native.Nat.{ℕ, zero, suc, ◌+◌, ◌-◌, ◌<◌, ◌≤◌}
use native.Mathlib.Omega.{arith}
use lib.Dec.{eqb}
use lib.ListN.{length, get_or, take, length-map, length-take}
use borrow.Author.Tests.{eqb-true, ltb-true}
use Rattle.std.specs.List.{list_all}
use Rattle.listlaws.specs.Lists.{only_if}
use Rattle.message.specs.Message.{fits_message, slots_for}
use Rattle.message.proofs.Totals.{slots-bounds}
use Rattle.minislot.specs.declared.Minislot.{Minislot}
use Rattle.minislot.specs.declared.Feedback.{Feedback}
use Rattle.minislot.specs.declared.Feedback.TheVariants.{Empty, Single, Collide}
use Rattle.rows.specs.Row.{readings, feedbacks}
use Rattle.rules.specs.declared.Acted.{Acted}
use Rattle.rules.specs.declared.Answer.{Answer}
use Rattle.rules.specs.declared.Answer.TheVariants.{Refused, Taken, OnHold, Committed, Withdrawn, Set, Went}
use Rattle.rules.specs.declared.Counters.{Counters}
use Rattle.rules.specs.declared.Landed.{Landed}
use Rattle.rules.specs.declared.Outcome.{Outcome}
use Rattle.rules.specs.declared.Station.{Station}
use Rattle.rules.specs.declared.StationSlot.{StationSlot}
use Rattle.rules.specs.declared.Turn.{Turn}
use Rattle.rules.specs.declared.Turn.TheVariants.{Owned as OwnedTurn, Urgent as UrgentTurn, Long as LongTurn, Resolve as ResolveTurn, Open as OpenTurn}
use Rattle.rules.specs.declared.Condition.{Condition}
use Rattle.rules.specs.declared.Condition.TheVariants.{Free, Held, Fresh, Asked, Resolving, Urgent, Long}
use Rattle.rules.specs.declared.Which.{Which}
use Rattle.rules.specs.declared.Which.TheVariants.{ShortOne, LongOne}
use Rattle.rules.specs.declared.Writing.{Writing}
use Rattle.rules.specs.declared.Writing.TheVariants.{Offer, Hold, Commit, Withdraw}
use Rattle.rules.specs.Calls.{Call, Write, Slot, Calendar, writing_answer}
use Rattle.rules.specs.Calendars.{some_free}
use Rattle.rules.specs.Refusing.{by_number}
use Rattle.rules.specs.Limits.{between}
use Rattle.rules.specs.Hearing.{words_of, counts_of}
use Rattle.rules.specs.declared.Landing.{Landing}
use Rattle.rules.specs.declared.Landing.TheVariants.{Gone, ToUrgent, ToLong, ToResolution}
use Rattle.rules.specs.Landing.{at, stands}
use Rattle.rules.specs.Requesting.{requests, total_of}
use Rattle.rules.specs.Serving.{sends}
use Rattle.rules.specs.Outcome.{successes, outcome_by, outcome_of}
use Rattle.rules.specs.Stepping.{settled_in, is_fresh, stays, acts_of, acts_beside, sender, step_of}
use Rattle.rules.specs.StationLimits.{station_within}
use Rattle.rules.specs.StationCalls.{slot_number_of, slot_of, refused_slot}
use Rattle.rules.specs.Writing.{record_in, record_for, is_free, is_held}
use Rattle.rules.specs.Writing.{new_number_of, held_number_of, writing_number_at, writes, writing_number_of, writing_total_of}
use Rattle.rules.specs.Queueing.{step_one_of}
use Rattle.rules.proofs.LimitLaws.{Within, between-bounds, station_in}
use Rattle.rules.proofs.Refusals.{test_passed}
use Rattle.rules.proofs.Walking.{feedbacks-short}
use Rattle.channel_rules.specs.Soundness.{sound_table, table_counters, position_of, is_on_table, entries_on}
use Rattle.channel_rules.specs.SoundMeaning.{station_at}
use Rattle.channel_rules.specs.ChannelCalls.{Channel, ChannelResult, has_stations, refused, station_of, written_at, channel_write_number_of, channel_write_of, channel_call}
use Rattle.channel_rules.specs.ChannelCalls.{blank_row, heard_row, feedback_heard, slots_of, slots_heard, outcome_heard, slot_through, channel_slot_number_of, channel_slot_of}
use Rattle.channel_rules.specs.ChannelCalls.{calendar_set, channel_calendar_number_of, channel_calendar_of}
use Rattle.channel_rules.specs.ChannelCalls.{DataSent, speaks, data_in, data_sent, lone_index, lone_segment, delivered_now}
use Rattle.channel_rules.proofs.SoundMeans.{sound-says}
use Rattle.decimals.specs.Decimal.{digits_of}
use Rattle.decimals.specs.Printing.{record_of}
use Rattle.call_records.specs.Words.{offer_word, hold_word, commit_word, withdraw_word, slot_word, calendar_word}
use Rattle.rules.proofs.Refusals.{unless-by}
use Rattle.turn_letters.specs.Letters.{letter_of}
use Rattle.answer_lines.specs.AnswerLines.{refused_word, answer_line}
use Rattle.rehearse_reads.specs.Bounds.{SoundChannel}
use Rattle.rehearse_reads.proofs.LineBounds.{In64, AllIn64, line-within, number_short, numbers-short}
use Rattle.rehearse_reads.proofs.StationBounds.{Small, small-both, resolution-most}
use Rattle.rehearse_reads.proofs.ShowBounds.{counters-within}

-- ---- numbers of refusal

abbrev Low : ℕ → Type 0
Low n = n ≤ 22

new-low : (bytes : ℕ) (k : Condition) → new_number_of bytes k ≤ 22
new-low bytes k = unless-by Low (fits_message bytes) 10 _ (omega arith) (unless-by Low (is_free k) 9 0 (omega arith) (omega arith))

held_low : (k : Condition) → held_number_of k ≤ 22
held_low k = unless-by Low (is_held k) 22 0 (omega arith) (omega arith)

writing-low : (w : Writing) (k : Condition) → writing_number_at w k ≤ 22
writing-low (Offer bytes) k = new-low bytes k
writing-low (Hold bytes) k = new-low bytes k
writing-low (Commit o) k = held_low k
writing-low (Withdraw o) k = held_low k

write_low : (ch : Channel) (index : ℕ) (w : Writing) → channel_write_number_of ch index w ≤ 22
unfolding channel_write_number_of
write_low ch index w =
    unless-by Low (has_stations ch.stations) 14 _ (omega arith)
    (unless-by Low (sound_table ch.stations ch.wire) 18 _ (omega arith)
    (unless-by Low (is_on_table ch.stations index) 16 _ (omega arith) (writing-low w (record_in (writes w) (station_of ch index)))))

slot-low : (ch : Channel) (picks : List ℕ) → channel_slot_number_of ch picks ≤ 22
unfolding channel_slot_number_of
slot-low ch picks =
    unless-by Low (has_stations ch.stations) 14 _ (omega arith)
    (unless-by Low (sound_table ch.stations ch.wire) 18 _ (omega arith)
    (unless-by Low (eqb (length picks) (length ch.stations)) 17 _ (omega arith)
    (unless-by Low (list_all (λ (pick : ℕ). between 1 pick (table_counters ch.stations).minislots) picks) 11 _ (omega arith)
    (unless-by Low (step_one_of (table_counters ch.stations) (feedback_heard ch)).fits 7 0 (omega arith) (omega arith)))))

calendar-low : (ch : Channel) (entries : List ℕ) → channel_calendar_number_of ch entries ≤ 22
unfolding channel_calendar_number_of
calendar-low ch entries =
    unless-by Low (has_stations ch.stations) 14 _ (omega arith)
    (unless-by Low (sound_table ch.stations ch.wire) 18 _ (omega arith)
    (unless-by Low (entries_on ch.stations entries) 20 _ (omega arith) (unless-by Low (some_free entries) 21 0 (omega arith) (omega arith))))

-- ---- an answer's numbers

abbrev pub AnswerSmall : Answer → Type 0
AnswerSmall (Refused number) = number ≤ 22
AnswerSmall (Taken total) = total ≤ 255
AnswerSmall (OnHold total) = total ≤ 255
AnswerSmall (Committed total) = total ≤ 255
AnswerSmall (Withdrawn total) = total ≤ 255
AnswerSmall Set = Unit {0}
AnswerSmall (Went turn senders index segment delivered) = (senders ≤ 64) × (index ≤ 923) × (segment ≤ 255) × (delivered ≤ 72)

-- by the number of the call
by_both : (ch : Channel) (n : ℕ) (through : ChannelResult) → n ≤ 22 → (n ≡ 0 → AnswerSmall through.answer)
    → AnswerSmall (by_number n (refused ch) through).answer
by_both ch n through low t = go (eqb n 0) refl
  where
    go : (b : Bool) → eqb n 0 ≡ b → AnswerSmall (cond b through (refused ch n)).answer
    go true e = t (eqb-true n 0 e)
    go false e = low

-- ---- a calendar, which answers no number

calendar-small : (ch : Channel) (entries : List ℕ) → AnswerSmall (channel_calendar_of ch entries).answer
unfolding channel_calendar_of
calendar-small ch entries = by_both ch (channel_calendar_number_of ch entries) (calendar_set ch entries) (calendar-low ch entries) (λ z. tt)

-- ---- an offer, a hold, a commit and a withdrawal: the total is that of a length, or that of a message that is held

small-total : (x : Condition) → Small x → total_of x ≤ 255
small-total Free w = omega arith
small-total (Held t) w = w
small-total (Fresh t) w = w
small-total (Asked g j t) w = w.2
small-total (Resolving g i t) w = w.2
small-total (Urgent i) w = omega arith
small-total (Long f l t) w = w.2

record_small : (o : Which) (s : Station) → station_within s ≡ true → total_of (record_in o s) ≤ 255
record_small ShortOne s e = small-total s.short.condition (small-both s e).0
record_small LongOne s e = small-total s.long.condition (small-both s e).1

new-small : (bytes : ℕ) (k : Condition) → new_number_of bytes k ≡ 0 → slots_for bytes ≤ 255
new-small bytes k z = (slots-bounds bytes (test_passed (fits_message bytes) 10 _ refl z).0).1

written_small : (w : Writing) (s : Station) → station_within s ≡ true → writing_number_of s w ≡ 0 → AnswerSmall (writing_answer w (writing_total_of s w))
written_small (Offer bytes) s e z = new-small bytes (record_in (record_for bytes) s) z
written_small (Hold bytes) s e z = new-small bytes (record_in (record_for bytes) s) z
written_small (Commit o) s e z = record_small o s e
written_small (Withdraw o) s e z = record_small o s e

write-small : (ch : Channel) → SoundChannel ch → (index : ℕ) (w : Writing) → AnswerSmall (channel_write_of ch index w).answer
unfolding channel_write_of channel_write_number_of
write-small ch s index w =
    by_both ch (channel_write_number_of ch index w) (written_at ch (position_of index ch.stations) w) (write_low ch index w) (λ z.
    let p₁ = test_passed (has_stations ch.stations) 14 _ refl z in
    let p₂ = test_passed (sound_table ch.stations ch.wire) 18 _ refl p₁.1 in
    let p₃ = test_passed (is_on_table ch.stations index) 16 _ refl p₂.1 in
    let k = position_of index ch.stations in
    written_small w (station_of ch index) (s.sound.within k (ltb-true k (length ch.stations) p₃.0)) p₃.1)

-- ---- a slot: what one station sends

settled-few : (landed : List Landed) (g : ℕ) (x : Condition) → total_of x ≤ 255 → total_of (settled_in landed g x) ≤ 255
unfolding settled_in
settled-few landed g Free h = h
settled-few landed g (Held t) h = h
settled-few landed g (Fresh t) h = h
settled-few landed g (Asked y j t) h = go (eqb y g) (get_or landed (j - 1) (at Gone)).landing
  where
    go : (b : Bool) (x : Landing) → total_of (cond b (stands g x t) (Asked y j t)) ≤ 255
    go true Gone = omega arith
    go true (ToUrgent i) = omega arith
    go true (ToLong f) = h
    go true (ToResolution i) = h
    go false x = h
settled-few landed g (Resolving y i t) h = h
settled-few landed g (Urgent i) h = h
settled-few landed g (Long f l t) h = h

if_few : (b : Bool) (n : ℕ) → n ≤ 255 → cond b n 0 ≤ 255
if_few true n h = h
if_few false n h = omega arith

sends-few : (turn : Turn) (r g : ℕ) (x : Condition) → total_of x ≤ 255 → sends turn r g x ≤ 255
unfolding sends
sends-few (OwnedTurn x) r g k h = omega arith
sends-few UrgentTurn r g Free h = omega arith
sends-few UrgentTurn r g (Held t) h = omega arith
sends-few UrgentTurn r g (Fresh t) h = omega arith
sends-few UrgentTurn r g (Asked y j t) h = omega arith
sends-few UrgentTurn r g (Resolving y i t) h = omega arith
sends-few UrgentTurn r g (Urgent i) h = if_few (eqb i 1) 1 (omega arith)
sends-few UrgentTurn r g (Long f l t) h = omega arith
sends-few LongTurn r g Free h = omega arith
sends-few LongTurn r g (Held t) h = omega arith
sends-few LongTurn r g (Fresh t) h = omega arith
sends-few LongTurn r g (Asked y j t) h = omega arith
sends-few LongTurn r g (Resolving y i t) h = omega arith
sends-few LongTurn r g (Urgent i) h = omega arith
sends-few LongTurn r g (Long f l t) h = if_few (eqb f 1) (t - (l - 1)) (omega arith)
sends-few ResolveTurn r g x h = omega arith
sends-few OpenTurn r g x h = if_few (requests r g x && eqb (total_of x) 1) 1 (omega arith)

-- ---- what all of them send

-- data senders of which each has a station's index and a segment of a message
abbrev AllSent : List DataSent → Type 0
AllSent [] = Unit {0}
AllSent (x ∷ l) = (x.index ≤ 923) × (x.segment ≤ 255) × AllSent l

-- no more than n, and all of them such
abbrev Few : ℕ → List DataSent → Type 0
Few n l = (length l ≤ n) × AllSent l

more : (a b : List DataSent) (n : ℕ) → Few 1 a → Few n b → Few (suc n) (a ++ b)
more [] b n p q = (omega (arith, q.0), q.1)
more (x ∷ []) b n p q = (omega (arith, q.0), (p.1.0, p.1.1, q.1))
more (x ∷ y ∷ a) b n p q = absurd (omega (arith, p.0))

lone : (l : List DataSent) → AllSent l → (lone_index l ≤ 923) × (lone_segment l ≤ 255)
lone [] p = omega arith
lone (x ∷ []) p = (p.0, p.1)
lone (x ∷ y ∷ l) p = omega arith

-- the data of one station's slot
abbrev data_of : StationSlot → List DataSent
data_of r = data_in r r.answer

-- what a record does, what the long one does beside the short one, and what is sent of the two
module _ (o : Outcome) (pick : ℕ) where
  acts-few : (x : Condition) → Small x → (acts_of o x pick).segment ≤ 255
  unfolding acts_of
  acts-few x w =
      sends-few o.turn o.resolution o.group (settled_in o.landed o.group x) (settled-few o.landed o.group x (small-total x w))

  beside-few : (x y : Condition) → Small y → (acts_beside o x y pick).segment ≤ 255
  unfolding acts_beside
  beside-few x y w = go (is_fresh x && is_fresh y)
    where
      go : (b : Bool) → (cond b (stays y) (acts_of o y pick)).segment ≤ 255
      go true = omega arith
      go false = acts-few y w

sender-few : (x y : Acted) → x.segment ≤ 255 → y.segment ≤ 255 → (sender x y).segment ≤ 255
sender-few x y p q = go (eqb x.segment 0)
  where
    go : (b : Bool) → (cond b y x).segment ≤ 255
    go true = q
    go false = p

step-sends : (o : Outcome) (s : Station) (pick : ℕ) → station_within s ≡ true → Few 1 (data_of (step_of o s pick))
unfolding step_of
step-sends o s pick e =
    let p = small-both s e in
    let x = acts_of o s.short.condition pick in
    let y = acts_beside o s.short.condition s.long.condition pick in
    let segment = (sender x y).segment in
    only (speaks o.turn s.index segment) segment (station_in s e).index
    (sender-few x y (acts-few o pick s.short.condition p.0) (beside-few o pick s.short.condition s.long.condition p.1))
  where
    only : (b : Bool) (segment : ℕ) → s.index ≤ 923 → segment ≤ 255 → Few 1 (only_if b (record { index = s.index; segment = segment } ∷ []))
    only true segment l h = (omega arith, (l, h, tt))
    only false segment l h = (omega arith, tt)

module _ (words counts : List ℕ) where
  one-sends : (s : Station) (pick : ℕ) → station_within s ≡ true → Few 1 (data_of (slot_of s words counts pick))
  unfolding slot_of
  one-sends s pick e = go (eqb (slot_number_of s words counts pick) 0)
    where
      o : Outcome
      o = outcome_of s.counters (feedbacks (readings words counts))

      go : (b : Bool) → Few 1 (data_of (cond b (step_of o s pick) (refused_slot s (slot_number_of s words counts pick))))
      go true = step-sends o s pick e
      go false = (omega arith, tt)

  all_send : (l : List Station) (picks : List ℕ) → ((k : ℕ) → k < length l → station_within (station_at l k) ≡ true)
      → Few (length l) (data_sent (slots_of words counts l picks))
  all_send [] picks w = (omega arith, tt)
  all_send (s ∷ l) [] w = (omega arith, tt)
  all_send (s ∷ l) (pick ∷ picks) w =
      more (data_of (slot_of s words counts pick)) (data_sent (slots_of words counts l picks)) (length l) (one-sends s pick (w zero (omega arith)))
      (all_send l picks (λ k h. w (suc k) (omega arith)))

-- ---- what is delivered

successes-few : (b : Bool) (row : List Feedback) → successes b row ≤ length row
successes-few b [] = omega arith
successes-few b (Empty ∷ row) = omega (arith, successes-few b row)
successes-few b (Single i c ∷ row) = go (b && eqb c 1) (successes-few b row)
  where
    go : (x : Bool) → successes b row ≤ length row → cond x 1 0 + successes b row ≤ suc (length row)
    go true h = omega arith
    go false h = omega arith
successes-few b (Collide ∷ row) = omega (arith, successes-few b row)

now-few : (turn : Turn) (senders : ℕ) → delivered_now turn senders ≤ senders
now-few (OwnedTurn x) senders = omega arith
now-few UrgentTurn senders = omega arith
now-few LongTurn senders = omega arith
now-few ResolveTurn senders = omega arith
now-few OpenTurn senders = omega arith

heard-few : (ch : Channel) → (table_counters ch.stations).minislots ≤ 8 → length (feedback_heard ch) ≤ 8
unfolding heard_row
heard-few ch h =
    let m = (table_counters ch.stations).minislots in
    let row = (get_or ch.wire ((table_counters ch.stations).next - 1) blank_row).minislots in
    omega (arith, feedbacks-short (words_of (take m row)) (counts_of (take m row)), length-map (take m row) (λ (s : Minislot). s.word), length-take m row)

-- a channel that passes a call's first two tests
pub tested : (ch : Channel) → has_stations ch.stations ≡ true → sound_table ch.stations ch.wire ≡ true → SoundChannel ch
tested ch some sound =
    let n = between-bounds 1 (length ch.stations) 64 some in
    record { some = n.0; few = n.1; sound = sound-says ch.stations ch.wire sound }

-- of any channel: the slot of one that is not sound is refused
pub slot_small : (ch : Channel) (picks : List ℕ) → AnswerSmall (channel_slot_of ch picks).answer
unfolding channel_slot_of channel_slot_number_of outcome_by
slot_small ch picks =
    by_both ch (channel_slot_number_of ch picks) (slot_through ch (outcome_heard ch) (slots_heard ch picks)) (slot-low ch picks) (λ z.
    let p₁ = test_passed (has_stations ch.stations) 14 _ refl z in
    let p₂ = test_passed (sound_table ch.stations ch.wire) 18 _ refl p₁.1 in
    let s = tested ch p₁.0 p₂.0 in
    let sent = data_sent (slots_heard ch picks) in
    let p = all_send (words_of (heard_row ch)) (counts_of (heard_row ch)) ch.stations picks s.sound.within in
    let l = lone sent p.1 in
    let one = step_one_of (table_counters ch.stations) (feedback_heard ch) in (
      omega (arith, p.0, s.few),
      l.0,
      l.1,
      omega (
        arith,
        p.0,
        s.few,
        now-few (outcome_heard ch).turn (length sent),
        successes-few one.success (feedback_heard ch),
        heard-few ch (counters-within ch s).minislots.1,
      ),
    ))

pub call-small : (ch : Channel) → SoundChannel ch → (call : Call) → AnswerSmall (channel_call ch call).answer
call-small ch s (Write index w) = write-small ch s index w
call-small ch s (Slot picks) = slot_small ch picks
call-small ch s (Calendar entries) = calendar-small ch entries

-- ---- THE LINE

-- of one number
pub number-line : (k : ℕ) (word : List ℕ) (n : ℕ) → In64 k → length word ≤ 20 → In64 n → length (record_of (digits_of k ∷ word ∷ digits_of n ∷ [])) ≤ 233
number-line k word n hk short hn =
    let l = line-within (digits_of k ∷ word ∷ digits_of n ∷ []) (omega (arith, number_short k hk, short, number_short n hn)) in
    omega (arith, l)

pub answer-line : (k group : ℕ) (c : Counters) (a : Answer) → In64 k → In64 group → Within c → AnswerSmall a → length (answer_line k group c a) ≤ 233
unfolding answer_line
answer-line k group c (Refused number) hk hg w h = number-line k refused_word number hk (omega arith) (omega arith)
answer-line k group c (Taken total) hk hg w h = number-line k offer_word total hk (omega arith) (omega arith)
answer-line k group c (OnHold total) hk hg w h = number-line k hold_word total hk (omega arith) (omega arith)
answer-line k group c (Committed total) hk hg w h = number-line k commit_word total hk (omega arith) (omega arith)
answer-line k group c (Withdrawn total) hk hg w h = number-line k withdraw_word total hk (omega arith) (omega arith)
answer-line k group c Set hk hg w h =
    let l = line-within (digits_of k ∷ calendar_word ∷ []) (omega (arith, number_short k hk)) in omega (arith, l)
answer-line k group c (Went turn senders index segment delivered) hk hg w h =
    let rq = get_or c.resolution (group - 1) 0 in
    let numbers = senders ∷ index ∷ segment ∷ delivered ∷ c.urgent ∷ c.long ∷ rq ∷ [] in
    let in64 : AllIn64 numbers = omega (arith, h, w.urgent, w.long, resolution-most c w (group - 1)) in
    line-within (digits_of k ∷ slot_word ∷ digits_of group ∷ (letter_of turn ∷ []) ∷ map digits_of numbers)
    (number_short k hk, (omega arith, (number_short group hg, (omega arith, numbers-short numbers in64))))
