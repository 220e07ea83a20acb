-- The definition of each call on a channel answers the number of its own list and the values that specs/Answered tells with it: what goes by the number goes by it alone.
-- Assumes nothing.
use mathlib.Core.Path.{◌≡◌}
use mathlib.Core.List.{List}
use Prim.Native.Nat.{ℕ}
use lib.ListN.{length}
use Rattle.rules.specs.Calls.{Call, Write, Slot, Calendar}
use Rattle.rules.specs.declared.Writing.TheVariants.{Offer, Hold, Commit, Withdraw}
use Rattle.rules.specs.Numbers.{start_told, call_told}
use Rattle.channel_rules.specs.ChannelCalls.{Channel, ChannelResult, ChannelStarted, refused_beginning, channel_start_number_of, channel_start_of, refused, channel_write_number_of, channel_write_of, channel_slot_number_of, channel_slot_of, channel_calendar_number_of, channel_calendar_of, channel_call}
use Rattle.channel_rules.specs.Answered.{channel_start_told_of, channel_write_told_of, channel_slot_told_of, channel_calendar_told_of, channel_told_of}
use Rattle.rules.proofs.Refusals.{by-ap}

pub channel-start_told : (ch : Channel) (m n : ℕ) (indexes : List ℕ) → start_told (channel_start_of ch m n indexes).answer ≡ channel_start_told_of ch m n indexes
unfolding channel_start_of channel_start_told_of
channel-start_told ch m n indexes =
    by-ap (λ (r : ChannelStarted). start_told r.answer) (channel_start_number_of (length ch.stations) m n indexes) (refused_beginning ch) _

pub channel-told : (ch : Channel) (c : Call) → call_told (channel_call ch c).answer ≡ channel_told_of ch c
unfolding channel_write_of channel_write_told_of channel_slot_of channel_slot_told_of channel_calendar_of channel_calendar_told_of
channel-told ch (Write index (Offer bytes)) = by-ap (λ (r : ChannelResult). call_told r.answer) (channel_write_number_of ch index (Offer bytes)) (refused ch) _
channel-told ch (Write index (Hold bytes)) = by-ap (λ (r : ChannelResult). call_told r.answer) (channel_write_number_of ch index (Hold bytes)) (refused ch) _
channel-told ch (Write index (Commit o)) = by-ap (λ (r : ChannelResult). call_told r.answer) (channel_write_number_of ch index (Commit o)) (refused ch) _
channel-told ch (Write index (Withdraw o)) = by-ap (λ (r : ChannelResult). call_told r.answer) (channel_write_number_of ch index (Withdraw o)) (refused ch) _
channel-told ch (Slot picks) = by-ap (λ (r : ChannelResult). call_told r.answer) (channel_slot_number_of ch picks) (refused ch) _
channel-told ch (Calendar entries) = by-ap (λ (r : ChannelResult). call_told r.answer) (channel_calendar_number_of ch entries) (refused ch) _
