-- A hold that goes through, followed at once by its commit, answers what an offer there would, both times, and leaves the very records,
-- table and wire that it would; and a hold is refused exactly where an offer there is, with the same number (paper 02, T-06). Of every
-- station and every channel, whether or not a start leads to it. Assumes nothing.
use Rattle.std.specs.Prelude.{◌≡◌, ℕ}
use Rattle.rules.specs.declared.Station.{Station}
use Rattle.rules.specs.declared.WriteAnswer.TheVariants.{Total, Refused as RefusedWrite}
use Rattle.rules.specs.declared.Writing.{Writing}
use Rattle.rules.specs.declared.Writing.TheVariants.{Offer, Hold, Commit}
use Rattle.rules.specs.declared.Answer.TheVariants.{Refused, Taken, OnHold, Committed}
use Rattle.rules.specs.Numbers.{call_told}
use Rattle.rules.specs.Writing.{record_for, write_of}
use Rattle.channel_rules.specs.ChannelCalls.{Channel, channel_write_of}

-- the commit of a message of this many bytes: of the record that its length picks
abbrev pub commit_of : ℕ → Writing
commit_of bytes = Commit (record_for bytes)

-- ---- of a station

pub record StationHolds : Type 0 where
  -- a hold that goes through answers what an offer there would; its commit, made at once, answers that too and leaves the record that the
  -- offer would
  pub through : (s : Station) (bytes t : ℕ) → (write_of s (Hold bytes)).answer ≡ Total t
      → ((write_of s (Offer bytes)).answer ≡ Total t)
      × (write_of (write_of s (Hold bytes)).station (commit_of bytes) ≡ write_of s (Offer bytes))
  -- a hold is refused where an offer is, with its number, and nowhere else
  pub refused : (s : Station) (bytes n : ℕ)
      → ((write_of s (Hold bytes)).answer ≡ RefusedWrite n → (write_of s (Offer bytes)).answer ≡ RefusedWrite n)
      × ((write_of s (Offer bytes)).answer ≡ RefusedWrite n → (write_of s (Hold bytes)).answer ≡ RefusedWrite n)

-- ---- of a channel: its state is table and wire

pub record ChannelHolds : Type 0 where
  -- with the same total each: the hold, the offer in its place, and the commit at once after the hold, which leaves what the offer would
  pub through : (ch : Channel) (index bytes t : ℕ) → (channel_write_of ch index (Hold bytes)).answer ≡ OnHold t
      → ((channel_write_of ch index (Offer bytes)).answer ≡ Taken t)
      × ((channel_write_of (channel_write_of ch index (Hold bytes)).state index (commit_of bytes)).answer ≡ Committed t)
      × ((channel_write_of (channel_write_of ch index (Hold bytes)).state index (commit_of bytes)).state
      ≡ (channel_write_of ch index (Offer bytes)).state)
  -- as the paper's number and values, a hold's answer is an offer's, refused or not
  pub told : (ch : Channel) (index bytes : ℕ)
      → call_told (channel_write_of ch index (Hold bytes)).answer ≡ call_told (channel_write_of ch index (Offer bytes)).answer
  -- and so is that of its commit, made at once
  pub commit-told : (ch : Channel) (index bytes t : ℕ) → (channel_write_of ch index (Hold bytes)).answer ≡ OnHold t
      → call_told (channel_write_of (channel_write_of ch index (Hold bytes)).state index (commit_of bytes)).answer
      ≡ call_told (channel_write_of ch index (Offer bytes)).answer
  -- a hold is refused where an offer is, with its number, and nowhere else
  pub refused : (ch : Channel) (index bytes n : ℕ)
      → ((channel_write_of ch index (Hold bytes)).answer ≡ Refused n → (channel_write_of ch index (Offer bytes)).answer ≡ Refused n)
      × ((channel_write_of ch index (Offer bytes)).answer ≡ Refused n → (channel_write_of ch index (Hold bytes)).answer ≡ Refused n)

-- A HOLD, THEN ITS COMMIT
pub record HoldThenCommit : Type 0 where
  pub station : StationHolds
  pub channel : ChannelHolds
