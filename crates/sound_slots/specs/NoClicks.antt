-- A channel's wire has no clicks (paper 02, T-01): so on a channel a Collide is two stations or more, and the table rules stay as they
-- are. Assumes nothing.
use Rattle.std.specs.Prelude.{◌≡◌, List, ℕ, ◌-◌, ◌≤◌, get_or}
use Rattle.minislot.specs.Click.{Click}
use Rattle.requests.specs.Together.{silent}
use Rattle.rules.specs.declared.StartAnswer.TheVariants.{Ready}
use Rattle.rules.specs.declared.Station.{Station}
use Rattle.rules.specs.declared.WireRow.{WireRow}
use Rattle.rules.specs.Calls.{Call}
use Rattle.channel_rules.specs.SoundMeaning.{Sound}
use Rattle.channel_rules.specs.ChannelCalls.{Channel, blank_row, channel_start_of, channel_after}

-- no minislot of any group has a click
abbrev pub NoClicks : List WireRow → Type 0
NoClicks wire = (g j : ℕ) → 1 ≤ g → g ≤ 8 → 1 ≤ j → j ≤ 8
    → Click (get_or (get_or wire (g - 1) blank_row).minislots (j - 1) silent).word → ⊥

-- of every sound table
abbrev pub NoClicksHold : Type 0
NoClicksHold = (stations : List Station) (wire : List WireRow) → Sound stations wire → NoClicks wire

-- so after every list of calls from a start that goes through
abbrev pub NoClicksEver : Type 0
NoClicksEver = (before : Channel) (m n : ℕ) (indexes : List ℕ) → (channel_start_of before m n indexes).answer ≡ Ready → (calls : List Call)
    → NoClicks (channel_after (channel_start_of before m n indexes).state calls).wire
