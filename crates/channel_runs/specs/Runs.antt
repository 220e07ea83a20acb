-- A run of the calls, in terms of their own contracts: each call gets the table and the wire that the one before left, and leaves and
-- answers what its contract says (paper 01, "Demand 3's list"). Assumes nothing.
use Rattle.std.specs.Prelude.{◌≡◌, List, [], ◌∷◌, ℕ}
use Rattle.rules.specs.Calls.{Call}
use Rattle.channel_rules.specs.ChannelCalls.{Channel, ChannelResult, ChannelStarted, channel_start_of, channel_call}
use Rattle.rules.specs.Numbers.{start_told, call_told}
use Rattle.channel_rules.specs.Answered.{channel_start_told_of, channel_told_of}

-- the contract of `start`, of the channel before and of what it leaves
abbrev pub StartMet : Channel → ℕ → ℕ → List ℕ → ChannelStarted → Type 0
StartMet ch m n indexes r = (r ≡ channel_start_of ch m n indexes) × (start_told r.answer ≡ channel_start_told_of ch m n indexes)

-- the contract of every other call
abbrev pub CallMet : Channel → Call → ChannelResult → Type 0
CallMet ch c r = (r ≡ channel_call ch c) × (call_told r.answer ≡ channel_told_of ch c)

-- a list of calls, and what each left
abbrev pub Ran : Channel → List Call → List ChannelResult → Type 0
Ran ch [] [] = Unit {0}
Ran ch [] (r ∷ rest) = ⊥
Ran ch (c ∷ l) [] = ⊥
Ran ch (c ∷ l) (r ∷ rest) = CallMet ch c r × Ran r.state l rest

-- the channel after it
abbrev pub finally : Channel → List ChannelResult → Channel
finally ch [] = ch
finally ch (r ∷ rest) = finally r.state rest
