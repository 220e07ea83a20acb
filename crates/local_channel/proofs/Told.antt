-- A call that gives what its definition gives also answers the number and the values that the paper tells of the channel that is lent: both
-- halves of its contract at once, of the first. Assumes nothing.
use mathlib.Core.Path.{◌≡◌, ap, ◌∙◌}
use mathlib.Core.List.{List}
use Prim.Native.Nat.{ℕ}
use Rattle.rules.specs.Calls.{Call}
use Rattle.channel_rules.specs.ChannelCalls.{channel_call}
use Rattle.rules.specs.Numbers.{start_told, call_told}
use Rattle.channel_rules.specs.Answered.{channel_start_told_of, channel_told_of}
use Rattle.channel_rules.proofs.NumbersHold.{channel-start_told, channel-told}
use Rattle.local_channel.specs.declared.LocalChannel.{LocalChannel}
use Rattle.local_channel.specs.declared.LocalStarted.{LocalStarted}
use Rattle.local_channel.specs.declared.LocalCalled.{LocalCalled}
use Rattle.local_channel.specs.Local.{lent_by, local_start_of, local_called}

pub start-both : (c : LocalChannel) (m n : ℕ) (indexes : List ℕ) {r : LocalStarted} → r ≡ local_start_of c m n indexes
    → (r ≡ local_start_of c m n indexes) × (start_told r.answer ≡ channel_start_told_of (lent_by c) m n indexes)
unfolding local_start_of
start-both c m n indexes e = (e, ap (λ (x : LocalStarted). start_told x.answer) e ∙ channel-start_told (lent_by c) m n indexes)

pub call-both : (c : LocalChannel) (call : Call) {r : LocalCalled} → r ≡ local_called c (channel_call (lent_by c) call)
    → (r ≡ local_called c (channel_call (lent_by c) call)) × (call_told r.answer ≡ channel_told_of (lent_by c) call)
call-both c call e = (e, ap (λ (x : LocalCalled). call_told x.answer) e ∙ channel-told (lent_by c) call)
