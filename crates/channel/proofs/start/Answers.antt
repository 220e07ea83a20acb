-- `start` writes what `begin` comes to over the lent table: what is left is the channel's definition, by starts' law of a start, and the answer is
-- told as the definition's is. Assumes nothing.
use mathlib.Core.Path.{◌≡◌, ◌∙◌, ap}
use Rattle.rules.specs.Numbers.{start_told}
use Rattle.channel_rules.specs.ChannelCalls.{ChannelStarted, channel_start_of}
use Rattle.channel_rules.proofs.NumbersHold.{channel-start_told}
use Rattle.calls.specs.ByValue.{channel_of}
use Rattle.starts.proofs.Begins.{start_is}
use Rattle.channel.specs.Leaving.{leaves_started}
use Rattle.channel.proofs.start.Goals as goal

pub returns : goal.returns
returns c =
    let a = c.args in
    let left : leaves_started c.store.new.table c.begin-b.result.reply ≡ channel_start_of (channel_of a.table.now a.wire) a.m a.n a.indexes.now =
    rw (c.store.ensures, c.begin-b.ensures) (start_is a.table.now a.wire a.m a.n a.indexes.now) in
    (left, ap (λ (z : ChannelStarted). start_told z.answer) left ∙ channel-start_told (channel_of a.table.now a.wire) a.m a.n a.indexes.now)
