-- `write` works on a copy of the lent table and writes it back: what is left is the channel's definition, by writes' law of a writing, and the
-- answer is told as the definition's is. Assumes nothing.
use mathlib.Core.Path.{◌≡◌, ◌∙◌, ap}
use Rattle.rules.specs.Calls.{Write}
use Rattle.rules.specs.Numbers.{call_told}
use Rattle.channel_rules.specs.ChannelCalls.{ChannelResult, channel_write_of}
use Rattle.channel_rules.proofs.NumbersHold.{channel-told}
use Rattle.calls.specs.ByValue.{channel_of}
use Rattle.writes.proofs.Writes.{write-is}
use Rattle.channel.specs.Leaving.{leaves}
use Rattle.channel_write.proofs.write.Goals as goal

pub returns : goal.returns
returns c =
    let a = c.args in
    let left : leaves c.store.new.table c.place_write-o.result.reply ≡ channel_write_of (channel_of a.table.now a.wire) a.index a.w =
    rw (c.store.ensures, c.place_write-o.ensures, c.load-d.ensures) (write-is a.table.now a.wire a.index a.w) in
    (left, ap (λ (z : ChannelResult). call_told z.answer) left ∙ channel-told (channel_of a.table.now a.wire) (Write a.index a.w))
