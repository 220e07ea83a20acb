-- `calendar` works on a copy of the lent table and writes it back: what is left is the channel's definition, by settings' law of a calendar, and
-- the answer is told as the definition's is. Assumes nothing.
use mathlib.Core.Path.{◌≡◌, ◌∙◌, ap}
use Rattle.rules.specs.Calls.{Calendar}
use Rattle.rules.specs.Numbers.{call_told}
use Rattle.channel_rules.specs.ChannelCalls.{ChannelResult, channel_calendar_of}
use Rattle.channel_rules.proofs.NumbersHold.{channel-told}
use Rattle.calls.specs.ByValue.{channel_of}
use Rattle.settings.proofs.Settings.{setting_is}
use Rattle.channel.specs.Leaving.{leaves}
use Rattle.channel_calendar.proofs.calendar.Goals as goal

pub returns : goal.returns
returns c =
    let a = c.args in
    let left : leaves c.store.new.table c.place_calendar-o.result.reply ≡ channel_calendar_of (channel_of a.table.now a.wire) a.entries =
    rw (c.store.ensures, c.place_calendar-o.ensures, c.load-d.ensures) (setting_is a.table.now a.wire a.entries) in
    (left, ap (λ (z : ChannelResult). call_told z.answer) left ∙ channel-told (channel_of a.table.now a.wire) (Calendar a.entries))
