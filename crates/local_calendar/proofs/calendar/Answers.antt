-- `calendar` is `channel_calendar::calendar` on the lent part of the room. Assumes nothing.
use Rattle.rules.specs.Calls.{Calendar}
use Rattle.local_channel.specs.Local.{local_calendar_of}
use Rattle.local_channel.proofs.Told.{call-both}
use Rattle.local_calendar.proofs.calendar.Goals as goal

pub returns : goal.returns
unfolding local_calendar_of
returns c = let a = c.args in call-both a.c (Calendar a.entries) (rw c.calendar_lent-set.ensures)
