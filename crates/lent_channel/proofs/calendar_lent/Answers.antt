-- `calendar_lent` lends no more than there is. Assumes nothing.
use mathlib.Core.Path.{◌≡◌}
use borrow.Author.Rules.{rules}
use lib.ListN.{length}
use Rattle.lent_channel.proofs.Counts.{first_of, rest_of}
use Rattle.lent_channel.proofs.calendar_lent.Goals as goal

pub returns : goal.returns
returns c =
    let a = c.args in
    let w : length a.stations ≡ 65 = search rules in
    rw (c.calendar_part.ensures, c.least.ensures, first_of a.stations w a.count, rest_of a.stations w a.count)
