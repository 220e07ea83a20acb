-- `coming` is `channel_coming::coming` on the lent part of the room, and lends no more than there is. Assumes nothing.
use mathlib.Core.Path.{◌≡◌, ◌∙◌}
use borrow.Author.Rules.{rules}
use lib.ListN.{length}
use Rattle.local_coming.proofs.Lending.{lends_the_first, coming-both}
use Rattle.local_coming.proofs.coming.Goals as goal

pub returns : goal.returns
returns c =
    let a = c.args in
    let full : length a.c.stations ≡ 65 = search rules in
    coming-both a.c a.list.now (c.coming_part.ensures ∙ lends_the_first a.c a.list.now full c.least.result c.least.ensures)
