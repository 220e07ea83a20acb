-- `position_of` looks at the records that there are. Assumes nothing.
use mathlib.Core.Path.{◌≡◌, ap, ◌∙◌}
use borrow.Author.Rules.{rules}
use lib.ListN.{length}
use Rattle.channel_rules.specs.Soundness.{position_of}
use Rattle.drawing.proofs.Filling.{all-taken}
use Rattle.positions.proofs.position_of.Goals as goal

pub returns : goal.returns
returns c =
    let a = c.args in
    let k = c.least in
    let full : length a.stations ≡ 64 = search rules in
    c.stands_at.ensures ∙ ap (position_of a.index) (all-taken a.stations full a.n k.result k.ensures)
