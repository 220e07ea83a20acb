-- `entries_on` tests the entries on the records that there are. Assumes nothing.
use mathlib.Core.Path.{◌≡◌, ap, ◌∙◌}
use mathlib.Core.List.{List}
use borrow.Author.Rules.{rules}
use lib.ListN.{length, take}
use Rattle.rules.specs.declared.Station.{Station}
use Rattle.channel_rules.specs.Soundness.{entries_on}
use Rattle.drawing.proofs.Filling.{all-taken}
use Rattle.sound_owners.proofs.Indexes.{entries_are}
use Rattle.sound_owners.proofs.entries_on.Goals as goal

pub returns : goal.returns
returns c =
    let a = c.args in
    let k = c.least-n in
    let full : length a.stations ≡ 64 = search rules in
    let w : length a.entries ≡ 24 = search rules in
    c.entries_among.ensures
    ∙ entries_are (take k.result a.stations) a.entries w
    ∙ ap (λ (x : List Station). entries_on x a.entries) (all-taken a.stations full a.count k.result k.ensures)
