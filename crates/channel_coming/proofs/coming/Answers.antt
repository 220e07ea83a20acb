-- `coming` asks a copy of the lent table, which answers as the table itself (ByValue), and its answer is told as the definition's is.
-- Assumes nothing.
use mathlib.Core.Path.{◌≡◌, ◌∙◌, ap}
use Rattle.calls.specs.ByValue.{channel_of}
use Rattle.coming_rules.specs.Coming.{ComingResult, coming_of, coming_told}
use Rattle.coming_rules.proofs.Told.{coming-told}
use Rattle.channel_coming.specs.Leaving.{leaves_coming}
use Rattle.channel_coming.proofs.ByValue.{coming-loaded}
use Rattle.channel_coming.proofs.coming.Goals as goal

pub returns : goal.returns
returns c =
    let a = c.args in
    let left : leaves_coming c.place_coming.new.list c.place_coming.result ≡ coming_of (channel_of a.table.now a.wire) a.list.now =
    rw (c.place_coming.ensures.0, c.place_coming.ensures.1, c.load-d.ensures) (coming-loaded a.table.now a.wire a.list.now) in
    (left, ap (λ (z : ComingResult). coming_told z.answer) left ∙ coming-told (channel_of a.table.now a.wire) a.list.now)
