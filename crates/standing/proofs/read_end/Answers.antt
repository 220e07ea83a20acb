-- `read_end` meets its contract. Assumes nothing.
use mathlib.Core.Path.{sym, ◌∙◌}
use Prim.Native.Nat.{◌+◌}
use lib.ListN.{length-take}
use Rattle.standing.specs.Standing.{most_read}
use Rattle.standing.proofs.read_end.Goals as goal

pub returns : goal.returns
returns c =
    let a = c.args in
    c.place_behind.ensures ∙ sym (length-take (a.kept + most_read) a.input.now)
