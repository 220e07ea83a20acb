-- `after_read` meets its contract. Assumes nothing.
use mathlib.Core.Path.{sym, ◌∙◌}
use Prim.Native.Nat.{◌+◌}
use lib.ListN.{length-take}
use Rattle.standing.proofs.after_read.Goals as goal

pub returns : goal.returns
returns c =
    let a = c.args in
    rw (c.place_behind.ensures ∙ sym (length-take (a.s.filled + a.more) a.input.now))
