-- `keep_rest` meets its contract: it moves what there is up to the place `to` or the end. Assumes nothing.
use mathlib.Core.Path.{◌∙◌}
use Rattle.buffers.proofs.Moves.{kept_whole}
use Rattle.buffers.proofs.keep_rest.Goals as goal

pub returns-clause-buffer : goal.returns-clause-buffer
returns-clause-buffer c =
    let a = c.args in
    let count = rw c.saturating_sub.ensures at c.count_first-count.ensures.count in
    c.copy_within.ensures.after ∙ kept_whole a.buffer.now a.from a.to _ _ c.count_first-start.ensures.count count
