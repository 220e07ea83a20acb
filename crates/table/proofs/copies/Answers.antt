-- `copies` is the least of the two and 64. Assumes nothing.
use borrow.Author.Rules.{rules}
use Rattle.table.specs.Loading.{copies_of}
use Rattle.table.proofs.copies.Goals as goal

pub returns : goal.returns
unfolding copies_of
returns c = search rules
