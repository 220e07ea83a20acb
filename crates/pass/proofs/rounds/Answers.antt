-- `rounds` is the least of the three. Assumes nothing.
use borrow.Author.Rules.{rules}
use Rattle.pass.specs.Rounds.{rounds_of}
use Rattle.pass.proofs.rounds.Goals as goal

pub returns : goal.returns
unfolding rounds_of
returns c = search rules
