-- `carry` gives the word that `word_of` gives, and the total. Assumes nothing.
use Rattle.requests.proofs.carry.Goals as goal

pub returns : goal.returns
returns c = rw c.word_of.ensures
