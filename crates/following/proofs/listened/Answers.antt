-- `listened` goes by listening's answer.
-- Assumes nothing.
use Rattle.following.proofs.listened.Goals as goal

pub returns-in-Refused : goal.returns-in-Refused
returns-in-Refused c = rw c.in-Refused.is c.refused.ensures

pub returns-in-Went : goal.returns-in-Went
returns-in-Went c = rw (c.in-Went.is, c.place_following.ensures, c.past_first.ensures, c.letter.ensures, c.resolution_of.ensures)
