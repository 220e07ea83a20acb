-- `begin_with` meets its contract: nothing is printed of a start that goes through. Assumes nothing.
use Rattle.rehearse_starts.proofs.begin_with.Goals as goal

pub returns-in-Refused : goal.returns-in-Refused
returns-in-Refused c =
    record { buffer = rw c.in-Refused.is c.end_with.ensures.buffer; answer = rw c.in-Refused.is c.end_with.ensures.answer }

pub returns-in-Ready : goal.returns-in-Ready
returns-in-Ready c = record { buffer = rw c.in-Ready.is; answer = rw (c.in-Ready.is, c.place_following.ensures) }
