-- `put` writes by the kind of line.
-- Assumes nothing.
use Rattle.follower.proofs.put.Goals as goal

pub returns-in-Nothing : goal.returns-in-Nothing
returns-in-Nothing c = record { buffer = rw c.in-Nothing.is; reached = rw c.in-Nothing.is }

pub returns-in-Refusal : goal.returns-in-Refusal
returns-in-Refusal c =
    record { buffer = rw c.in-Refusal.is c.put_refusal.ensures.buffer; reached = rw c.in-Refusal.is c.put_refusal.ensures.reached }

pub returns-in-Row : goal.returns-in-Row
returns-in-Row c = record { buffer = rw c.in-Row.is c.put_line.ensures.buffer; reached = rw c.in-Row.is c.put_line.ensures.reached }
