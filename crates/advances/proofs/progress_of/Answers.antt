-- `progress_of` goes by the kind of line.
-- Assumes nothing.
use Rattle.advances.proofs.progress_of.Goals as goal

pub returns-in-Refusal : goal.returns-in-Refusal
returns-in-Refusal c = rw c.in-Refusal.is
