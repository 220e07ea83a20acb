-- A start that went through, the calls of demand 3's list, and their answers (paper 01, "Demand 3's list"; paper 02,
-- T-02 and T-06). Assumes nothing.
use Rattle.std.specs.Prelude.{List, ℕ, get_or}
use Rattle.rules.specs.declared.Writing.{Writing}
use Rattle.rules.specs.declared.Writing.TheVariants.{Offer, Hold, Commit, Withdraw}
pub use Rattle.rules.specs.declared.Answer.{Answer}
pub use Rattle.rules.specs.declared.Answer.TheVariants.{Refused, Taken, OnHold, Committed, Withdrawn, Set, Went}

-- the start's m, n and indexes: station k has the k-th index, counted from 0
pub record Start : Type 0 where
  pub m : ℕ
  pub n : ℕ
  pub indexes : List ℕ

abbrev pub index : Start → ℕ → ℕ
index S k = get_or S.indexes k 0

-- an offer, a hold, a commit or a withdrawal: the index and what is written; a slot: the picks; setting a calendar: its entries
pub data Call : Type 0 where
  Write : ℕ → Writing → Call
  Slot : List ℕ → Call
  Calendar : List ℕ → Call

-- the answer to a writing that goes through, by its slot total
abbrev pub writing_answer : Writing → ℕ → Answer
writing_answer (Offer bytes) t = Taken t
writing_answer (Hold bytes) t = OnHold t
writing_answer (Commit o) t = Committed t
writing_answer (Withdraw o) t = Withdrawn t
