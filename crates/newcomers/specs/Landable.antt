-- What landing asks for, so that every new place fits its field: what is queued passes no limit, and a Single counts one slot or more.
-- Assumes nothing.
use Rattle.std.specs.Prelude.{◌≡◌, Bool, false, List, ℕ, ◌≤◌, eqb, get_or}
use Rattle.minislot.specs.declared.Feedback.{Feedback}
use Rattle.minislot.specs.declared.Feedback.TheVariants.{Empty}
use Rattle.rules.specs.declared.Places.{Places}
use Rattle.rules.specs.Hearing.{Counted}
use Rattle.rules.specs.Queueing.{queued_single, queued, queued_row, passes}

-- a Single of this count passes no limit, and counts one slot or more
abbrev pub SingleFits : Bool → Places → ℕ → Type 0
SingleFits b p c = (passes (queued_single b (eqb c 1) c p) ≡ false) × (1 ≤ c)

-- a minislot passes no limit
abbrev pub MinislotFits : Bool → Places → Feedback → Type 0
MinislotFits b p f = (passes (queued b p f) ≡ false) × Counted f

-- a row passes no limit
pub record RowFits (b : Bool) (p : Places) (row : List Feedback) : Type 0 where
  pub counted : (k : ℕ) → Counted (get_or row k Empty)
  pub passed : passes (queued_row b p row) ≡ false
