-- Numbers of refusal, in order of checking (paper 01, "Operations and their numbers, in order of checking"): a call's number is 0 where it
-- goes through, and what it leaves goes by that number alone. Assumes nothing.
use Rattle.std.specs.Prelude.{Bool, cond, ℕ, eqb}

-- a number of the list: where its test holds, what comes after it
abbrev pub unless : Bool → ℕ → ℕ → ℕ
unless test n after = cond test after n

-- a number found elsewhere: where it is 0, what comes after it
abbrev pub or_next : ℕ → ℕ → ℕ
or_next n after = cond (eqb n 0) after n

-- what a call leaves: what goes through with 0, a refusal with any other number
abbrev pub by_number {ℓ} : {A : Type ℓ} → ℕ → (ℕ → A) → A → A
by_number n refusal through = cond (eqb n 0) through (refusal n)
