-- Whether a writing goes through, and with which slot total (paper 01, "Operations and their numbers", 9 and 10; paper 02, T-04 and T-06):
-- the number and the total are rules', and a refusal has no total. Assumes nothing.
use Rattle.std.specs.Prelude.{ℕ}
use Rattle.rules.specs.declared.Station.{Station}
use Rattle.rules.specs.declared.Writing.{Writing}
use Rattle.rules.specs.Refusing.{by_number}
use Rattle.rules.specs.Writing.{writing_number_of, writing_total_of}
use Rattle.verdicts.specs.declared.Verdict.{Verdict}

abbrev pub refused_verdict : ℕ → Verdict
refused_verdict n = record { number = n; total = 0 }

-- the total with 0, none with a refusal
unfoldable pub verdict_by : ℕ → ℕ → Verdict
verdict_by n total = record { number = n; total = by_number n (λ m. 0) total }

unfoldable pub verdict_of : Station → Writing → Verdict
verdict_of s w = verdict_by (writing_number_of s w) (writing_total_of s w)
