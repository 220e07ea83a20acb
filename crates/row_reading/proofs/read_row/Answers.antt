-- `read_row` gives the row's answer: each test that fails is one of the ways in which the row has not m minislots.
-- Assumes nothing.
use mathlib.Core.Path.{◌∙◌, sym}
use native.Mathlib.Omega.{arith}
use Rattle.rows.proofs.Row.{row-whole, row-short}
use Rattle.row_reading.proofs.read_row.Goals as goal

pub returns-then-n-lt2 : goal.returns-then-n-lt2
returns-then-n-lt2 c = c.refused.ensures ∙ sym (row-short _ _ _ (λ lo hi w k. omega arith))

pub returns-then-n-gt8 : goal.returns-then-n-gt8
returns-then-n-gt8 c = c.refused-then-n-gt8.ensures ∙ sym (row-short _ _ _ (λ lo hi w k. omega arith))

pub returns-then-words-n : goal.returns-then-words-n
returns-then-words-n c = c.refused-then-words-n.ensures ∙ sym (row-short _ _ _ (λ lo hi w k. omega arith))

pub returns-then-counts-n : goal.returns-then-counts-n
returns-then-counts-n c = c.refused-then-counts-n.ensures ∙ sym (row-short _ _ _ (λ lo hi w k. omega arith))

pub returns : goal.returns
returns c = c.read_minislots.ensures ∙ sym (row-whole _ _ _ (omega arith) (omega arith) (omega arith) (omega arith))
