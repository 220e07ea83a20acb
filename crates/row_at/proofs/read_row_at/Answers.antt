-- `read_row_at` gives the answer of the row at a place of a recording: 6 where the recording ends too early, else the part's own answer.
-- Assumes nothing.
use mathlib.Core.Path.{◌∙◌, sym, refl}
use Prim.Native.Nat.{◌+◌}
use native.Mathlib.Omega.{arith}
use Rattle.row_at.proofs.Parts.{row_at, at-short-words, at-short-counts}
use Rattle.row_at.proofs.read_row_at.Goals as goal

pub returns-then-words-start : goal.returns-then-words-start
returns-then-words-start c = c.refused.ensures ∙ sym (at-short-words _ _ _ _ (λ lo. omega arith))

pub returns-then-counts-start : goal.returns-then-counts-start
returns-then-counts-start c = c.refused-then-counts-start.ensures ∙ sym (at-short-counts _ _ _ _ (λ lo. omega arith))

pub returns-then-words-start-2 : goal.returns-then-words-start-2
returns-then-words-start-2 c = c.refused-then-words-start-2.ensures ∙ sym (at-short-words _ _ _ _ (λ lo. omega arith))

pub returns-then-counts-start-2 : goal.returns-then-counts-start-2
returns-then-counts-start-2 c = c.refused-then-counts-start-2.ensures ∙ sym (at-short-counts _ _ _ _ (λ lo. omega arith))

pub returns : goal.returns
returns c =
    let a = c.args in
    c.read_row.ensures ∙ row_at a.m a.start a.words.now a.counts.now (a.start + a.m) refl
