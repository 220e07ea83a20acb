-- `read` gives the reading of a word and a count: each return by the law of its kind of word; and so it answers the paper's number. Assumes nothing.
use mathlib.Core.Path.{◌∙◌, sym}
use native.Mathlib.Omega.{arith}
use Rattle.minislot.proofs.Readings.{reads_1, reads-empty, reads-click, reads-single, reads_collide, reading-told}
use Rattle.minislot.proofs.read.Goals as goal

pub returns-then-word-gt4095 : goal.returns-then-word-gt4095
returns-then-word-gt4095 c = reading-told _ _ _ (sym (reads_1 _ _ (omega arith)))

pub returns-then-ones-eq0 : goal.returns-then-ones-eq0
returns-then-ones-eq0 c = reading-told _ _ _ (c.empty.ensures ∙ sym (reads-empty _ _ (omega arith) c.if-ones-eq0.true))

pub returns-then-ones-lt6 : goal.returns-then-ones-lt6
returns-then-ones-lt6 c = reading-told _ _ _ (sym (reads-click _ _ (omega arith) (omega arith) (omega arith)))

pub returns-then-ones-eq6 : goal.returns-then-ones-eq6
returns-then-ones-eq6 c = reading-told _ _ _ (c.single.ensures ∙ sym (reads-single _ _ (omega arith) (omega arith)))

pub returns : goal.returns
returns c = reading-told _ _ _ (sym (reads_collide _ _ (omega arith) (omega arith)))
