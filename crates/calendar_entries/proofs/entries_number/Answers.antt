-- `entries_number` gives 20, 21 or 0 by the two tests, in this order. Assumes nothing.
use mathlib.Core.Path.{◌∙◌, sym}
use borrow.Author.Tests.{not-true, not-false}
use Rattle.rules.specs.Settings.{entries_number_of}
use Rattle.calendar_entries.proofs.entries_number.Goals as goal

pub returns-then-not-entries_within : goal.returns-then-not-entries_within
unfolding entries_number_of
returns-then-not-entries_within c = rw (sym c.entries_within.ensures ∙ not-true _ c.if-not-entries_within.true-raw)

pub returns-then-not-some_free : goal.returns-then-not-some_free
unfolding entries_number_of
returns-then-not-some_free c =
    rw (
      sym c.entries_within.ensures ∙ not-false _ c.if-not-entries_within.false-raw,
      sym c.some_free.ensures ∙ not-true _ c.if-not-some_free.true-raw,
    )

pub returns : goal.returns
unfolding entries_number_of
returns c =
    rw (
      sym c.entries_within.ensures ∙ not-false _ c.if-not-entries_within.false-raw,
      sym c.some_free.ensures ∙ not-false _ c.if-not-some_free.false-raw,
    )
