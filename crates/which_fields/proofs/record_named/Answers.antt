-- `record_named` meets its contract: the names are tried in the definition's order. Assumes nothing.
use mathlib.Core.Path.{sym, ◌∙◌}
use Rattle.which_fields.specs.WhichFields.{named}
use Rattle.which_fields.proofs.record_named.Goals as goal

pub returns-then-is_word : goal.returns-then-is_word
unfolding named
returns-then-is_word c = rw (sym c.is_word.ensures ∙ c.if-is_word.true)

pub returns-then-is_word-2 : goal.returns-then-is_word-2
unfolding named
returns-then-is_word-2 c =
    rw (
      sym c.is_word.ensures ∙ c.if-is_word.false,
      sym c.is_word-2.ensures ∙ c.if-is_word-2.true,
    )

pub returns : goal.returns
unfolding named
returns c =
    rw (
      sym c.is_word.ensures ∙ c.if-is_word.false,
      sym c.is_word-2.ensures ∙ c.if-is_word-2.false,
    )
