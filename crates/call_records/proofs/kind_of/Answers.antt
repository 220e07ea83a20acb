-- `kind_of` meets its contract: the words are tried in the definition's order, and those of a writing last. Assumes nothing.
use mathlib.Core.Path.{sym, ◌∙◌}
use Rattle.call_records.specs.Words.{kind_of}
use Rattle.call_records.proofs.kind_of.Goals as goal

pub returns-then-begins_with : goal.returns-then-begins_with
unfolding kind_of
returns-then-begins_with c = rw (sym c.begins_with.ensures ∙ c.if-begins_with.true)

pub returns-then-begins_with-2 : goal.returns-then-begins_with-2
unfolding kind_of
returns-then-begins_with-2 c =
    rw (
      sym c.begins_with.ensures ∙ c.if-begins_with.false,
      sym c.begins_with-2.ensures ∙ c.if-begins_with-2.true,
    )

pub returns-then-begins_with-3 : goal.returns-then-begins_with-3
unfolding kind_of
returns-then-begins_with-3 c =
    rw (
      sym c.begins_with.ensures ∙ c.if-begins_with.false,
      sym c.begins_with-2.ensures ∙ c.if-begins_with-2.false,
      sym c.begins_with-3.ensures ∙ c.if-begins_with-3.true,
    )

pub returns-then-is_word : goal.returns-then-is_word
unfolding kind_of
returns-then-is_word c =
    rw (
      sym c.begins_with.ensures ∙ c.if-begins_with.false,
      sym c.begins_with-2.ensures ∙ c.if-begins_with-2.false,
      sym c.begins_with-3.ensures ∙ c.if-begins_with-3.false,
      sym c.is_word.ensures ∙ c.if-is_word.true,
    )

pub returns-then-is_word-2 : goal.returns-then-is_word-2
unfolding kind_of
returns-then-is_word-2 c =
    rw (
      sym c.begins_with.ensures ∙ c.if-begins_with.false,
      sym c.begins_with-2.ensures ∙ c.if-begins_with-2.false,
      sym c.begins_with-3.ensures ∙ c.if-begins_with-3.false,
      sym c.is_word.ensures ∙ c.if-is_word.false,
      sym c.is_word-2.ensures ∙ c.if-is_word-2.true,
    )

pub returns : goal.returns
unfolding kind_of
returns c =
    c.writing_kind.ensures
    ∙ rw (
      sym c.begins_with.ensures ∙ c.if-begins_with.false,
      sym c.begins_with-2.ensures ∙ c.if-begins_with-2.false,
      sym c.begins_with-3.ensures ∙ c.if-begins_with-3.false,
      sym c.is_word.ensures ∙ c.if-is_word.false,
      sym c.is_word-2.ensures ∙ c.if-is_word-2.false,
    )
