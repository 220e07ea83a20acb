-- `writing_kind` meets its contract: the words are tried in the definition's order. Assumes nothing.
use mathlib.Core.Path.{sym, ◌∙◌}
use Rattle.call_records.specs.Words.{writing_kind_of}
use Rattle.call_records.proofs.writing_kind.Goals as goal

pub returns-then-begins_with : goal.returns-then-begins_with
unfolding writing_kind_of
returns-then-begins_with c = rw (sym c.begins_with.ensures ∙ c.if-begins_with.true)

pub returns-then-begins_with-2 : goal.returns-then-begins_with-2
unfolding writing_kind_of
returns-then-begins_with-2 c =
    rw (
      sym c.begins_with.ensures ∙ c.if-begins_with.false,
      sym c.begins_with-2.ensures ∙ c.if-begins_with-2.true,
    )

pub returns-then-begins_with-3 : goal.returns-then-begins_with-3
unfolding writing_kind_of
returns-then-begins_with-3 c =
    rw (
      sym c.begins_with.ensures ∙ c.if-begins_with.false,
      sym c.begins_with-2.ensures ∙ c.if-begins_with-2.false,
      sym c.begins_with-3.ensures ∙ c.if-begins_with-3.true,
    )

pub returns-then-begins_with-4 : goal.returns-then-begins_with-4
unfolding writing_kind_of
returns-then-begins_with-4 c =
    rw (
      sym c.begins_with.ensures ∙ c.if-begins_with.false,
      sym c.begins_with-2.ensures ∙ c.if-begins_with-2.false,
      sym c.begins_with-3.ensures ∙ c.if-begins_with-3.false,
      sym c.begins_with-4.ensures ∙ c.if-begins_with-4.true,
    )

pub returns : goal.returns
unfolding writing_kind_of
returns c =
    rw (
      sym c.begins_with.ensures ∙ c.if-begins_with.false,
      sym c.begins_with-2.ensures ∙ c.if-begins_with-2.false,
      sym c.begins_with-3.ensures ∙ c.if-begins_with-3.false,
      sym c.begins_with-4.ensures ∙ c.if-begins_with-4.false,
    )
