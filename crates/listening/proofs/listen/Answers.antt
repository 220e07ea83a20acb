-- `listen` gives 18, a row's number, or what the row heard leads to; and so it answers the paper's number and turn. Assumes nothing.
use mathlib.Core.Path.{◌∙◌, sym}
use Rattle.rules.proofs.ListeningLaws.{listening_18, listening-bad, listening-heard}
use Rattle.listening.proofs.Tells.{listens}
use Rattle.listening.proofs.listen.Goals as goal

pub returns-then-row-ne0 : goal.returns-then-row-ne0
returns-then-row-ne0 c =
    let a = c.args in
    let words = a.words.now in
    let counts = a.counts.now in
    let e = c.read_row-row.ensures in
    let w = sym c.within.ensures ∙ c.if-within.true in
    listens a.c words counts _
    (c.refused.ensures ∙ rw e (listening-bad a.c words counts w (λ z. c.if-row-ne0.true (rw e z))))

pub listen_row-requires : goal.listen_row-requires
listen_row-requires c = sym c.within.ensures ∙ c.if-within.true

pub returns-then-within : goal.returns-then-within
returns-then-within c =
    let a = c.args in
    let words = a.words.now in
    let counts = a.counts.now in
    let e = c.read_row-row.ensures in
    let w = sym c.within.ensures ∙ c.if-within.true in
    listens a.c words counts _
    (c.listen_row.ensures ∙ rw e (listening-heard a.c words counts w (rw e at c.if-row-ne0.false)))

pub returns : goal.returns
returns c =
    let a = c.args in
    let words = a.words.now in
    let counts = a.counts.now in
    listens a.c words counts _
    (c.refused-2.ensures ∙ listening_18 a.c words counts (sym c.within.ensures ∙ c.if-within.false))
