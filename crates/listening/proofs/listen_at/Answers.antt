-- `listen_at` gives 18, a row's number, or what the row heard leads to; and so it answers the paper's number and turn. Assumes nothing.
use mathlib.Core.Path.{◌∙◌, sym}
use lib.ListN.{take, drop}
use Rattle.rows.specs.Row.{row_at_of}
use Rattle.rules.specs.Recorded.{listening_at_of}
use Rattle.rules.proofs.ListeningLaws.{listening_18, listening-bad, listening-heard}
use Rattle.listening.proofs.Tells.{listens-at}
use Rattle.listening.proofs.listen_at.Goals as goal

pub returns-then-row-ne0 : goal.returns-then-row-ne0
unfolding row_at_of listening_at_of
returns-then-row-ne0 c =
    let all_told = let a = c.args in
    let words = take a.c.minislots (drop a.start a.words.now) in
    let counts = take a.c.minislots (drop a.start a.counts.now) in
    let e = c.read_row_at-row.ensures in
    let w = sym c.within.ensures ∙ c.if-within.true in
    listens-at a.c a.words.now a.counts.now _ a.start
    (c.refused.ensures ∙ rw e (listening-bad a.c words counts w (λ z. c.if-row-ne0.true (rw e z)))) in
    record { value = all_told.0; told = all_told.1 }

pub listen_row-requires : goal.listen_row-requires
unfolding row_at_of listening_at_of
listen_row-requires c = sym c.within.ensures ∙ c.if-within.true

pub returns-then-within : goal.returns-then-within
unfolding row_at_of listening_at_of
returns-then-within c =
    let all_told = let a = c.args in
    let words = take a.c.minislots (drop a.start a.words.now) in
    let counts = take a.c.minislots (drop a.start a.counts.now) in
    let e = c.read_row_at-row.ensures in
    let w = sym c.within.ensures ∙ c.if-within.true in
    listens-at a.c a.words.now a.counts.now _ a.start
    (c.listen_row.ensures ∙ rw e (listening-heard a.c words counts w (rw e at c.if-row-ne0.false))) in
    record { value = all_told.0; told = all_told.1 }

pub returns : goal.returns
unfolding row_at_of listening_at_of
returns c =
    let all_told = let a = c.args in
    let words = take a.c.minislots (drop a.start a.words.now) in
    let counts = take a.c.minislots (drop a.start a.counts.now) in
    listens-at a.c a.words.now a.counts.now _ a.start
    (c.refused-2.ensures ∙ listening_18 a.c words counts (sym c.within.ensures ∙ c.if-within.false)) in
    record { value = all_told.0; told = all_told.1 }
