-- `start` gives the record at the start, or 5; and so it answers the paper's number. Assumes nothing.
use mathlib.Core.Path.{◌∙◌, sym}
use Rattle.rules.specs.Starting.{start_of, start_number_of}
use Rattle.listener.proofs.Tells.{starts}
use Rattle.listener.proofs.start.Goals as goal

pub returns-then-in_ranges : goal.returns-then-in_ranges
unfolding start_of start_number_of
returns-then-in_ranges c =
    let all_told = starts _ _ _ (rw (sym c.in_ranges.ensures ∙ c.if-in_ranges.true, c.start.ensures)) in
    record { value = all_told.0; told = all_told.1 }

pub returns : goal.returns
unfolding start_of start_number_of
returns c =
    let all_told = starts _ _ _ (rw (sym c.in_ranges.ensures ∙ c.if-in_ranges.false) c.refused_start.ensures) in
    record { value = all_told.0; told = all_told.1 }
