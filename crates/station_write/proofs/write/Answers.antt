-- `write` gives 18, or the number of its verdict, or the slot total and the station with its record written. Assumes nothing.
use mathlib.Core.Path.{◌∙◌, sym}
use native.Mathlib.Omega.{arith}
use Rattle.station_write.proofs.Told.{write-both}
use Rattle.station_write.proofs.Writes.{write_18, write-refused, write-through}
use Rattle.station_write.proofs.write.Goals as goal

pub returns-then-not-within : goal.returns-then-not-within
returns-then-not-within c =
    let both = write-both _ _ (c.refused_write.ensures ∙ write_18 _ _ (sym c.within.ensures ∙ c.if-not-within.true)) in
    record { left = both.0; told = both.1 }

pub returns-then-verdict-ne0 : goal.returns-then-verdict-ne0
returns-then-verdict-ne0 c =
    let s = c.args.s in
    let within = sym c.within.ensures ∙ c.if-not-within.false in
    let both = write-both _ _ (c.refused_write-then-verdict-ne0.ensures ∙ write-refused s _ _ c.judge-verdict.ensures within c.if-verdict-ne0.true) in
    record { left = both.0; told = both.1 }

pub returns : goal.returns
returns c =
    let s = c.args.s in
    let within = sym c.within.ensures ∙ c.if-not-within.false in
    let both = write-both _ _ (rw c.rewrite.ensures (write-through s _ _ c.judge-verdict.ensures within (omega (arith, c.if-verdict-ne0.false)))) in
    record { left = both.0; told = both.1 }
