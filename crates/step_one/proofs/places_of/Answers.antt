-- `places_of` gives the lengths that the next group's slot works on; each is the value of a 16-bit field. Assumes nothing.
use native.Mathlib.Omega.{arith}
use mir.Syntax.{w16}
use mir.Val.{Fits}
use borrow.Author.Rules.{rules}
use Rattle.step_one.proofs.places_of.Goals as goal

pub returns-clause-fits : goal.returns-clause-fits
returns-clause-fits c =
    let k = c.args.c in
    let h : Fits w16 c.resolution_of.result = search rules in
    let u : Fits w16 k.urgent = search rules in
    let n : Fits w16 k.long = search rules in
    record { urgent = omega arith; long = omega arith; resolution = omega arith }
