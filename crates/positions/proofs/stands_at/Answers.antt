-- `stands_at` is the place found, or the table's length. Assumes nothing.
use mathlib.Core.Path.{◌≡◌, sym, ap, ◌∙◌}
use Prim.Native.Nat.{ℕ}
use native.Mathlib.Omega.{arith}
use lib.ListN.{length}
use Rattle.std.specs.Prelude.{Option, unwrap_or}
use Rattle.channel_rules.specs.Soundness.{position_of}
use Rattle.positions.proofs.Steps.{position_or}
use Rattle.positions.proofs.stands_at.Goals as goal

pub returns-in-Some : goal.returns-in-Some
returns-in-Some c =
    let a = c.args in
    let l = a.stations.now in
    let e : c.in-Some.i ≡ position_of a.index l =
    ap (λ (o : Option ℕ). unwrap_or o (length l)) (sym c.in-Some.is ∙ c.first_of.ensures) ∙ position_or a.index l in
    omega (arith, e)

pub returns-in-None : goal.returns-in-None
returns-in-None c =
    let a = c.args in
    let l = a.stations.now in
    ap (λ (o : Option ℕ). unwrap_or o (length l)) (sym c.in-None.is ∙ c.first_of.ensures) ∙ position_or a.index l
