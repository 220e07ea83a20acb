-- `place` joins the request to its minislot; 0 is none, and a number past the eighth has none. Assumes nothing.
use mathlib.Core.Path.{◌≡◌, ap, ◌∙◌}
use Prim.Native.Nat.{◌-◌}
use native.Mathlib.Omega.{arith}
use borrow.Author.Rules.{rules}
use lib.ListN.{length, set}
use Rattle.minislot.specs.declared.Minislot.{Minislot}
use Rattle.requests.proofs.Placing.{placed-none, placed_past, placed_at}
use Rattle.requests.proofs.place.Goals as goal

pub returns-then-minislot-lt1 : goal.returns-then-minislot-lt1
returns-then-minislot-lt1 c = placed-none c.args.minislot c.args.x c.args.row c.if-minislot-lt1.true

pub returns-then-minislot-gt8 : goal.returns-then-minislot-gt8
returns-then-minislot-gt8 c =
    let a = c.args in
    let w : length a.row ≡ 8 = search rules in
    placed_past a.minislot a.x a.row (omega arith)

pub returns : goal.returns
returns c =
    let a = c.args in
    ap (λ (m : Minislot). set a.row (a.minislot - 1) m) c.join.ensures ∙ placed_at a.minislot a.x a.row (omega arith)
