-- `with_set` meets its contract: a store past the end is none.
-- Assumes nothing.
use mathlib.Core.Path.{◌≡◌, sym}
use native.Mathlib.Omega.{arith}
use lib.ListN.{length}
use lib.Seq.{set_out}
use borrow.Author.Rules.{rules}
use Rattle.row_fields.proofs.with_set.Goals as goal

pub returns-else-place-lt8 : goal.returns-else-place-lt8
returns-else-place-lt8 g c =
    let n : length c.args.list ≡ 8 = search rules in sym (set_out _ _ _ (omega arith))
