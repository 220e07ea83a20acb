-- `write_field` meets its contract: one run of stores, and one store after it.
-- Assumes nothing.
use mathlib.Core.List.{[], ◌∷◌}
use native.Mathlib.Omega.{arith}
use Rattle.decimals.specs.Decimal.{digits_of}
use Rattle.decimals.proofs.Stores.{sets-append}
use Rattle.decimals.proofs.write_field.Goals as goal

pub returns : goal.returns
returns c =
    let a = c.args in record {
      buffer = rw (c.write_number-to.ensures.buffer, c.write_number-to.ensures.reached, c.requires.0) (sets-append (digits_of a.value) (a.after ∷ []) _ a.at);
      reached = omega arith;
    }
