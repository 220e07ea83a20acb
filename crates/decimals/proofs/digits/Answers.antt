-- `digits` meets its contract: by the power of ten that the number reaches. Assumes nothing.
use mathlib.Core.Path.{sym}
use native.Mathlib.Omega.{arith}
use Rattle.decimals.proofs.Decimals.{digits-log}
use Rattle.decimals.proofs.digits.Goals as goal

pub returns-clause-count : goal.returns-clause-count
returns-clause-count c = sym (digits-log c.ilog10.result c.args.value (omega arith) (omega arith))
