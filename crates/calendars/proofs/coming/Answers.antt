-- `coming` looks at the position's place of the 24. Assumes nothing.
use mathlib.Core.Path.{◌≡◌, sym}
use Prim.Native.Nat.{◌≤◌}
use native.Mathlib.Omega.{arith}
use lib.ListN.{length, get_or-eq_default}
use Rattle.listlaws.proofs.Beyond.{get_d_any}
use borrow.Author.Rules.{rules}
use Rattle.calendars.proofs.coming.Goals as goal

pub returns-then-p-lt-POSITIONS : goal.returns-then-p-lt-POSITIONS
returns-then-p-lt-POSITIONS c =
    let a = c.args in
    let w : length a.c.calendar ≡ 24 = search rules in
    get_d_any a.c.calendar a.c.position 0 65535 (omega arith)

pub returns-else-p-lt-POSITIONS : goal.returns-else-p-lt-POSITIONS
returns-else-p-lt-POSITIONS c =
    let a = c.args in
    let w : length a.c.calendar ≡ 24 = search rules in
    let h : length a.c.calendar ≤ a.c.position = omega arith in
    sym (get_or-eq_default a.c.calendar 65535 h)
