-- `finish` meets its contract: the record's number says whether the first record came. Assumes nothing.
use mathlib.Core.Path.{refl}
use Rattle.rehearser.proofs.Ways.{as_advance, none_came, all_came}
use Rattle.rehearser.proofs.finish.Goals as goal

pub returns-then-r-le1 : goal.returns-then-r-le1
returns-then-r-le1 c =
    let a = c.args in
    let told = as_advance a.out.now a.at (none_came a.r a.start c.if-r-le1.true) (c.end_with.ensures.buffer, c.end_with.ensures.answer) in
    record { buffer = told.0; answer = told.1 }

pub returns : goal.returns
returns c =
    let a = c.args in
    let told = as_advance a.out.now a.at (all_came a.r a.start c.if-r-le1.false) (refl, refl) in
    record { buffer = told.0; answer = told.1 }
