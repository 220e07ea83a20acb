-- A call that gives what its definition gives also answers the number and the values that the paper tells: both halves of its contract at once, of the
-- first. Assumes nothing.
use mathlib.Core.Path.{◌≡◌, ap, ◌∙◌}
use Rattle.rules.specs.declared.Station.{Station}
use Rattle.rules.specs.declared.StationWritten.{StationWritten}
use Rattle.rules.specs.declared.Writing.{Writing}
use Rattle.rules.specs.Writing.{write_of}
use Rattle.rules.specs.Numbers.{write_told}
use Rattle.rules.specs.Answered.{write_told_of}
use Rattle.rules.proofs.NumbersHold.{write-told}

pub write-both : (s : Station) (w : Writing) {r : StationWritten} → r ≡ write_of s w → (r ≡ write_of s w) × (write_told r.answer ≡ write_told_of s w)
write-both s w e = (e, ap (λ (x : StationWritten). write_told x.answer) e ∙ write-told s w)
