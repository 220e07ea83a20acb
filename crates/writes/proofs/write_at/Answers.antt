-- `write_at` writes the station with its record written. Assumes nothing.
use mathlib.Core.Path.{◌≡◌, ap, ◌∙◌}
use lib.ListN.{get_or}
use Rattle.rules.specs.Writing.{writing_total_of}
use Rattle.verdicts.specs.declared.Verdict.{Verdict}
use Rattle.verdicts.specs.Verdicts.{verdict_by, verdict_of}
use Rattle.table.specs.Loading.{absent, with_of}
use Rattle.writes.proofs.write_at.Goals as goal

pub returns : goal.returns
unfolding verdict_of verdict_by with_of
returns c =
    let a = c.args in
    let total : c.judge-total.result.total ≡ writing_total_of (get_or a.stations a.k absent) a.w =
    ap (λ (v : Verdict). v.total) c.judge-total.ensures ∙ rw c.requires.1 in
    rw (c.hold.ensures, c.rewrite.ensures, c.answer_to.ensures, total)
