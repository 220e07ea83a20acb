-- `calendars_on` sets one record after the other. Assumes nothing.
use mathlib.Core.Path.{◌≡◌, refl, ap, ◌∙◌}
use mathlib.Core.List.{List}
use native.Mathlib.Omega.{arith}
use borrow.Author.Rules.{rules}
use lib.ListN.{length, set, length-set}
use Rattle.rules.specs.declared.Station.{Station}
use Rattle.rules.specs.Settings.{calendar_on}
use Rattle.table.specs.Loading.{absent}
use Rattle.settings.proofs.Mapped.{mapped_to, mapped_more, mapped_all}
use Rattle.settings.proofs.calendars_on.Goals as goal

pub loop-i-init : goal.loop-i-init
loop-i-init c = let full : length c.args.stations ≡ 64 = search rules in (omega arith, full, refl)

pub loop-i-preserved : goal.loop-i-preserved
loop-i-preserved c =
    let a = c.args in
    let l = c.loop-i in
    let full : length a.stations ≡ 64 = search rules in (
      omega arith,
      length-set l.after l.i c.calendar_on.result ∙ l.invariant.1,
      ap (λ (t : List Station). set t l.i c.calendar_on.result) l.invariant.2
          ∙ ap (λ (s : Station). set (mapped_to (calendar_on a.entries) l.i a.stations) l.i s) c.calendar_on.ensures
          ∙ mapped_more (calendar_on a.entries) l.i a.stations absent (omega arith),
    )

pub returns : goal.returns
returns c =
    let a = c.args in
    let l = c.loop-i in
    let full : length a.stations ≡ 64 = search rules in
    l.invariant.2 ∙ mapped_all (calendar_on a.entries) l.i a.stations (omega arith)
