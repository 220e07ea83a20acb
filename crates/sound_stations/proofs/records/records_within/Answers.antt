-- `records_within` tests the counters that are shared, then what is each record's own. Assumes nothing.
use mathlib.Core.Path.{sym, ap, ◌∙◌}
use Rattle.std.specs.List.{list_all}
use Rattle.rules.specs.declared.Counters.{Counters}
use Rattle.rules.specs.Limits.{within_limits}
use Rattle.sound_counters.proofs.FirstRecord.{first-of}
use Rattle.sound_stations.specs.Stations.{beside_within}
use Rattle.sound_stations.proofs.Sharing.{none_within, limits_fail, limits-hold}
use Rattle.sound_stations.proofs.records.records_within.Goals as goal

pub returns-then-within : goal.returns-then-within
returns-then-within c =
    let l = c.args.stations.now in
    let e = first-of l c.in-Some.first.now c.in-Some.ensures.value in
    c.besides_within.ensures
    ∙ ap (λ (k : Counters). list_all (beside_within k) l) (sym e)
    ∙ limits-hold l c.requires (ap within_limits e ∙ sym c.within.ensures ∙ c.if-within.true)

pub returns-else-within : goal.returns-else-within
returns-else-within c =
    let l = c.args.stations.now in
    let s = c.in-Some.first.now in
    c.if-within.false ∙ limits_fail l s c.in-Some.ensures.value (ap within_limits (first-of l s c.in-Some.ensures.value) ∙ sym c.within.ensures ∙ c.if-within.false)

pub returns-in-None : goal.returns-in-None
returns-in-None c = none_within c.args.stations.now c.in-None.ensures.value
