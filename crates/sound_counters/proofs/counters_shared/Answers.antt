-- `counters_shared` compares every record's counters with the first's; no record has nothing to compare. Assumes nothing.
use mathlib.Core.Path.{sym, ap, ◌∙◌}
use Rattle.std.specs.List.{list_all}
use Rattle.rules.specs.declared.Counters.{Counters}
use Rattle.rules.specs.declared.Station.{Station}
use Rattle.channel_rules.specs.Soundness.{same_counters, counters_shared}
use Rattle.sound_counters.proofs.FirstRecord.{first-of, none_shared}
use Rattle.sound_counters.proofs.counters_shared.Goals as goal

pub returns-in-Some : goal.returns-in-Some
unfolding counters_shared
returns-in-Some c =
    let l = c.args.stations.now in
    c.all_have.ensures
    ∙ ap (λ (k : Counters). list_all (λ (s : Station). same_counters k s.counters) l) (sym (first-of l c.in-Some.first.now c.in-Some.ensures.value))

pub returns-in-None : goal.returns-in-None
returns-in-None c = none_shared c.args.stations.now c.in-None.ensures.value
