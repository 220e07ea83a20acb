-- `counters_of` reads the first record's counters. Assumes nothing.
use borrow.Author.Rules.{rules}
use mathlib.Core.Path.{◌≡◌, ap}
use native.Mathlib.Omega.{arith}
use lib.ListN.{length}
use Rattle.listlaws.proofs.Beyond.{get_d_any}
use Rattle.rules.specs.declared.Station.{Station}
use Rattle.rules.specs.StationCalls.{no_station}
use Rattle.table.specs.Loading.{absent}
use Rattle.rehearsing.proofs.counters_of.Goals as goal

pub returns : goal.returns
returns c =
    let a = c.args in
    let full : length a.stations ≡ 65 = search rules in
    ap (λ (s : Station). s.counters) (get_d_any a.stations 0 absent no_station (omega arith))
