-- `new_table` makes one record after the other, over blank ones. Assumes nothing.
use mathlib.Core.Path.{◌≡◌, ◌∙◌, sym, ap}
use native.Mathlib.Omega.{arith}
use lib.ListN.{length, length-map}
use Rattle.rules.specs.declared.Station.{Station}
use Rattle.rules.specs.StationCalls.{start_station}
use Rattle.channel_rules.specs.ChannelCalls.{new_stations}
use Rattle.table.specs.declared.Loaded.{Loaded}
use Rattle.table.specs.Loading.{with_of}
use Rattle.table.proofs.Loading.{read_to, read_to-none, read_to-more, read_to-whole}
use Rattle.starts.proofs.Begins.{new-at}
use Rattle.starts.proofs.new_table.Goals as goal

pub loop-i-init : goal.loop-i-init
loop-i-init c =
    let a = c.args in
    (omega arith, rw c.blanks-stations.ensures (read_to-none (length a.indexes.now) (new_stations a.m a.n a.indexes.now)))

pub offset_bounds-stations-i : goal.offset_bounds-stations-i
offset_bounds-stations-i c = let q = c.requires in
    omega arith

pub bounds-stations-i : goal.bounds-stations-i
bounds-stations-i c = let q = c.requires in
    omega arith

pub loop-i-preserved : goal.loop-i-preserved
unfolding with_of
loop-i-preserved c = let a = c.args in
    let q = c.requires in
    let l = c.loop-i in
    let ys = new_stations a.m a.n a.indexes.now in
    let same : length ys ≡ length a.indexes.now = length-map a.indexes.now (start_station a.m a.n) in (
      omega arith,
      ap (λ (d : Loaded). with_of d l.i c.start_station.result) l.invariant.1
          ∙ ap (λ (s : Station). with_of (read_to (length a.indexes.now) ys l.i) l.i s) (c.start_station.ensures ∙ sym (new-at a.m a.n a.indexes.now l.i (omega arith)))
          ∙ read_to-more (length a.indexes.now) ys l.i (omega arith) (omega arith),
    )

pub returns : goal.returns
returns c = let a = c.args in
    let q = c.requires in
    let l = c.loop-i in
    let ys = new_stations a.m a.n a.indexes.now in
    let same : length ys ≡ length a.indexes.now = length-map a.indexes.now (start_station a.m a.n) in
    let z : l.i ≡ length a.indexes.now = omega arith in
    c.hold.ensures ∙ l.invariant.1 ∙ rw z (read_to-whole ys (length a.indexes.now) (sym same) q)
