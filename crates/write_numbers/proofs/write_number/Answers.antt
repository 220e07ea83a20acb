-- `write_number` goes through its tests in order. Assumes nothing.
use mathlib.Core.Path.{◌≡◌, sym, ap, ◌∙◌}
use native.Mathlib.Omega.{arith}
use lib.ListN.{length}
use borrow.Author.Rules.{rules}
use Rattle.verdicts.specs.declared.Verdict.{Verdict}
use Rattle.verdicts.specs.Verdicts.{verdict_by, verdict_of}
use Rattle.calls.proofs.ByValue.{few_true}
use Rattle.write_numbers.proofs.Numbers.{array_14, array_18, array_16, array-takes}
use Rattle.write_numbers.proofs.write_number.Goals as goal

pub returns-then-not-has_stations : goal.returns-then-not-has_stations
returns-then-not-has_stations c =
    let a = c.args in
    let full : length a.stations ≡ 64 = search rules in
    array_14 a.stations a.n a.wire a.index a.w full (sym c.has_stations.ensures ∙ c.if-not-has_stations.true)

pub returns-then-not-sound : goal.returns-then-not-sound
returns-then-not-sound c =
    let a = c.args in
    let full : length a.stations ≡ 64 = search rules in
    array_18 a.stations a.n a.wire a.index a.w full (sym c.has_stations.ensures ∙ c.if-not-has_stations.false) (sym c.sound.ensures ∙ c.if-not-sound.true)

pub returns-then-n-k : goal.returns-then-n-k
returns-then-n-k c =
    let a = c.args in
    let full : length a.stations ≡ 64 = search rules in
    array_16 a.stations a.n a.wire a.index a.w full (sym c.has_stations.ensures ∙ c.if-not-has_stations.false) c.position_of-k.result c.position_of-k.ensures (sym c.sound.ensures ∙ c.if-not-sound.false) c.if-n-k.true

pub offset_bounds-stations-k : goal.offset_bounds-stations-k
offset_bounds-stations-k c = let q = few_true c.args.n (sym c.has_stations.ensures ∙ c.if-not-has_stations.false) in omega (arith, q, c.if-n-k.false)

pub bounds-stations-k : goal.bounds-stations-k
bounds-stations-k c = let q = few_true c.args.n (sym c.has_stations.ensures ∙ c.if-not-has_stations.false) in omega (arith, q, c.if-n-k.false)

pub returns : goal.returns
unfolding verdict_of verdict_by
returns c =
    let a = c.args in
    let full : length a.stations ≡ 64 = search rules in
    ap (λ (v : Verdict). v.number) c.judge.ensures
    ∙ array-takes a.stations a.n a.wire a.index a.w full (sym c.has_stations.ensures ∙ c.if-not-has_stations.false) c.position_of-k.result c.position_of-k.ensures (sym c.sound.ensures ∙ c.if-not-sound.false) (omega (arith, c.if-n-k.false))
