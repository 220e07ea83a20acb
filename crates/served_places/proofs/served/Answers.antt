-- `served` meets its contract. The loop's invariant: the list has what the first `i` stations put. Assumes nothing.
use mathlib.Core.Path.{◌≡◌, sym, ap, ◌∙◌}
use mathlib.Core.List.{List, foldl}
use Prim.Native.Nat.{ℕ}
use native.Mathlib.Numerals.{add-one}
use native.Mathlib.Omega.{arith}
use borrow.Author.Rules.{rules}
use lib.ListN.{length, take, get_or, length-replicate}
use Rattle.listlaws.proofs.Fold.{fold_more}
use Rattle.drawing.proofs.Filling.{all-taken}
use Rattle.rules.specs.declared.Station.{Station}
use Rattle.table.specs.Loading.{absent}
use Rattle.coming_rules.specs.Coming.{nobody}
use Rattle.message_places.specs.PlacesHad.{nobody_served}
use Rattle.served_places.specs.Served.{put_station_of, served_of}
use Rattle.served_places.proofs.served.Goals as goal

pub loop-i-init : goal.loop-i-init
unfolding nobody_served
loop-i-init c =
    let r = c.nobody_served-served in
    (omega arith, rw r.ensures (length-replicate 1024 nobody), r.ensures)

pub loop-i-preserved : goal.loop-i-preserved
loop-i-preserved c =
    let p = c.put_station in
    let l = c.loop-i in
    let a = c.args in
    let full : length a.stations ≡ 64 = search rules in
    let kept : length p.new.served ≡ 1024 = p.auto.served ∙ l.invariant.1 in (
      omega arith,
      kept,
      p.ensures
          ∙ ap (λ (t : List ℕ). put_station_of a.w a.h t (get_or a.stations l.i absent)) l.invariant.2
          ∙ fold_more (put_station_of a.w a.h) nobody_served a.stations l.i absent (omega arith)
          ∙ ap (λ (k : ℕ). foldl (put_station_of a.w a.h) nobody_served (take k a.stations)) (sym (add-one l.i)),
    )

pub returns : goal.returns
unfolding served_of
returns c =
    let l = c.loop-i in
    let r = c.least-n in
    let a = c.args in
    let full : length a.stations ≡ 64 = search rules in
    let e : l.i ≡ r.result = omega arith in
    l.invariant.2
    ∙ ap (λ (t : List Station). foldl (put_station_of a.w a.h) nobody_served t) (all-taken a.stations full a.count l.i (e ∙ r.ensures))
