-- `resolution_sound` tests the queue of one group after the other: each one before g passed, and one that fails fails the clause.
-- Assumes nothing.
use mathlib.Core.Path.{◌≡◌, sym, ap, ◌∙◌}
use mathlib.Core.Bool.{Bool}
use mathlib.Core.List.{List}
use Prim.Native.Nat.{ℕ, suc}
use native.Mathlib.Numerals.{add-one}
use native.Mathlib.Omega.{arith}
use borrow.Author.Rules.{rules}
use borrow.Author.Count.{below_more}
use lib.ListN.{length, get_or}
use Rattle.listlaws.specs.Every.{every_from}
use Rattle.std.specs.List.{flat_map}
use Rattle.listlaws.proofs.Table.{every_fails, every_holds}
use Rattle.crowds.specs.Crowds.{crowded}
use Rattle.rules.specs.declared.TableMessage.{TableMessage}
use Rattle.channel_rules.specs.Soundness.{resolving_places}
use Rattle.sound_resolution.specs.declared.GroupPlace.{GroupPlace}
use Rattle.sound_resolution.specs.Resolution.{group_places_of, place_in, queues_sound}
use Rattle.drawing.proofs.Agreeing.{every-same}
use Rattle.sound_resolution.proofs.Projections.{group-places}
use Rattle.sound_resolution.proofs.resolution_sound.Goals as goal
use Rattle.sound_resolution.proofs.resolution_sound.Invariants.{at}

-- the places drawn out of the messages, group by group, are those of the clause
queues_drawn : (m : List TableMessage) (found : List GroupPlace) → found ≡ group_places_of m → (queues : List ℕ) → every_from (at found) 0 queues ≡ queues_sound m queues
queues_drawn m found e queues =
    every-same (at found) (λ (i q : ℕ). crowded (resolving_places (suc i) m) q) 0 queues
    (λ i q h. ap (λ (p : List ℕ). crowded p q) (ap (flat_map (place_in (suc i))) e ∙ group-places (suc i) m))

pub returns-then-not-group_sound : goal.returns-then-not-group_sound
returns-then-not-group_sound c =
    let l = c.loop-g in
    let a = c.args in
    let r = c.resolving_places-found in
    let v : length a.queues.now ≡ 8 = search rules in
    let s = at r.result.items in
    let e : c.group_sound.result ≡ s l.g (get_or a.queues.now l.g 0) = rw add-one at c.group_sound.ensures in
    sym (every_fails s 0 a.queues.now l.g (omega arith) (sym e ∙ c.if-not-group_sound.true)) ∙ queues_drawn a.messages.now.items r.result.items r.ensures a.queues.now

pub loop-g-preserved : goal.loop-g-preserved
loop-g-preserved c =
    let l = c.loop-g in
    let e : c.group_sound.result ≡ at c.resolving_places-found.result.items l.g (get_or c.args.queues.now l.g 0) = rw add-one at c.group_sound.ensures in
    below_more _ _ l.invariant (sym e ∙ c.if-not-group_sound.false)

pub returns : goal.returns
returns c =
    let l = c.loop-g in
    let a = c.args in
    let r = c.resolving_places-found in
    let v : length a.queues.now ≡ 8 = search rules in
    sym (every_holds (at r.result.items) 0 a.queues.now (λ k h. l.invariant k (omega arith))) ∙ queues_drawn a.messages.now.items r.result.items r.ensures a.queues.now
