-- `slot_at` gives what the stretch of the recording leads to; where there is none, 6, or 18 of a record outside its limits. Assumes nothing.
use mathlib.Core.Path.{◌≡◌, ◌∙◌, sym}
use Prim.Native.Nat.{◌+◌, ◌-◌}
use native.Mathlib.Omega.{arith}
use Rattle.rules.specs.Recorded.{slot_at_of}
use Rattle.rules.proofs.StationLaws.{slot_6, slot_18}
use Rattle.recorded_slot.proofs.Told.{slot_at-both}
use Rattle.recorded_slot.proofs.Stretches.{inside, short}
use borrow.Author.Rules.{rules}
use Rattle.recorded_slot.proofs.slot_at.Goals as goal

pub overflow_add-end : goal.overflow_add-end
overflow_add-end c =
    let a = c.args in
    let fits = inside a.s.counters.minislots a.start a.words.now a.counts.now (sym c.has_stretch.ensures ∙ c.if-has_stretch.true) in
    omega arith

pub offset_bounds-words-start : goal.offset_bounds-words-start
offset_bounds-words-start c =
    let a = c.args in
    let fits = inside a.s.counters.minislots a.start a.words.now a.counts.now (sym c.has_stretch.ensures ∙ c.if-has_stretch.true) in
    search rules

pub slice_bounds-slot-end : goal.slice_bounds-slot-end
slice_bounds-slot-end c =
    let a = c.args in
    let fits = inside a.s.counters.minislots a.start a.words.now a.counts.now (sym c.has_stretch.ensures ∙ c.if-has_stretch.true) in
    search rules

pub slice_bounds-slot-end-then-has_stretch : goal.slice_bounds-slot-end-then-has_stretch
slice_bounds-slot-end-then-has_stretch c =
    let a = c.args in
    let fits = inside a.s.counters.minislots a.start a.words.now a.counts.now (sym c.has_stretch.ensures ∙ c.if-has_stretch.true) in
    search rules

pub returns-then-has_stretch : goal.returns-then-has_stretch
unfolding slot_at_of
returns-then-has_stretch c =
    let a = c.args in
    let d : a.start + a.s.counters.minislots - a.start ≡ a.s.counters.minislots = omega arith in
    let both = slot_at-both _ _ _ _ _ (rw d at c.slot.ensures.left) in
    record { left = both.0; told = both.1 }

pub returns-then-within : goal.returns-then-within
unfolding slot_at_of
returns-then-within c =
    let a = c.args in
    let within = sym c.within.ensures ∙ c.if-within.true in
    let six = short a.s.counters.minislots a.start a.words.now a.counts.now (sym c.has_stretch.ensures ∙ c.if-has_stretch.false) in
    let both = slot_at-both _ _ _ _ _ (c.refused_slot.ensures ∙ slot_6 a.s _ _ a.pick within six) in
    record { left = both.0; told = both.1 }

pub returns : goal.returns
unfolding slot_at_of
returns c =
    let both = slot_at-both _ _ _ _ _ (c.refused_slot-2.ensures ∙ slot_18 _ _ _ _ (sym c.within.ensures ∙ c.if-within.false)) in
    record { left = both.0; told = both.1 }
