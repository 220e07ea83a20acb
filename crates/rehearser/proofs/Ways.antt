-- What each way of the record that begins at a place comes to, as the definition has it. Assumes nothing.
use mathlib.Core.Bool.{Bool}
use mathlib.Core.Path.{◌≡◌, ap, sym, subst}
use mathlib.Core.List.{List}
use Prim.Native.Nat.{ℕ, ◌≤◌, ◌<◌}
use borrow.Author.Tests.{lt-ltb, le-ltb}
use Rattle.records.specs.Cutting.{cut_of}
use Rattle.records.specs.declared.Cut.{Cut}
use Rattle.programs.specs.declared.Progress.TheVariants.{Done}
use Rattle.programs.specs.Advancing.{Advance, stay_advance, refused_advance, done_advance, advance_by, advance_of}
use Rattle.programs.specs.Buffering.{Reached}
use Rattle.rehearsing.specs.declared.Rehearsal.{Rehearsal}
use Rattle.rehearsing.specs.Rehearse.{rehearse_program, written_by}

-- what was written for one advance was written for an equal one
pub as_advance : (buffer : List ℕ) (at : ℕ) {out : List ℕ} {n : Reached Rehearsal} {x y : Advance Rehearsal} → x ≡ y
    → (out ≡ (written_by x buffer at).buffer) × (n ≡ (written_by x buffer at).answer)
    → (out ≡ (written_by y buffer at).buffer) × (n ≡ (written_by y buffer at).answer)
as_advance buffer at {out} {n} e w =
    subst (λ (z : Advance Rehearsal). (out ≡ (written_by z buffer at).buffer) × (n ≡ (written_by z buffer at).answer)) e w

module _ (r : Rehearsal) (bytes : List ℕ) where
  -- the record that begins at a place goes by where it ends
  pub cut_advances : (start : ℕ) (ended : Bool) {c : Cut} → cut_of 512 bytes start ended ≡ c
      → advance_by rehearse_program r bytes start c ≡ advance_of rehearse_program r bytes start ended
  unfolding advance_of
  cut_advances start ended e = ap (λ (x : Cut). advance_by rehearse_program r bytes start x) (sym e)

-- the input ended: before the first record, and after it
module _ (r : Rehearsal) (start : ℕ) where
  pub none_came : r.place ≤ 1 → refused_advance rehearse_program r 19 start ≡ done_advance rehearse_program r start
  none_came h = rw (le-ltb 1 r.place h)

  pub all_came : 1 < r.place → stay_advance rehearse_program Done r start ≡ done_advance rehearse_program r start
  all_came h = rw (lt-ltb 1 r.place h)
