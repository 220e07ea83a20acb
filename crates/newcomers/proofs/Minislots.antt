-- The landings of a row, one minislot more; and what a row that passes no limit says of each of its minislots. Assumes nothing.
use mathlib.Core.Path.{◌≡◌, refl, ap, subst}
use mathlib.Core.Bool.{Bool, false}
use mathlib.Core.List.{List, [], ◌∷◌}
use Prim.Native.Nat.{ℕ, zero, suc, ◌<◌}
use native.Mathlib.Omega.{arith}
use lib.ListN.{length, get_or, set, take, replicate}
use Rattle.minislot.specs.declared.Feedback.{Feedback}
use Rattle.minislot.specs.declared.Feedback.TheVariants.{Empty}
use Rattle.minislot.specs.declared.MinislotFeedback.{MinislotFeedback}
use Rattle.rules.specs.declared.Landed.{Landed}
use Rattle.rules.specs.declared.Places.{Places}
use Rattle.rules.specs.Hearing.{Counted}
use Rattle.rules.specs.Queueing.{queued, queued_row, passes}
use Rattle.rules.specs.declared.Landing.TheVariants.{Gone}
use Rattle.rules.specs.Landing.{lands_after, at, landings}
use Rattle.rules.proofs.LimitLaws.{none_passes}
use Rattle.rules.proofs.QueueingLaws.{queued-grows}
use Rattle.rules.proofs.StationLaws.{passes-before}
use Rattle.queueing.specs.Bounds.{Within}
use Rattle.queueing.proofs.Rows.{blank, first, first-length, feedback-at}
use Rattle.newcomers.specs.Landable.{MinislotFits, RowFits}

-- ---- the landings

pub landing_none : (b : Bool) (p : Places) → replicate 8 (at Gone) ≡ landings b p [] 8
unfolding landings
landing_none b p = refl

pub landing_more : (b : Bool) (p : Places) (row : List Feedback) (n j : ℕ) → j < length row → j < n
    → set (landings b p (take j row) n) j (at (lands_after b (queued_row b p (take j row)) (get_or row j Empty))) ≡ landings b p (take (suc j) row) n
unfolding landings queued_row
landing_more b p [] n j h l = absurd (omega arith)
landing_more b p (f ∷ row) zero j h l = absurd (omega arith)
landing_more b p (f ∷ row) (suc n) zero h l = ap (λ (z : List Landed). at (lands_after b p f) ∷ z) (empty n)
  where
    empty : (n : ℕ) → landings b p [] n ≡ landings b (queued b p f) [] n
    empty zero = refl
    empty (suc n) = ap (λ (z : List Landed). at Gone ∷ z) (empty n)
landing_more b p (f ∷ row) (suc n) (suc j) h l =
    ap (λ (z : List Landed). at (lands_after b p f) ∷ z) (landing_more b (queued b p f) row n j (omega arith) (omega arith))

-- ---- each minislot of a row that passes no limit

-- it passes none itself
pub fits-at : (b : Bool) (p : Places) (m j : ℕ) (row : List MinislotFeedback) → j < length (first m row) → RowFits b p (first m row)
    → MinislotFits b (queued_row b p (take j (first m row))) (get_or row j blank).feedback
fits-at b p m j row h fits =
    let f = feedback-at m j row (omega (arith, first-length m row)) in (
      subst (λ (x : Feedback). passes (queued b (queued_row b p (take j (first m row))) x) ≡ false) f (passes-before b p (first m row) j h fits.passed),
      subst Counted f (fits.counted j),
    )

-- lengths only grow, so those before it are within the limits
pub narrow : (b : Bool) (p : Places) (f : Feedback) → passes (queued b p f) ≡ false → Within 70000 p
narrow b p f e =
    let g = queued-grows b p f in
    let (h, n, r) = none_passes (queued b p f) e in
    record { urgent = omega (arith, g.urgent); long = omega (arith, g.long); resolution = omega (arith, g.resolution) }
