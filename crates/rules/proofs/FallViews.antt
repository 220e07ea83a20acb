-- Steps 4 and 5: the first entry of the urgent or else of the long queue leaves, or, in an owned slot, none does; seen by one station. Assumes
-- nothing.
use mathlib.Core.Path.{◌≡◌, refl, sym, ap, subst, ◌∙◌}
use mathlib.Core.List.{List, [], ◌∷◌}
use mathlib.Core.Option.{Option, none, some}
use Prim.Native.Nat.{ℕ, zero, suc, ◌-◌, ◌≤◌}
use native.Mathlib.Omega.{arith}
use lib.ListN.{length}
use Rattle.rules.proofs.Clauses.{falls, heeded}
use Rattle.rules.proofs.Relation.{urgent_of, long_of}
use Rattle.rules.proofs.Views.{seen, run}
use Rattle.rules.specs.Messages.{Message, Segment}
use Rattle.rules.specs.Plain.{rest, urgent_left, long_left}
use Rattle.rules.specs.Positions.{one, part}
use Rattle.rules.specs.StationLimits.{Condition, Free, Held, Fresh, Asked, Resolving, Urgent, Long}

-- the stretch is no longer than its message
abbrev pub Left : Condition → Type 0
Left Free = Unit {0}
Left (Held t) = Unit {0}
Left (Fresh t) = Unit {0}
Left (Asked g j t) = Unit {0}
Left (Resolving g i t) = Unit {0}
Left (Urgent i) = Unit {0}
Left (Long f l t) = l ≤ t

-- what the station sees of both queues after a slot with this owner is what its condition then says
pub record Falls (k : ℕ) (m : Message) (o : Option ℕ) (u : List Message) (l : List Segment) (c : Condition) : Type 0 where
  pub urgent : (i : ℕ) → seen (one k) (urgent_left o u) i ≡ urgent_of m c i
  pub long : (i : ℕ) → seen (part k) (long_left o u l) i ≡ long_of m c i

-- where neither queue is served, every condition stays
pub falls-still : (c : Condition) → falls 0 0 c ≡ c
falls-still Free = refl
falls-still (Held t) = refl
falls-still (Fresh t) = refl
falls-still (Asked g j t) = refl
falls-still (Resolving g i t) = refl
falls-still (Urgent i) = refl
falls-still (Long f l t) = refl

rest-none {ℓ κ} : {A : Type ℓ} {E : Type κ} (f : A → List E) (q : List A) → ((i : ℕ) → seen f q i ≡ []) → (i : ℕ) → seen f (rest q) i ≡ []
rest-none f [] h i = refl
rest-none f (x ∷ q) h i = h (suc i)

left-none : (k : ℕ) (u : List Message) (l : List Segment) → ((i : ℕ) → seen (part k) l i ≡ []) → (i : ℕ) → seen (part k) (long_left none u l) i ≡ []
left-none k [] l h i = rest-none (part k) l h i
left-none k (x ∷ u) l h i = h i

module _ (k : ℕ) (m : Message) where
  pub falls_ok : (o : Option ℕ) (u : List Message) (l : List Segment) (c : Condition) → Left c → ((i : ℕ) → seen (one k) u i ≡ urgent_of m c i) → ((i : ℕ) → seen (part k) l i ≡ long_of m c i)
      → Falls k m o u l (falls (heeded o (length u)) (heeded o (length l)) c)
  falls_ok (some x) u l c w a b = subst (Falls k m (some x) u l) (sym (falls-still c)) (record { urgent = a; long = b })
  falls_ok none u l Free w a b = record { urgent = rest-none (one k) u a; long = left-none k u l b }
  falls_ok none u l (Held t) w a b = record { urgent = rest-none (one k) u a; long = left-none k u l b }
  falls_ok none u l (Fresh t) w a b = record { urgent = rest-none (one k) u a; long = left-none k u l b }
  falls_ok none u l (Asked g j t) w a b = record { urgent = rest-none (one k) u a; long = left-none k u l b }
  falls_ok none u l (Resolving g i t) w a b = record { urgent = rest-none (one k) u a; long = left-none k u l b }
  falls_ok none [] l (Urgent j) w a b = record { urgent = a; long = rest-none (part k) l b }
  falls_ok none (x ∷ u) l (Urgent zero) w a b = record { urgent = λ i. a (suc i); long = b }
  falls_ok none (x ∷ u) l (Urgent (suc zero)) w a b = record { urgent = λ i. a (suc i); long = b }
  falls_ok none (x ∷ u) l (Urgent (suc (suc j))) w a b = record { urgent = λ i. a (suc i); long = b }
  falls_ok none [] [] (Long f n t) w a b = record { urgent = a; long = b }
  falls_ok none [] (y ∷ l) (Long zero n t) w a b = record { urgent = a; long = λ i. b (suc i) }
  falls_ok none [] (y ∷ l) (Long (suc zero) zero t) w a b = record { urgent = a; long = λ i. b (suc i) }
  falls_ok none [] (y ∷ l) (Long (suc zero) (suc zero) t) w a b = record { urgent = a; long = λ i. b (suc i) }
  falls_ok none [] (y ∷ l) (Long (suc zero) (suc (suc n)) t) w a b =
      record { urgent = a; long = λ i. b (suc i) ∙ ap (λ (s : ℕ). run m (suc n) s i) (let e : suc (suc (t - suc (suc n))) ≡ suc (t - suc n) = omega arith in e) }
  falls_ok none [] (y ∷ l) (Long (suc (suc f)) n t) w a b = record { urgent = a; long = λ i. b (suc i) }
  falls_ok none (x ∷ u) l (Long f n t) w a b = record { urgent = λ i. a (suc i); long = b }
