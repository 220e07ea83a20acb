-- Conditions in H, in N and in neither: what a test of one of the two keeps through steps 3 to 5 of a slot, where nobody joins; and what a stretch within its
-- limits has. Assumes nothing.
use mathlib.Core.Path.{◌≡◌, refl, sym, ap, ◌∙◌}
use mathlib.Core.Bool.{Bool, true, false, ◌&&◌, cond}
use Prim.Native.Nat.{ℕ, ◌+◌, ◌-◌, ◌≤◌}
use lib.Dec.{eqb, leb}
use Rattle.rules.specs.declared.Counters.{Counters}
use Rattle.rules.specs.declared.Condition.{Condition}
use Rattle.rules.specs.declared.Condition.TheVariants.{Free, Held, Fresh, Asked, Resolving, Urgent, Long}
use Rattle.rules.specs.declared.Turn.{Turn}
use Rattle.rules.specs.declared.Turn.TheVariants.{Owned as OwnedTurn, Urgent as UrgentTurn, Long as LongTurn}
use Rattle.rules.specs.declared.Turn.TheVariants.{Resolve as ResolveTurn, Open as OpenTurn}
use Rattle.rules.specs.Limits.{between}
use Rattle.rules.specs.Requesting.{waits_in, requested}
use Rattle.rules.specs.Serving.{moved}
use Rattle.rules.specs.StationLimits.{condition_within}
use Rattle.rules.proofs.LimitLaws.{between-bounds}
use Rattle.rules.proofs.SlotStep.{and_both}
use Rattle.channel_rules.proofs.SoundLists.{long-parts}
use Rattle.coming_rules.specs.Quiet.{quiet_condition}

-- a condition that shows as one of H or N is just that
pub quiet_is : (k q : Condition) → (q ≡ Free → ⊥) → quiet_condition k ≡ q → k ≡ q
quiet_is Free q other e = e
quiet_is (Held t) q other e = absurd (other (sym e))
quiet_is (Fresh t) q other e = absurd (other (sym e))
quiet_is (Asked g j t) q other e = absurd (other (sym e))
quiet_is (Resolving g i t) q other e = absurd (other (sym e))
quiet_is (Urgent i) q other e = e
quiet_is (Long f l t) q other e = e

-- step 3 is of messages in neither
requested-quiet : (r g pick : ℕ) (k : Condition) → quiet_condition (requested r g pick k) ≡ quiet_condition k
unfolding requested
requested-quiet r g pick Free = refl
requested-quiet r g pick (Held t) = refl
requested-quiet r g pick (Fresh t) = go (eqb r 0)
  where
    go : (b : Bool) → quiet_condition (cond b (Asked g pick t) (Fresh t)) ≡ Free
    go true = refl
    go false = refl
requested-quiet r g pick (Asked h j t) = refl
requested-quiet r g pick (Resolving h i t) = go (waits_in r g h) (eqb i 1)
  where
    go : (a b : Bool) → quiet_condition (cond a (cond b (Asked g pick t) (Resolving h (i - 1) t)) (Resolving h i t)) ≡ Free
    go true true = refl
    go true false = refl
    go false b = refl
requested-quiet r g pick (Urgent i) = refl
requested-quiet r g pick (Long f l t) = refl

-- a test that goes by the queue alone, and that nobody outside both passes
module _ (test : Condition → Bool) (quiet : (k : Condition) → test (quiet_condition k) ≡ test k) (free : test Free ≡ false) (urgent : (i j : ℕ) → test (Urgent i) ≡ test (Urgent j))
    (long : (f l t g m n : ℕ) → test (Long f l t) ≡ test (Long g m n)) where
  pub requested_out : (r g pick : ℕ) (k : Condition) → test (requested r g pick k) ≡ test k
  requested_out r g pick k = sym (quiet (requested r g pick k)) ∙ ap test (requested-quiet r g pick k) ∙ quiet k

  -- whoever fails it fails it after steps 4 and 5
  pub moved_out : (turn : Turn) (k : Condition) → test k ≡ false → test (moved turn k) ≡ false
  unfolding moved
  moved_out (OwnedTurn x) k e = e
  moved_out UrgentTurn Free e = e
  moved_out UrgentTurn (Held t) e = e
  moved_out UrgentTurn (Fresh t) e = e
  moved_out UrgentTurn (Asked g j t) e = e
  moved_out UrgentTurn (Resolving g i t) e = e
  moved_out UrgentTurn (Urgent i) e = go (eqb i 1)
    where
      go : (b : Bool) → test (cond b Free (Urgent (i - 1))) ≡ false
      go true = free
      go false = urgent (i - 1) i ∙ e
  moved_out UrgentTurn (Long f l t) e = e
  moved_out LongTurn Free e = e
  moved_out LongTurn (Held t) e = e
  moved_out LongTurn (Fresh t) e = e
  moved_out LongTurn (Asked g j t) e = e
  moved_out LongTurn (Resolving g i t) e = e
  moved_out LongTurn (Urgent i) e = e
  moved_out LongTurn (Long f l t) e = go (eqb f 1) (eqb l 1)
    where
      go : (a b : Bool) → test (cond a (cond b Free (Long 1 (l - 1) t)) (Long (f - 1) l t)) ≡ false
      go true true = free
      go true false = long 1 (l - 1) t f l t ∙ e
      go false b = long (f - 1) l t f l t ∙ e
  moved_out ResolveTurn k e = e
  moved_out OpenTurn k e = e

-- a stretch of N lies within it, and has as many slots left as its total at most
pub record StretchIn (n f l t : ℕ) : Type 0 where
  pub first : 1 ≤ f
  pub left : 1 ≤ l
  pub last : f + l ≤ n + 1
  pub most : l ≤ t

pub stretch_in : (c : Counters) (f l t : ℕ) → condition_within c (Long f l t) ≡ true → StretchIn c.long f l t
unfolding condition_within
stretch_in c f l t e =
    let p = long-parts c f l t e in
    let left = between-bounds 1 l t (and_both (between 2 t 255) (between 1 l t) (and_both (between 2 t 255 && between 1 l t) (leb 1 f) (and_both (between 2 t 255 && between 1 l t && leb 1 f) (leb (f + l) (c.long + 1)) e).0).0).1 in
    record { first = p.0; left = p.1; last = p.2; most = left.1 }
