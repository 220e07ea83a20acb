-- A message that a slot passes by does nothing: steps 1 and 3 to 5 leave its condition as it is, and it neither asks nor sends. Assumes
-- nothing.
use mathlib.Core.Path.{◌≡◌, refl}
use mathlib.Core.Bool.{Bool, true, false, cond, and-false}
use Prim.Native.Nat.{ℕ}
use lib.Dec.{eqb}
use borrow.Author.Tests.{not-true, eqb-true}
use Rattle.rules.specs.declared.Outcome.{Outcome}
use Rattle.rules.specs.declared.Acted.{Acted}
use Rattle.rules.specs.declared.Turn.{Turn}
use Rattle.rules.specs.declared.Turn.TheVariants.{Owned as OwnedTurn, Urgent as UrgentTurn, Long as LongTurn, Resolve as ResolveTurn, Open as OpenTurn}
use Rattle.rules.specs.declared.Condition.{Condition}
use Rattle.rules.specs.declared.Condition.TheVariants.{Free, Held, Fresh, Asked, Resolving, Urgent, Long}
use Rattle.rules.specs.Requesting.{waits_in, requests, requested}
use Rattle.rules.specs.Serving.{sends, moved}
use Rattle.rules.specs.Stepping.{settled_in, request_minislot, stays, acts_of}
use Rattle.idling.specs.Idling.{idle_in}

-- steps 3 to 5
abbrev after : Turn → ℕ → ℕ → ℕ → Condition → Acted
after t r g pick k =
    record { condition = moved t (requested r g pick k); minislot = request_minislot (requests r g k) pick; segment = sends t r g k }

-- a resolution queue that stands still
still : (r g h : ℕ) → cond (eqb h g) (eqb r 0) true ≡ true → waits_in r g h ≡ false
still r g h e = go (eqb h g) refl e
  where
    go : (b : Bool) → eqb h g ≡ b → cond b (eqb r 0) true ≡ true → waits_in r g h ≡ false
    go true q z = let w : r ≡ 0 = eqb-true r 0 z in rw w
    go false q z = rw (q, and-false)

module _ (r g pick : ℕ) where
  quiet : (t : Turn) (k : Condition) → idle_in t r g k ≡ true → after t r g pick k ≡ stays k
  unfolding idle_in requests requested sends moved
  quiet (OwnedTurn x) Free e = refl
  quiet (OwnedTurn x) (Held t) e = refl
  quiet UrgentTurn Free e = refl
  quiet UrgentTurn (Held t) e = refl
  quiet LongTurn Free e = refl
  quiet LongTurn (Held n) e = refl
  quiet ResolveTurn Free e = refl
  quiet ResolveTurn (Held n) e = refl
  quiet OpenTurn Free e = refl
  quiet OpenTurn (Held n) e = refl
  quiet (OwnedTurn x) (Fresh n) e = rw (not-true (eqb r 0) e)
  quiet UrgentTurn (Fresh n) e = rw (not-true (eqb r 0) e)
  quiet LongTurn (Fresh n) e = rw (not-true (eqb r 0) e)
  quiet ResolveTurn (Fresh n) e = rw (not-true (eqb r 0) e)
  quiet OpenTurn (Fresh n) e = rw (not-true (eqb r 0) e)
  quiet (OwnedTurn x) (Asked h j n) e = refl
  quiet UrgentTurn (Asked h j n) e = refl
  quiet LongTurn (Asked h j n) e = refl
  quiet ResolveTurn (Asked h j n) e = refl
  quiet OpenTurn (Asked h j n) e = refl
  quiet (OwnedTurn x) (Resolving h i n) e = rw (still r g h e)
  quiet UrgentTurn (Resolving h i n) e = rw (still r g h e)
  quiet LongTurn (Resolving h i n) e = rw (still r g h e)
  quiet ResolveTurn (Resolving h i n) e = rw (still r g h e)
  quiet OpenTurn (Resolving h i n) e = rw (still r g h e)
  quiet (OwnedTurn x) (Urgent i) e = refl
  quiet UrgentTurn (Urgent i) e = cc
  quiet LongTurn (Urgent i) e = refl
  quiet ResolveTurn (Urgent i) e = refl
  quiet OpenTurn (Urgent i) e = refl
  quiet (OwnedTurn x) (Long f l n) e = refl
  quiet UrgentTurn (Long f l n) e = refl
  quiet LongTurn (Long f l n) e = cc
  quiet ResolveTurn (Long f l n) e = refl
  quiet OpenTurn (Long f l n) e = refl

module _ (o : Outcome) where
  -- step 1
  settles : (k : Condition) → idle_in o.turn o.resolution o.group k ≡ true → settled_in o.landed o.group k ≡ k
  unfolding idle_in settled_in
  settles Free e = refl
  settles (Held n) e = refl
  settles (Fresh n) e = refl
  settles (Asked h j n) e = rw (not-true (eqb h o.group) e)
  settles (Resolving h i n) e = refl
  settles (Urgent i) e = refl
  settles (Long f l n) e = refl

  pub idle-stays : (k : Condition) (pick : ℕ) → idle_in o.turn o.resolution o.group k ≡ true → acts_of o k pick ≡ stays k
  unfolding acts_of
  idle-stays k pick e = rw (settles k e) (quiet o.resolution o.group pick o.turn k e)
