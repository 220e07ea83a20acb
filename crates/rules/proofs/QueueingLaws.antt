-- Step 1's sums only grow, so testing the limits once after the row is testing them at each minislot; what the count of step 1 says;
-- what a row adds to each queue, by its Singles of count 1, the slots of its others and its Collides; and that success is never immediate
-- beside a Collide.
-- Assumes nothing.
use mathlib.Core.Path.{◌≡◌, refl, sym}
use mathlib.Core.Bool.{Bool, true, false, not, ◌||◌, cond, and-false}
use mathlib.Core.List.{List, [], ◌∷◌}
use Prim.Native.Nat.{ℕ, ◌+◌, ◌≤◌}
use native.Mathlib.Omega.{arith}
use lib.Dec.{ltb, eqb}
use borrow.Author.Tests.{lt-ltb, ltb-true, ne_eqb}
use Rattle.minislot.specs.declared.Feedback.{Feedback}
use Rattle.minislot.specs.declared.Feedback.TheVariants.{Empty, Single, Collide}
use Rattle.rules.specs.declared.Counters.{Counters}
use Rattle.rules.specs.declared.Places.{Places}
use Rattle.rules.specs.RowCounts.{short_singles, long_slots, collides}
use Rattle.rules.specs.Queueing.{immediate, queued_single, queued, queued_row, passes, places_after, step_one_of}

-- every length of p is at most that of r
pub record Grows (p r : Places) : Type 0 where
  pub urgent : p.urgent ≤ r.urgent
  pub long : p.long ≤ r.long
  pub resolution : p.resolution ≤ r.resolution

pub queued-grows : (b : Bool) (p : Places) (f : Feedback) → Grows p (queued b p f)
queued-grows b p Empty = record { urgent = omega arith; long = omega arith; resolution = omega arith }
queued-grows b p (Single i c) = go b (eqb c 1)
  where
    go : (b o : Bool) → Grows p (queued_single b o c p)
    go true true = record { urgent = omega arith; long = omega arith; resolution = omega arith }
    go false true = record { urgent = omega arith; long = omega arith; resolution = omega arith }
    go b false = record { urgent = omega arith; long = omega arith; resolution = omega arith }
queued-grows b p Collide = record { urgent = omega arith; long = omega arith; resolution = omega arith }

pub row-grows : (b : Bool) (p : Places) (row : List Feedback) → Grows p (queued_row b p row)
unfolding queued_row
row-grows b p [] = record { urgent = omega arith; long = omega arith; resolution = omega arith }
row-grows b p (f ∷ row) =
    let a = queued-grows b p f in
    let c = row-grows b (queued b p f) row in
    record { urgent = omega arith; long = omega arith; resolution = omega arith }

ltb-grows : (l a b : ℕ) → a ≤ b → ltb l a ≡ true → ltb l b ≡ true
ltb-grows l a b h e = lt-ltb l b (omega (arith, ltb-true l a e))

-- a sum that passes its limit stays past it
pub passes-grows : (p r : Places) → Grows p r → passes p ≡ true → passes r ≡ true
unfolding passes
passes-grows p r g e = go (ltb 4095 p.urgent) refl (ltb 65535 p.long) refl (ltb 4095 p.resolution) refl e
  where
    last : (x y z : Bool) → z ≡ true → x || y || z ≡ true
    last true y z w = refl
    last false true z w = refl
    last false false z w = w

    go : (x : Bool) → ltb 4095 p.urgent ≡ x → (y : Bool) → ltb 65535 p.long ≡ y → (z : Bool) → ltb 4095 p.resolution ≡ z → x || y || z ≡ true
        → ltb 4095 r.urgent || ltb 65535 r.long || ltb 4095 r.resolution ≡ true
    go true a y b z c w = rw (ltb-grows 4095 p.urgent r.urgent g.urgent a)
    go false a true b z c w = rw (ltb-grows 65535 p.long r.long g.long b) (mid (ltb 4095 r.urgent))
      where
        mid : (x : Bool) → x || true || ltb 4095 r.resolution ≡ true
        mid true = refl
        mid false = refl
    go false a false b true c w = last (ltb 4095 r.urgent) (ltb 65535 r.long) (ltb 4095 r.resolution) (ltb-grows 4095 p.resolution r.resolution g.resolution c)
    go false a false b false c w = cc

-- whether a sum passes its limit at some minislot of the row
pub passes_along : Bool → Places → List Feedback → Bool
passes_along b p [] = false
passes_along b p (f ∷ row) = passes (queued b p f) || passes_along b (queued b p f) row

-- ONE TEST at the end of the row is a test at each minislot
pub passes-once : (b : Bool) (p : Places) (row : List Feedback) → passes p ≡ false → passes (queued_row b p row) ≡ passes_along b p row
unfolding passes_along queued_row
passes-once b p [] e = e
passes-once b p (f ∷ row) e = go (passes-once b (queued b p f) row) (passes (queued b p f)) refl
  where
    go : (passes (queued b p f) ≡ false → passes (queued_row b (queued b p f) row) ≡ passes_along b (queued b p f) row) → (x : Bool) → passes (queued b p f) ≡ x
        → passes (queued_row b (queued b p f) row) ≡ x || passes_along b (queued b p f) row
    go ih true w = passes-grows (queued b p f) (queued_row b (queued b p f) row) (row-grows b (queued b p f) row) w
    go ih false w = ih w

-- whether step 1 fits is whether no length passes its limit
pub fits_if : (c : Counters) (row : List Feedback) → passes (places_after c row) ≡ false → (step_one_of c row).fits ≡ true
unfolding step_one_of
fits_if c row e = rw e

pub fits_not : (c : Counters) (row : List Feedback) → passes (places_after c row) ≡ true → (step_one_of c row).fits ≡ false
unfolding step_one_of
fits_not c row e = rw e

pub fits-says : (c : Counters) (row : List Feedback) → (step_one_of c row).fits ≡ true → passes (places_after c row) ≡ false
unfolding step_one_of
fits-says c row e = go (passes (places_after c row)) e
  where
    go : (b : Bool) → not b ≡ true → b ≡ false
    go true q = sym q
    go false q = refl

pub fits-cond {ℓ} : {A : Type ℓ} (c : Counters) (row : List Feedback) (x y : A) → cond (step_one_of c row).fits x y ≡ cond (passes (places_after c row)) y x
unfolding step_one_of
fits-cond c row x y = go (passes (places_after c row))
  where
    go : (b : Bool) → cond (not b) x y ≡ cond b y x
    go true = refl
    go false = refl

-- the lengths after step 1
pub after_is : (c : Counters) (row : List Feedback) → (step_one_of c row).after ≡ places_after c row
unfolding step_one_of
after_is c row = refl

-- beside a Collide success is not immediate, whatever the mark
pub never-beside : (b : Bool) (row : List Feedback) → (collides row ≡ 0 → ⊥) → immediate b row ≡ false
never-beside b row h = rw (ne_eqb (collides row) 0 h, and-false)

-- WHAT A ROW ADDS to each queue
pub record Added (b : Bool) (p : Places) (row : List Feedback) : Type 0 where
  pub urgent : (queued_row b p row).urgent ≡ p.urgent + cond b 0 (short_singles row)
  pub long : (queued_row b p row).long ≡ p.long + long_slots row
  pub resolution : (queued_row b p row).resolution ≡ p.resolution + collides row

pub added : (b : Bool) (p : Places) (row : List Feedback) → Added b p row
unfolding queued_row short_singles long_slots collides
added true p [] = record { urgent = omega arith; long = omega arith; resolution = omega arith }
added false p [] = record { urgent = omega arith; long = omega arith; resolution = omega arith }
added b p (Empty ∷ row) = let a = added b p row in record { urgent = a.urgent; long = a.long; resolution = a.resolution }
added b p (Single i c ∷ row) =
    let a = go b (eqb c 1) (added b (queued_single b (eqb c 1) c p) row) in
    record { urgent = a.urgent; long = a.long; resolution = a.resolution }
  where
    go : (b o : Bool) → Added b (queued_single b o c p) row
        → record {
          urgent : (queued_row b (queued_single b o c p) row).urgent ≡ p.urgent + cond b 0 (cond o 1 0 + short_singles row);
          long : (queued_row b (queued_single b o c p) row).long ≡ p.long + (cond o 0 c + long_slots row);
          resolution : (queued_row b (queued_single b o c p) row).resolution ≡ p.resolution + collides row;
        }
    go true true a = record { urgent = a.urgent; long = omega (arith, a.long); resolution = a.resolution }
    go false true a = record { urgent = omega (arith, a.urgent); long = omega (arith, a.long); resolution = a.resolution }
    go true false a = record { urgent = omega (arith, a.urgent); long = omega (arith, a.long); resolution = a.resolution }
    go false false a = record { urgent = omega (arith, a.urgent); long = omega (arith, a.long); resolution = a.resolution }
added b p (Collide ∷ row) =
    let a = added b (queued b p Collide) row in
    record { urgent = a.urgent; long = a.long; resolution = omega (arith, a.resolution) }
