-- What one message record sees of a list: `of k` keeps record k's messages, `seen` reads a queue by places; the laws of the test on two numbers.
-- Assumes nothing.
use mathlib.Core.Path.{◌≡◌, refl, sym}
use mathlib.Core.Bool.{Bool, true, false}
use mathlib.Core.List.{List, [], ◌∷◌}
use Prim.Native.Nat.{ℕ, zero, suc}
use native.Mathlib.Omega.{arith}
use borrow.Author.Tests.{eq-eqb, eqb-true, eqb-false, ne_eqb}
use lib.Dec.{eqb}
use Rattle.rules.specs.Messages.{Message, Segment, segment, record_of}

pub eqb_self : (n : ℕ) → eqb n n ≡ true
eqb_self n = eq-eqb n n refl

-- ⊥ from lists of two shapes
pub nil_cons {ℓ} : {A : Type ℓ} {x : A} {l : List A} → ◌≡◌ {A = List A} [] (x ∷ l) → ⊥
nil_cons e = let z : ◌≡◌ {A = ℕ} 0 1 = cc in omega arith

-- a record's position with a number: what a minislot carries of a sender (its slots), what a data slot does (its segment)
pub record Sender : Type 0 where
  pub position : ℕ
  pub value : ℕ

abbrev pub sender_at : ℕ → ℕ → Sender
sender_at k v = record { position = k; value = v }

abbrev pub request_from : Message → Sender
request_from m = sender_at (record_of m) m.slots

abbrev pub data_from : Segment → Sender
data_from s = sender_at (record_of s.message) s.number

-- what `f` shows of the i-th place of a queue, and nothing past its end
abbrev pub seen {ℓ κ} : {A : Type ℓ} {E : Type κ} → (A → List E) → List A → ℕ → List E
seen f [] i = []
seen f (x ∷ q) zero = f x
seen f (x ∷ q) (suc i) = seen f q i

-- views of one place, of a later start, of a place counted from 1, and of a run of segments
module _ {ℓ} {E : Type ℓ} where
  abbrev pub at_first : List E → ℕ → List E
  at_first x zero = x
  at_first x (suc i) = []

  abbrev pub shifted : ℕ → (ℕ → List E) → ℕ → List E
  shifted zero v i = v i
  shifted (suc n) v zero = []
  shifted (suc n) v (suc i) = shifted n v i

  abbrev pub at_place : ℕ → (ℕ → List E) → ℕ → List E
  at_place zero v i = []
  at_place (suc n) v i = shifted n v i

abbrev pub run : Message → ℕ → ℕ → ℕ → List Segment
run m zero s i = []
run m (suc l) s zero = segment m s ∷ []
run m (suc l) s (suc i) = run m l (suc s) i

pub eqb-sym : (a b : ℕ) → eqb a b ≡ eqb b a
eqb-sym a b = go (eqb a b) refl
  where
    go : (x : Bool) → eqb a b ≡ x → x ≡ eqb b a
    go true e = sym (eq-eqb b a (sym (eqb-true a b e)))
    go false e = sym (ne_eqb b a (λ w. eqb-false a b e (sym w)))
