-- Reading a row one minislot after the other: what one more minislot does to the feedback and the array, and which number the
-- first refused one gives. By induction on the readings before it.
-- Assumes nothing.
use mathlib.Core.Path.{◌≡◌, refl, ap, ◌∙◌, sym}
use mathlib.Core.Bool.{Bool, true, false, cond, ◌&&◌, and-eq-true_iff}
use mathlib.Core.List.{List, [], ◌∷◌, ◌++◌}
use Prim.Native.Nat.{ℕ, zero, suc, ◌≤◌, ◌<◌}
use native.Mathlib.Nat.{le_of_suc-le-suc, not-suc-le-zero}
use native.Mathlib.Omega.{arith}
use borrow.Author.Tests.{le-leb, leb-true, eq-eqb, eqb-true}
use lib.Dec.{leb, eqb}
use lib.ListN.{length, get_or, set, take, drop}
use lib.Seq.{take-suc, split_at, length-take-le}
use Rattle.minislot.specs.declared.Feedback.{Feedback}
use Rattle.minislot.specs.declared.Reading.{Reading}
use Rattle.minislot.specs.declared.Reading.TheVariants.{Heard, Refused}
use Rattle.minislot.specs.declared.MinislotFeedback.{MinislotFeedback}
use Rattle.minislot.specs.Reading.{reading_of}
use Rattle.rows.specs.Row.{readings, first_number, feedbacks, padded, feedback_in, row_answer, minislots_of, has_minislots, row_of}

-- ---- the readings of a row

pub readings-length : (words counts : List ℕ) → length words ≡ length counts → length (readings words counts) ≡ length words
unfolding readings
readings-length [] counts e = refl
readings-length (w ∷ words) [] e = absurd (omega arith)
readings-length (w ∷ words) (c ∷ counts) e = ap suc (readings-length words counts (omega arith))

pub readings-at : (words counts : List ℕ) (j : ℕ) (d : Reading) → length words ≡ length counts → j < length words
    → get_or (readings words counts) j d ≡ reading_of (get_or words j 0) (get_or counts j 0)
unfolding readings
readings-at [] counts j d e h = absurd (not-suc-le-zero h)
readings-at (w ∷ words) [] j d e h = absurd (omega arith)
readings-at (w ∷ words) (c ∷ counts) zero d e h = refl
readings-at (w ∷ words) (c ∷ counts) (suc j) d e h = readings-at words counts j d (omega arith) (le_of_suc-le-suc h)

-- ---- one more minislot that is heard

feedbacks-more : (l : List Reading) (f : Feedback) → feedbacks (l ++ (Heard f ∷ [])) ≡ feedbacks l ++ (f ∷ [])
unfolding feedbacks
feedbacks-more [] f = refl
feedbacks-more (Heard g ∷ l) f = ap (λ (r : List Feedback). g ∷ r) (feedbacks-more l f)
feedbacks-more (Refused n ∷ l) f = feedbacks-more l f

padded-more : (n : ℕ) (l : List Feedback) (f : Feedback) → length l < n
    → padded n (l ++ (f ∷ [])) ≡ set (padded n l) (length l) (record { feedback = f })
unfolding padded
padded-more zero l f h = absurd (not-suc-le-zero h)
padded-more (suc n) [] f h = refl
padded-more (suc n) (g ∷ l) f h = ap (λ (r : List MinislotFeedback). record { feedback = g } ∷ r) (padded-more n l f (le_of_suc-le-suc h))

-- an array of n holds a list of as many or fewer
pub padded-holds : (n : ℕ) (l : List Feedback) → length l ≤ n → take (length l) (feedback_in (padded n l)) ≡ l
unfolding padded
padded-holds zero [] h = refl
padded-holds zero (f ∷ l) h = absurd (not-suc-le-zero h)
padded-holds (suc n) [] h = refl
padded-holds (suc n) (f ∷ l) h = ap (λ (r : List Feedback). f ∷ r) (padded-holds n l (le_of_suc-le-suc h))

length_more : (l : List Feedback) (f : Feedback) → length (l ++ (f ∷ [])) ≡ suc (length l)
length_more [] f = refl
length_more (g ∷ l) f = ap suc (length_more l f)

-- the first j readings are all heard: as many feedbacks as readings
module _ (l : List Reading) (j : ℕ) (f : Feedback) (d : Reading) (within : j < length l) (here : get_or l j d ≡ Heard f) where
  pub heard-feedbacks : feedbacks (take (suc j) l) ≡ feedbacks (take j l) ++ (f ∷ [])
  heard-feedbacks = rw (take-suc l j d within, here) (feedbacks-more (take j l) f)

  pub heard-count : length (feedbacks (take j l)) ≡ j → length (feedbacks (take (suc j) l)) ≡ suc j
  heard-count e = rw heard-feedbacks (length_more (feedbacks (take j l)) f ∙ ap suc e)

  pub heard-padded : (n : ℕ) → length (feedbacks (take j l)) ≡ j → j < n
      → padded n (feedbacks (take (suc j) l)) ≡ set (padded n (feedbacks (take j l))) j (record { feedback = f })
  heard-padded n e h =
      rw heard-feedbacks
      (padded-more n (feedbacks (take j l)) f (rw e h)
      ∙ ap (λ (i : ℕ). set (padded n (feedbacks (take j l))) i (record { feedback = f })) e)

-- ---- the first that is refused

pub feedbacks_fewer : (l : List Reading) → length (feedbacks l) ≤ length l
unfolding feedbacks
feedbacks_fewer [] = omega arith
feedbacks_fewer (Heard f ∷ l) = omega (arith, feedbacks_fewer l)
feedbacks_fewer (Refused n ∷ l) = omega (arith, feedbacks_fewer l)

first-after : (l rest : List Reading) → length (feedbacks l) ≡ length l → first_number (l ++ rest) ≡ first_number rest
unfolding feedbacks first_number
first-after [] rest e = refl
first-after (Heard f ∷ l) rest e = first-after l rest (omega arith)
first-after (Refused n ∷ l) rest e = absurd (omega (arith, feedbacks_fewer l))

-- after j heard ones, the number of the refused one at j
pub refused-first : (l : List Reading) (j n : ℕ) (d : Reading) → j < length l → get_or l j d ≡ Refused n → length (feedbacks (take j l)) ≡ j
    → first_number l ≡ n
unfolding first_number
refused-first l j n d h here e =
    ap first_number (split_at l j d h)
    ∙ first-after (take j l) (get_or l j d ∷ drop (suc j) l) (e ∙ sym (length-take-le j l (omega arith)))
    ∙ rw here

-- all heard: no number
pub all-heard : (l : List Reading) → length (feedbacks l) ≡ length l → first_number l ≡ 0
unfolding feedbacks first_number
all-heard [] e = refl
all-heard (Heard f ∷ l) e = all-heard l (omega arith)
all-heard (Refused n ∷ l) e = absurd (omega (arith, feedbacks_fewer l))

-- ---- the row's answer

nothing_heard : (n : ℕ) (l : List Feedback) → 1 ≤ n → row_answer n [] ≡ row_answer n l
nothing_heard zero l h = absurd (omega arith)
nothing_heard (suc n) l h = refl

pub refused-answer : (words counts : List ℕ) (n : ℕ) → 1 ≤ n → first_number (readings words counts) ≡ n
    → row_answer n [] ≡ minislots_of words counts
unfolding minislots_of
refused-answer words counts n h e = rw e (nothing_heard n (feedbacks (readings words counts)) h)

pub heard-answer : (words counts : List ℕ) → length (feedbacks (readings words counts)) ≡ length (readings words counts)
    → row_answer 0 (feedbacks (readings words counts)) ≡ minislots_of words counts
unfolding minislots_of
heard-answer words counts e = rw (all-heard (readings words counts) e)

-- ---- 6, or the minislots

pub row-tests : (m : ℕ) (words counts : List ℕ) → has_minislots m words counts ≡ true
    → (2 ≤ m) × (m ≤ 8) × (length words ≡ m) × (length counts ≡ m)
row-tests m words counts e =
    let p = (and-eq-true_iff (leb 2 m && leb m 8 && eqb (length words) m) (eqb (length counts) m)).0 e in
    let q = (and-eq-true_iff (leb 2 m && leb m 8) (eqb (length words) m)).0 p.0 in
    let r = (and-eq-true_iff (leb 2 m) (leb m 8)).0 q.0 in
    (leb-true 2 m r.0, leb-true m 8 r.1, eqb-true (length words) m q.1, eqb-true (length counts) m p.1)

-- 2 to 8 minislots, and as many words and counts: their readings decide
pub row-whole : (m : ℕ) (words counts : List ℕ) → 2 ≤ m → m ≤ 8 → length words ≡ m → length counts ≡ m
    → row_of m words counts ≡ minislots_of words counts
unfolding row_of
row-whole m words counts lo hi w c = rw (le-leb 2 m lo, le-leb m 8 hi, eq-eqb (length words) m w, eq-eqb (length counts) m c)

-- else 6
pub row-short : (m : ℕ) (words counts : List ℕ) → (2 ≤ m → m ≤ 8 → length words ≡ m → length counts ≡ m → ⊥)
    → row_of m words counts ≡ row_answer 6 []
unfolding row_of
row-short m words counts none = go (has_minislots m words counts) refl
  where
    go : (b : Bool) → has_minislots m words counts ≡ b → cond b (minislots_of words counts) (row_answer 6 []) ≡ row_answer 6 []
    go true e = let t = row-tests m words counts e in absurd (none t.0 t.1 t.2 t.3)
    go false e = refl
