-- Counting the places of stretches: stretches no two of which overlap name each place once at most, and the other way round where each has a
-- slot left. Assumes nothing.
use mathlib.Core.Path.{◌≡◌, refl, ap, ◌∙◌}
use mathlib.Core.Bool.{Bool, true, false, cond, ◌&&◌, ◌||◌, and-eq-true_iff}
use mathlib.Core.List.{List, [], ◌∷◌}
use mathlib.Core.Logic.{◌≢◌, by_cases}
use Prim.Native.Nat.{ℕ, zero, suc, ◌+◌, ◌≤◌, ◌<◌}
use native.Mathlib.Omega.{arith}
use native.Mathlib.Decide.{dec_lt}
use lib.Dec.{eqb, leb, ltb}
use lib.ListN.{length, length-append}
use borrow.Author.Tests.{eqb-true, eqb-false, ne_eqb, leb-true, leb-false, ltb-true, ltb-false}
use Rattle.std.specs.List.{list_all, flat_map}
use Rattle.listlaws.specs.Lists.{each_pair, sum_of}
use Rattle.places.proofs.Counting.{times, times-append}
use Rattle.stretches.specs.declared.Stretch.{Stretch}
use Rattle.stretches.specs.Stretches.{apart}

-- the places of a stretch
abbrev pub up_from : ℕ → ℕ → List ℕ
up_from f zero = []
up_from f (suc l) = f ∷ up_from (suc f) l

abbrev pub spread : Stretch → List ℕ
spread s = up_from s.first s.left

pub length_up : (f l : ℕ) → length (up_from f l) ≡ l
length_up f zero = refl
length_up f (suc l) = ap suc (length_up (suc f) l)

pub length-spread : (l : List Stretch) → length (flat_map spread l) ≡ sum_of (λ (s : Stretch). s.left) l
length-spread [] = refl
length-spread (s ∷ l) = length-append (spread s) (flat_map spread l) ∙ rw (length_up s.first s.left, length-spread l)

times_below : (f l i : ℕ) → i < f → times i (up_from f l) ≡ 0
times_below f zero i h = refl
times_below f (suc l) i h = rw (ne_eqb i f (λ e. omega arith)) (omega (arith, times_below (suc f) l i (omega arith)))

times_in : (f l i : ℕ) → f ≤ i → i < f + l → times i (up_from f l) ≡ 1
times_in f zero i lo hi = absurd (omega arith)
times_in f (suc l) i lo hi = go (eqb i f) refl (λ w. times_in (suc f) l i w (omega arith))
  where
    go : (b : Bool) → eqb i f ≡ b → (suc f ≤ i → times i (up_from (suc f) l) ≡ 1) → cond b 1 0 + times i (up_from (suc f) l) ≡ 1
    go true e ih = let w : i ≡ f = eqb-true i f e in omega (arith, times_below (suc f) l i (omega arith))
    go false e ih = let w : i ≢ f = eqb-false i f e in omega (arith, ih (omega arith))

times-past : (f l i : ℕ) → f + l ≤ i → times i (up_from f l) ≡ 0
times-past f zero i h = refl
times-past f (suc l) i h = rw (ne_eqb i f (λ e. omega arith)) (omega (arith, times-past (suc f) l i (omega arith)))

-- a stretch names a place once or not at all, as its ends say
pub times-spread : (s : Stretch) (i : ℕ) → times i (spread s) ≡ cond (leb s.first i && ltb i (s.first + s.left)) 1 0
times-spread s i = go (leb s.first i) refl (ltb i (s.first + s.left)) refl
  where
    go : (a : Bool) → leb s.first i ≡ a → (b : Bool) → ltb i (s.first + s.left) ≡ b → times i (spread s) ≡ cond (a && b) 1 0
    go true e true f = times_in s.first s.left i (leb-true s.first i e) (ltb-true i (s.first + s.left) f)
    go true e false f = times-past s.first s.left i (ltb-false i (s.first + s.left) f)
    go false e b f = times_below s.first s.left i (leb-false s.first i e)

-- two stretches apart have no place in common; two that are not have the later beginning
apart_none : (a b : Stretch) (i : ℕ) → apart a b ≡ true → times i (spread a) ≡ 1 → times i (spread b) ≡ 0
apart_none a b i e h = go (leb (a.first + a.left) b.first) refl e
  where
    low : a.first ≤ i
    low = by_cases (dec_lt i a.first) (λ w. absurd (omega (arith, times_below a.first a.left i w))) (λ w. omega arith)

    high : i < a.first + a.left
    high = by_cases (dec_lt i (a.first + a.left)) (λ w. w) (λ w. absurd (omega (arith, times-past a.first a.left i (omega arith))))

    go : (x : Bool) → leb (a.first + a.left) b.first ≡ x → x || leb (b.first + b.left) a.first ≡ true → times i (spread b) ≡ 0
    go true w e = let z : a.first + a.left ≤ b.first = leb-true (a.first + a.left) b.first w in times_below b.first b.left i (omega (arith, high))
    go false w e = let z : b.first + b.left ≤ a.first = leb-true (b.first + b.left) a.first e in times-past b.first b.left i (omega (arith, low))

none_apart : (a b : Stretch) → 1 ≤ a.left → 1 ≤ b.left → ((i : ℕ) → times i (spread a) + times i (spread b) ≤ 1) → apart a b ≡ true
none_apart a b la lb h = go (leb (a.first + a.left) b.first) refl (leb (b.first + b.left) a.first) refl
  where
    go : (x : Bool) → leb (a.first + a.left) b.first ≡ x → (y : Bool) → leb (b.first + b.left) a.first ≡ y → x || y ≡ true
    go true w y v = refl
    go false w true v = refl
    go false w false v = by_cases (dec_lt a.first b.first)
        (λ l. absurd (omega (arith, h b.first, times_in a.first a.left b.first (omega arith) (leb-false (a.first + a.left) b.first w), times_in b.first b.left b.first (omega arith) (omega arith))))
        (λ l. absurd (omega (arith, h a.first, times_in b.first b.left a.first (omega arith) (leb-false (b.first + b.left) a.first v), times_in a.first a.left a.first (omega arith) (omega arith))))

times-parts : (i : ℕ) (s : Stretch) (l : List Stretch) → times i (flat_map spread (s ∷ l)) ≡ times i (spread s) + times i (flat_map spread l)
times-parts i s l = times-append i (spread s) (flat_map spread l)

each-apart : (a : Stretch) (l : List Stretch) (i : ℕ) → list_all (apart a) l ≡ true → times i (spread a) ≡ 1 → times i (flat_map spread l) ≡ 0
each-apart a [] i e h = refl
each-apart a (b ∷ l) i e h =
    let (x, y) = (and-eq-true_iff (apart a b) (list_all (apart a) l)).0 e in
    omega (arith, times-parts i b l, apart_none a b i x h, each-apart a l i y h)

times-most : (s : Stretch) (i : ℕ) → times i (spread s) ≤ 1
times-most s i = rw (times-spread s i) (go (leb s.first i && ltb i (s.first + s.left)))
  where
    go : (b : Bool) → cond b 1 0 ≤ 1
    go true = omega arith
    go false = omega arith

pub apart-once : (l : List Stretch) → each_pair apart l ≡ true → (i : ℕ) → times i (flat_map spread l) ≤ 1
apart-once [] e i = omega arith
apart-once (s ∷ l) e i =
    let (x, y) = (and-eq-true_iff (list_all (apart s) l) (each_pair apart l)).0 e in
    by_cases (dec_lt (times i (spread s)) 1)
    (λ w. omega (arith, times-parts i s l, apart-once l y i))
    (λ w. omega (arith, times-parts i s l, times-most s i, each-apart s l i x (omega (arith, times-most s i))))

-- every stretch has a slot left
abbrev pub AllLeft : List Stretch → Type 0
AllLeft [] = Unit {0}
AllLeft (s ∷ l) = (1 ≤ s.left) × AllLeft l

apart-all : (a : Stretch) (l : List Stretch) → 1 ≤ a.left → AllLeft l → ((i : ℕ) → times i (spread a) + times i (flat_map spread l) ≤ 1) → list_all (apart a) l ≡ true
apart-all a [] la q h = refl
apart-all a (b ∷ l) la q h =
    rw (none_apart a b la q.0 (λ i. omega (arith, h i, times-parts i b l)))
    (apart-all a l la q.1 (λ i. omega (arith, h i, times-parts i b l)))

pub once-apart : (l : List Stretch) → AllLeft l → ((i : ℕ) → times i (flat_map spread l) ≤ 1) → each_pair apart l ≡ true
once-apart [] q h = refl
once-apart (s ∷ l) q h =
    rw (apart-all s l q.0 q.1 (λ i. omega (arith, h i, times-parts i s l)))
    (once-apart l q.1 (λ i. omega (arith, h i, times-parts i s l)))
