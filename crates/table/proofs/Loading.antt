-- What the loops of `load` and `store` have copied after i turns, one record more at a time; and what is had of a table that is loaded, changed and
-- stored. Assumes nothing.
use Prim.Native.Nat.{ℕ, ◌+◌, ◌≤◌, ◌<◌, min}
use native.Mathlib.Numerals.{add-one}
use native.Mathlib.Omega.{arith}
use mathlib.Core.List.{List}
use mathlib.Core.Path.{◌≡◌, refl, sym, ◌∙◌, ap, subst}
use mathlib.Core.Logic.{◌⊎◌, inl, inr, by_cases}
use native.Mathlib.Decide.{dec_lt}
use lib.ListN.{length, get_or, replicate, set, take, length-replicate, length-set}
use lib.Seq.{take_all}
use Rattle.listlaws.specs.Steps.{all_steps, first_steps, latter}
use Rattle.listlaws.proofs.Steps.{Far, length-first_steps, length-all_steps, set-first_steps, first_steps-take, all_steps-none, all_steps-whole, over_first, take-set}
use Rattle.rules.specs.declared.Station.{Station}
use Rattle.rules.specs.StationCalls.{no_station}
use Rattle.table.specs.declared.Loaded.{Loaded}
use Rattle.table.specs.Loading.{absent, copies_of, of, blank_stations, blank_of, with_of, load_of, table_in, store_of}

-- ---- how many records are copied

-- no more than n, m and 64, and as many as the least of them
pub record Fits (n m k : ℕ) : Type 0 where
  pub first : k ≤ n
  pub second : k ≤ m
  pub most : k ≤ 64
  pub far : (n ≤ k) ⊎ ((m ≤ k) ⊎ (64 ≤ k))

pub copies-fit : (n m : ℕ) → Fits n m (copies_of n m)
unfolding copies_of
copies-fit n m = record {
  first = omega arith;
  second = omega arith;
  most = omega arith;
  far = by_cases (dec_lt (min n m) 64) (λ b. by_cases (dec_lt n m) (λ a. inl (omega arith)) (λ a. inr (inl (omega arith)))) (λ b. inr (inr (omega arith)));
}

-- ---- loading

sixty_four : length (replicate 64 no_station) ≡ 64
sixty_four = length-replicate 64 no_station

-- a table of n stations, of which the first i are read. It is shut, since at i = 0 it would compute to 64 records wherever a walk compares two contexts
unfoldable pub read_to : ℕ → List Station → ℕ → Loaded
read_to n ys i = of (first_steps latter i (replicate 64 no_station) ys) n

pub read_to-none : (n : ℕ) (ys : List Station) → of blank_stations n ≡ read_to n ys 0
unfolding blank_stations read_to
read_to-none n ys = refl

pub read_to-count : (n : ℕ) (ys : List Station) (i : ℕ) → of (read_to n ys i).stations n ≡ read_to n ys i
unfolding read_to
read_to-count n ys i = refl

pub length-read_to : (n : ℕ) (ys : List Station) (i : ℕ) → length (read_to n ys i).stations ≡ 64
unfolding read_to
length-read_to n ys i = length-first_steps latter i (replicate 64 no_station) ys ∙ sixty_four

pub read_to-more : (n : ℕ) (ys : List Station) (i : ℕ) → i < 64 → i < length ys → with_of (read_to n ys i) i (get_or ys i absent) ≡ read_to n ys (i + 1)
unfolding with_of read_to
read_to-more n ys i l m =
    ap (λ (t : List Station). of t n) (set-first_steps latter i (replicate 64 no_station) ys absent absent (subst (λ (k : ℕ). i < k) (sym sixty_four) l) m)
    ∙ ap (read_to n ys) (sym (add-one i))

pub read_to-set : (n : ℕ) (ys : List Station) (i : ℕ) → i < 64 → i < length ys → set (read_to n ys i).stations i (get_or ys i absent) ≡ (read_to n ys (i + 1)).stations
unfolding with_of
read_to-set n ys i l m = ap (λ (d : Loaded). d.stations) (read_to-more n ys i l m)

pub read_to-all : (ys : List Station) → read_to (length ys) ys (copies_of (length ys) 64) ≡ load_of ys
unfolding load_of read_to
read_to-all ys =
    ap (λ (t : List Station). of t (length ys)) (first_steps-take latter (copies_of (length ys) 64) 64 (replicate 64 no_station) ys (copies-fit (length ys) 64).most (far (copies-fit (length ys) 64).far))
  where
    n : ℕ
    n = copies_of (length ys) 64

    far : (length ys ≤ n) ⊎ ((64 ≤ n) ⊎ (64 ≤ n)) → Far n 64 (replicate 64 no_station) ys
    far (inl h) = inr (inr h)
    far (inr (inl h)) = inr (inl h)
    far (inr (inr h)) = inr (inl h)

-- a list of no more than 64, all of it read
pub read_to-whole : (ys : List Station) (n : ℕ) → n ≡ length ys → n ≤ 64 → read_to n ys n ≡ load_of ys
read_to-whole ys n e h = ap (λ (k : ℕ). read_to k ys n) e ∙ ap (read_to (length ys) ys) (whole (copies-fit (length ys) 64).far) ∙ read_to-all ys
  where
    k : ℕ
    k = copies_of (length ys) 64

    fit : Fits (length ys) 64 k
    fit = copies-fit (length ys) 64

    whole : (length ys ≤ k) ⊎ ((64 ≤ k) ⊎ (64 ≤ k)) → n ≡ k
    whole (inl w) = omega (arith, fit.first)
    whole (inr (inl w)) = omega (arith, fit.first, fit.most)
    whole (inr (inr w)) = omega (arith, fit.first, fit.most)

-- ---- storing

-- the lent records, of which the first i are those of the table
abbrev pub stored_to : List Station → Loaded → ℕ → List Station
stored_to ys d i = first_steps latter i ys d.stations

pub length-stored_to : (ys : List Station) (d : Loaded) (i : ℕ) → length (stored_to ys d i) ≡ length ys
length-stored_to ys d i = length-first_steps latter i ys d.stations

pub stored_to-more : (ys : List Station) (d : Loaded) (i : ℕ) → i < length ys → i < length d.stations → set (stored_to ys d i) i (get_or d.stations i no_station) ≡ stored_to ys d (i + 1)
stored_to-more ys d i l m = set-first_steps latter i ys d.stations absent no_station l m ∙ ap (stored_to ys d) (sym (add-one i))

pub stored_to-all : (ys : List Station) (d : Loaded) → length d.stations ≡ 64 → stored_to ys d (copies_of (length ys) d.count) ≡ store_of ys d
unfolding store_of
stored_to-all ys d e = first_steps-take latter n d.count ys d.stations fit.second (far fit.far)
  where
    n : ℕ
    n = copies_of (length ys) d.count

    fit : Fits (length ys) d.count n
    fit = copies-fit (length ys) d.count

    far : (length ys ≤ n) ⊎ ((d.count ≤ n) ⊎ (64 ≤ n)) → Far n d.count ys d.stations
    far (inl h) = inl h
    far (inr (inl h)) = inr (inl h)
    far (inr (inr h)) = inr (inr (subst (λ (k : ℕ). k ≤ n) (sym e) h))

pub length-store : (ys : List Station) (d : Loaded) → length (store_of ys d) ≡ length ys
unfolding store_of
length-store ys d = length-all_steps latter ys (table_in d)

-- ---- a table that is loaded, and stored

pub load-count : (ys : List Station) → (load_of ys).count ≡ length ys
unfolding load_of
load-count ys = refl

-- nothing is stored of a table of no station
pub store-none : (ys : List Station) → store_of ys (blank_of 0) ≡ ys
unfolding store_of blank_of blank_stations
store-none ys = all_steps-none latter ys

module _ (ys : List Station) (few : length ys ≤ 64) where
  -- the table by value is the one that was loaded
  pub table-loaded : table_in (load_of ys) ≡ ys
  unfolding load_of
  table-loaded = rw (take_all 64 ys few) (over_first (replicate 64 no_station) ys (rw length-replicate few))

  -- one station is changed
  pub store_with : (k : ℕ) (s : Station) → store_of ys (with_of (load_of ys) k s) ≡ set ys k s
  unfolding store_of with_of load_of
  store_with k s =
      rw (take-set (length ys) (all_steps latter (replicate 64 no_station) (take 64 ys)) k s, take_all 64 ys few, over_first (replicate 64 no_station) ys (rw length-replicate few))
      (all_steps-whole ys (set ys k s) (sym (length-set ys k s)))

  -- another table of as many stations
  pub store-loaded : (zs : List Station) → length zs ≡ length ys → store_of ys (load_of zs) ≡ zs
  unfolding store_of load_of
  store-loaded zs e =
      rw (take_all 64 zs (omega arith), over_first (replicate 64 no_station) zs (rw length-replicate (omega arith))) (all_steps-whole ys zs (sym e))
