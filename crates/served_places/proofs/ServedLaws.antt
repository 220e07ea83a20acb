-- Who is served at each place, as the stations are gone through, is who has the place where no two messages have it: each message changes just
-- its own places, so that a place is its last holder's, and with one holder that is its first too. Assumes nothing.
use mathlib.Core.Path.{◌≡◌, refl, ap, ◌∙◌}
use mathlib.Core.Bool.{Bool, true, false, ◌&&◌, cond}
use mathlib.Core.List.{List, [], ◌∷◌, ◌++◌, foldl}
use mathlib.Core.Logic.{by_cases}
use Prim.Native.Nat.{ℕ, zero, suc, ◌+◌, ◌-◌, ◌≤◌, ◌<◌, min}
use native.Mathlib.Decide.{dec_lt}
use native.Mathlib.Omega.{arith}
use lib.Dec.{eqb, leb, ltb}
use lib.ListN.{length, get_or, set, length-set, length-replicate, get_or-replicate}
use lib.Seq.{get_or-set_same, get_or-set_other}
use borrow.Author.Tests.{eqb-true, eqb-false, leb-true, leb-false, ltb-true, ltb-false, le-leb, lt-leb, lt-ltb, le-ltb}
use Rattle.listlaws.specs.Lists.{only_if}
use Rattle.rules.specs.declared.Station.{Station}
use Rattle.rules.specs.declared.Condition.{Condition}
use Rattle.rules.specs.declared.Condition.TheVariants.{Free, Held, Fresh, Asked, Resolving, Urgent, Long}
use Rattle.message_places.specs.PlacesHad.{places_had, nobody_served}
use Rattle.coming_rules.specs.Coming.{nobody}
use Rattle.coming_rules.specs.Planned.{has_place, holders_of, first_of, served_at}
use Rattle.served_places.specs.Served.{put_of, put_message_of, put_station_of, served_of}
use Rattle.served_places.proofs.Putting.{length-put}

-- ---- an index put at places: it stands at each of them, and the others are as they were

module _ (x p : ℕ) where
  put-before : (l : List ℕ) (k n : ℕ) → p < k → get_or (put_of l k n x) p nobody ≡ get_or l p nobody
  put-before l k zero h = refl
  put-before l k (suc n) h = put-before (set l k x) (suc k) n (omega arith) ∙ get_or-set_other l k p x nobody (λ e. omega arith)

  put-after : (l : List ℕ) (k n : ℕ) → k + n ≤ p → get_or (put_of l k n x) p nobody ≡ get_or l p nobody
  put-after l k zero h = refl
  put-after l k (suc n) h = put-after (set l k x) (suc k) n (omega arith) ∙ get_or-set_other l k p x nobody (λ e. omega arith)

  put_in : (l : List ℕ) (k n : ℕ) → p < length l → k ≤ p → p < k + n → get_or (put_of l k n x) p nobody ≡ x
  put_in l k zero w h q = absurd (omega arith)
  put_in l k (suc n) w h q =
      go (eqb p k) refl (λ (far : k < p). put_in (set l k x) (suc k) n (rw length-set w) far (omega arith))
    where
      go : (b : Bool) → eqb p k ≡ b → (k < p → get_or (put_of (set l k x) (suc k) n x) p nobody ≡ x)
          → get_or (put_of (set l k x) (suc k) n x) p nobody ≡ x
      go true e next =
          let same : p ≡ k = eqb-true p k e in
          put-before (set l k x) (suc k) n (omega arith) ∙ rw same (get_or-set_same l k x nobody (omega arith))
      go false e next =
          let other : p ≡ k → ⊥ = eqb-false p k e in
          next (omega arith)

-- ---- a message's

module _ (w h index p : ℕ) (among : p < w) (l : List ℕ) (there : p < length l) where
  stretch-at : (k n : ℕ) → get_or (put_of l k (min n (w - k)) index) p nobody ≡ cond (leb k p && ltb p (k + n)) index (get_or l p nobody)
  stretch-at k n = go (leb k p) (ltb p (k + n)) refl refl
    where
      go : (b c : Bool) → leb k p ≡ b → ltb p (k + n) ≡ c → get_or (put_of l k (min n (w - k)) index) p nobody ≡ cond (b && c) index (get_or l p nobody)
      go true true e f =
          let lo = leb-true k p e in
          let hi = ltb-true p (k + n) f in
          put_in index p l k (min n (w - k)) there lo (omega (arith, lo, hi, among))
      go true false e f = let hi = ltb-false p (k + n) f in put-after index p l k (min n (w - k)) (omega (arith, hi))
      go false c e f = put-before index p l k (min n (w - k)) (leb-false k p e)

  -- one place is a stretch of one
  one_at : (k : ℕ) → get_or (put_of l k (min 1 (w - k)) index) p nobody ≡ cond (eqb p k) index (get_or l p nobody)
  one_at k = stretch-at k 1 ∙ ap (λ (b : Bool). cond b index (get_or l p nobody)) (go (eqb p k) refl)
    where
      go : (b : Bool) → eqb p k ≡ b → (leb k p && ltb p (k + 1)) ≡ b
      go true e = let same : p ≡ k = eqb-true p k e in rw (le-leb k p (omega arith), lt-ltb p (k + 1) (omega arith))
      go false e =
          let other : p ≡ k → ⊥ = eqb-false p k e in
          by_cases (dec_lt p k) (λ q. rw (lt-leb k p q)) (λ q. rw (le-leb k p (omega (arith, q)), le-ltb p (k + 1) (omega (arith, q))))

  -- of no places none is put
  none-at : get_or (put_of l 0 (min 0 (w - 0)) index) p nobody ≡ get_or l p nobody
  none-at = ap (λ (n : ℕ). get_or (put_of l 0 n index) p nobody) (let z : min 0 (w - 0) ≡ 0 = omega arith in z)

  message-at : (c : Condition) → get_or (put_message_of w h index l c) p nobody ≡ cond (has_place h p c) index (get_or l p nobody)
  unfolding put_message_of
  message-at Free = none-at
  message-at (Held t) = none-at
  message-at (Fresh t) = none-at
  message-at (Asked g j t) = none-at
  message-at (Resolving g i t) = none-at
  message-at (Urgent i) = one_at (i - 1)
  message-at (Long f n t) = stretch-at (h + (f - 1)) n

-- ---- all of them: a place is its last holder's

abbrev last_or : ℕ → List ℕ → ℕ
last_or d [] = d
last_or d (x ∷ l) = last_or x l

last-next : (d index : ℕ) (b : Bool) (l : List ℕ) → last_or (cond b index d) l ≡ last_or d (only_if b (index ∷ []) ++ l)
last-next d index true l = refl
last-next d index false l = refl

module _ (w h p : ℕ) (among : p < w) where
  length-message : (index : ℕ) (l : List ℕ) (c : Condition) → length (put_message_of w h index l c) ≡ length l
  unfolding put_message_of
  length-message index l c = length-put index l (places_had h c).first (min (places_had h c).count (w - (places_had h c).first))

  fold_at : (stations : List Station) (l : List ℕ) → p < length l
      → get_or (foldl (put_station_of w h) l stations) p nobody ≡ last_or (get_or l p nobody) (holders_of h p stations)
  unfolding put_station_of
  fold_at [] l q = refl
  fold_at (s ∷ stations) l q =
      let m = put_message_of w h s.index l s.short.condition in
      let far : p < length m = rw length-message q in
      fold_at stations (put_message_of w h s.index m s.long.condition) (rw length-message far)
      ∙ ap (λ (d : ℕ). last_or d (holders_of h p stations)) (message-at w h s.index p among m far s.long.condition ∙ ap (cond (has_place h p s.long.condition) s.index) (message-at w h s.index p among l q s.short.condition))
      ∙ last-next _ s.index (has_place h p s.long.condition) (holders_of h p stations)
      ∙ last-next _ s.index (has_place h p s.short.condition) _

-- ---- THE LIST OF SERVED: with one holder, the last is the first

last-first : (l : List ℕ) → length l ≤ 1 → last_or nobody l ≡ first_of l
last-first [] h = refl
last-first (x ∷ []) h = refl
last-first (x ∷ y ∷ l) h = absurd (omega arith)

pub served-is : (w h : ℕ) (stations : List Station) → w ≤ 1024 → ((k : ℕ) → length (holders_of h k stations) ≤ 1) → (k : ℕ) → k < w
    → get_or (served_of w h stations) k nobody ≡ served_at h stations k
unfolding served_of nobody_served served_at
served-is w h stations most one k among =
    let q : k < 1024 = omega (arith, most, among) in
    fold_at w h k among stations nobody_served (rw (length-replicate 1024 nobody) q)
    ∙ ap (λ (d : ℕ). last_or d (holders_of h k stations)) (get_or-replicate 1024 k nobody nobody q)
    ∙ last-first (holders_of h k stations) (one k)
