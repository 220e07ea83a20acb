-- A row read pair by pair is `row_of`. `go_row k ws cs ps` is what the reader answers with k pairs read, the words ws and the counts cs, and the parts ps to come;
-- `go-row` says it in the words of the definition, for all parts at once, and the laws after it say it for each way that a pair can go.
-- Assumes nothing.
use Rattle.std.specs.Prelude.{Option, Some, None}
use mathlib.Core.Bool.{Bool, true, false, cond, ◌&&◌, and-false, and-true, true≢false}
use mathlib.Core.Path.{◌≡◌, refl, ap, ◌∙◌}
use mathlib.Core.List.{List, [], ◌∷◌, map}
use Prim.Native.Nat.{ℕ, zero, suc, ◌+◌, ◌*◌, ◌<◌, ◌≤◌}
use native.Mathlib.Omega.{arith}
use borrow.Author.Tests.{le-leb, lt-leb}
use lib.Dec.{leb, eqb}
use lib.ListN.{length, drop, set, replicate, length-map}
use lib.Seq.{sets}
use Rattle.fields.specs.Fields.{onto, parts, every, is_field, numeral, well_formed, fields_of}
use Rattle.fields.specs.Steps.{none}
use Rattle.row_fields.specs.Steps.{is_word, is_count, after_word, pair_of}
use Rattle.row_fields.specs.Row.{words_of, counts_of, within_range, first_ones, row_with, row_from, row_of}
use Rattle.row_fields.specs.declared.Pair.{Pair}
use Rattle.row_fields.specs.declared.Pair.TheVariants.{Both, Odd}
use Rattle.row_fields.specs.declared.RowFields.{RowFields}
use Rattle.fields.proofs.FieldReads.{none_true, parts-after}

pub go_row : ℕ → List ℕ → List ℕ → List (List ℕ) → Option RowFields
go_row k ws cs [] = Some (row_with (k * 2) ws cs)
go_row k ws cs (p ∷ []) = cond (is_word p) (Some (row_with (k * 2 + 1) (set ws k (numeral p)) cs)) None
go_row k ws cs (p ∷ q ∷ ps) =
    cond (is_word p && is_count q) (go_row (suc k) (set ws k (numeral p)) (set cs k (numeral q)) ps) None

-- the tests of a pair, gathered as the definition has them
gather : {A : Type 0} (a b c d e w : Bool) (x y : A)
    → cond ((a && b) && (c && d)) (cond (e && w) x y) y ≡ cond ((a && (c && e)) && (b && (d && w))) x y
gather false b c d e w x y = refl
gather true false c d e w x y = rw (and-false (c && e))
gather true true false d e w x y = refl
gather true true true false e w x y = rw (and-false e)
gather true true true true e w x y = refl

pub go-row : (k : ℕ) (ws cs : List ℕ) (ps : List (List ℕ))
    → go_row k ws cs ps
    ≡ cond (every is_field ps && within_range (map numeral ps))
    (Some (row_with (k * 2 + length ps) (sets ws k (words_of (map numeral ps))) (sets cs k (counts_of (map numeral ps)))))
    None
unfolding go_row every within_range words_of counts_of is_word is_count
go-row k ws cs [] = let z : k * 2 + 0 ≡ k * 2 = omega arith in rw z
go-row k ws cs (p ∷ []) = rw (and-true (is_field p))
go-row k ws cs (p ∷ q ∷ ps) =
    let z : suc k * 2 + length ps ≡ k * 2 + suc (suc (length ps)) = omega arith in
    rw (go-row (suc k) (set ws k (numeral p)) (set cs k (numeral q)) ps, z)
    (gather (is_field p) (leb (numeral p) 65535) (is_field q) (leb (numeral q) 255) (every is_field ps) (within_range (map numeral ps)) _ _)

-- stores from the first place on, over zeros
sets-suc : (x : ℕ) (l : List ℕ) (i : ℕ) (vs : List ℕ) → sets (x ∷ l) (suc i) vs ≡ x ∷ sets l i vs
sets-suc x l i [] = refl
sets-suc x l i (v ∷ vs) = sets-suc x (set l i v) (suc i) vs

sets_nil : (i : ℕ) (vs : List ℕ) → sets [] i vs ≡ []
sets_nil i [] = refl
sets_nil i (v ∷ vs) = sets_nil (suc i) vs

pub sets-ones : (n : ℕ) (vs : List ℕ) → sets (replicate n 0) 0 vs ≡ first_ones n vs
unfolding first_ones
sets-ones zero vs = sets_nil 0 vs
sets-ones (suc n) [] = ap (λ (l : List ℕ). 0 ∷ l) (sets-ones n [])
sets-ones (suc n) (v ∷ vs) = sets-suc v (replicate n 0) 0 vs ∙ ap (λ (l : List ℕ). v ∷ l) (sets-ones n vs)

module _ (bytes : List ℕ) where
  pub row-long : 128 < length bytes → row_of bytes ≡ None
  unfolding row_of well_formed
  row-long h = rw (lt-leb (length bytes) 128 h)

  pub row-start : length bytes ≤ 128 → go_row 0 (replicate 8 0) (replicate 8 0) (parts bytes) ≡ row_of bytes
  unfolding row_of row_from well_formed fields_of
  row-start h =
      let z : 0 + length (parts bytes) ≡ length (parts bytes) = omega arith in
      go-row 0 (replicate 8 0) (replicate 8 0) (parts bytes)
      ∙ rw (z, sets-ones 8 (words_of (map numeral (parts bytes))), sets-ones 8 (counts_of (map numeral (parts bytes))), le-leb (length bytes) 128 h, length-map)

-- how many parts there can be
parts-onto : (b n : ℕ) (ps : List (List ℕ)) → length ps ≤ suc n → length (onto b ps) ≤ suc n
unfolding onto
parts-onto b n [] h = omega arith
parts-onto b n (p ∷ ps) h = h

parts-cond : (t : Bool) (b n : ℕ) (ps : List (List ℕ)) → length ps ≤ suc n → length (cond t ([] ∷ ps) (onto b ps)) ≤ suc (suc n)
parts-cond true b n ps h = omega arith
parts-cond false b n ps h = let k : length (onto b ps) ≤ suc n = parts-onto b n ps h in omega arith

pub parts-count : (l : List ℕ) → length (parts l) ≤ suc (length l)
unfolding parts
parts-count [] = omega arith
parts-count (b ∷ l) = parts-cond (eqb b 44) b (length l) (parts l) (parts-count l)

-- the ways of a pair
pub row-broken : (at k : ℕ) (ws cs : List ℕ) (ps : List (List ℕ)) → none ps ≡ false → pair_of at ps ≡ None → go_row k ws cs ps ≡ None
unfolding go_row pair_of after_word none
row-broken at k ws cs [] n e = absurd (true≢false n)
row-broken at k ws cs (p ∷ []) n e = go (is_word p) refl e
  where
    go : (t : Bool) → is_word p ≡ t → cond {A = Option Pair} t (Some (Odd (numeral p))) None ≡ None → go_row k ws cs (p ∷ []) ≡ None
    go true f h = cc
    go false f h = rw f
row-broken at k ws cs (p ∷ q ∷ ps) n e = go (is_word p) (is_count q) refl refl e
  where
    go : (t u : Bool) → is_word p ≡ t → is_count q ≡ u
        → cond {A = Option Pair} t (cond u (Some (Both (numeral p) (numeral q) (at + length p + 1 + length q + 1) (none ps))) None) None ≡ None
        → go_row k ws cs (p ∷ q ∷ ps) ≡ None
    go true true f g h = cc
    go true false f g h = rw (f, g)
    go false u f g h = rw f

row_odd : (at k w : ℕ) (ws cs : List ℕ) (ps : List (List ℕ)) → pair_of at ps ≡ Some (Odd w) → go_row k ws cs ps ≡ Some (row_with (k * 2 + 1) (set ws k w) cs)
unfolding go_row pair_of after_word
row_odd at k w ws cs [] e = cc
row_odd at k w ws cs (p ∷ []) e = go (is_word p) refl e
  where
    go : (t : Bool) → is_word p ≡ t → cond {A = Option Pair} t (Some (Odd (numeral p))) None ≡ Some (Odd w) → go_row k ws cs (p ∷ []) ≡ Some (row_with (k * 2 + 1) (set ws k w) cs)
    go true f h = let v : numeral p ≡ w = cc in rw (f, v)
    go false f h = cc
row_odd at k w ws cs (p ∷ q ∷ ps) e = go (is_word p) (is_count q) e
  where
    go : (t u : Bool) → cond {A = Option Pair} t (cond u (Some (Both (numeral p) (numeral q) (at + length p + 1 + length q + 1) (none ps))) None) None ≡ Some (Odd w)
        → go_row k ws cs (p ∷ q ∷ ps) ≡ Some (row_with (k * 2 + 1) (set ws k w) cs)
    go true true h = cc
    go true false h = cc
    go false u h = cc

-- the same, of the row that is answered: its number of fields, and its words
pub odd_answered : (at k w n : ℕ) (us ws cs : List ℕ) (ps : List (List ℕ)) → pair_of at ps ≡ Some (Odd w) → n ≡ k * 2 + 1 → us ≡ set ws k w → Some (row_with n us cs) ≡ go_row k ws cs ps
odd_answered at k w n us ws cs ps e f g = rw (row_odd at k w ws cs ps e, f, g)

-- a pair was read: the first two parts are one
pub record Paired (at : ℕ) (ps : List (List ℕ)) (w c n : ℕ) (last : Bool) : Type 0 where
  pub first : List ℕ
  pub second : List ℕ
  pub rest : List (List ℕ)
  pub these : ps ≡ first ∷ second ∷ rest
  pub good : (is_word first && is_count second) ≡ true
  pub word : numeral first ≡ w
  pub count : numeral second ≡ c
  pub next : at + length first + 1 + length second + 1 ≡ n
  pub ends : none rest ≡ last

pub was_paired : (at : ℕ) (ps : List (List ℕ)) (w c n : ℕ) (last : Bool) → pair_of at ps ≡ Some (Both w c n last) → Paired at ps w c n last
unfolding pair_of after_word
was_paired at [] w c n last e = cc
was_paired at (p ∷ []) w c n last e = go (is_word p) e
  where
    go : (t : Bool) → cond {A = Option Pair} t (Some (Odd (numeral p))) None ≡ Some (Both w c n last) → Paired at (p ∷ []) w c n last
    go true h = cc
    go false h = cc
was_paired at (p ∷ q ∷ ps) w c n last e = go (is_word p) (is_count q) refl refl e
  where
    go : (t u : Bool) → is_word p ≡ t → is_count q ≡ u
        → cond {A = Option Pair} t (cond u (Some (Both (numeral p) (numeral q) (at + length p + 1 + length q + 1) (none ps))) None) None ≡ Some (Both w c n last)
        → Paired at (p ∷ q ∷ ps) w c n last
    go true true f g h = record { first = p; second = q; rest = ps; these = refl; good = rw (f, g); word = cc; count = cc; next = cc; ends = cc }
    go true false f g h = cc
    go false u f g h = cc

module _ {at w c n : ℕ} {last : Bool} {ps : List (List ℕ)} (r : Paired at ps w c n last) where
  pub row-both : (k : ℕ) (ws cs : List ℕ) → go_row k ws cs ps ≡ go_row (k + 1) (set ws k w) (set cs k c) r.rest
  unfolding go_row
  row-both k ws cs = let z : k + 1 ≡ suc k = omega arith in rw (r.these, r.good, r.word, r.count, z)

  pub row_last : last ≡ true → (k : ℕ) (ws cs : List ℕ) → go_row k ws cs ps ≡ Some (row_with ((k + 1) * 2) (set ws k w) (set cs k c))
  unfolding go_row
  row_last e k ws cs = row-both k ws cs ∙ rw (none_true r.rest (r.ends ∙ e))

  pub two_fewer : length ps ≡ suc (suc (length r.rest))
  two_fewer = ap length r.these

pub pair-next : (bytes : List ℕ) {at w c n : ℕ} {last : Bool} (r : Paired at (parts (drop at bytes)) w c n last) → last ≡ false
    → parts (drop n bytes) ≡ r.rest
unfolding none
pair-next bytes {at} r e =
    let one : parts (drop (at + length r.first + 1) bytes) ≡ r.second ∷ r.rest
    = parts-after bytes at r.first (r.second ∷ r.rest) r.these refl in
    rw (← r.next) (parts-after bytes (at + length r.first + 1) r.second r.rest one (r.ends ∙ e))
