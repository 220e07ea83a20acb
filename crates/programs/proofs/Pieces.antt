-- What does not depend on how the input is divided into reads, and that a whole input is read to its end; of any program:
-- `settled_advance`: a record that is whole, or broken, is read as it is whatever bytes come after it;
-- `further`: a record that went through lies inside the input, and the next begins after its start;
-- `asks-more`: where a record asks for more bytes some may come, few are there, and nothing was done;
-- `whole-input`: so where no byte comes after, no record asks for more.
-- Assumes nothing.
use mathlib.Core.Bool.{Bool, true, false, cond, true≢false}
use mathlib.Core.Path.{◌≡◌, refl, ap, sym, ◌∙◌}
use mathlib.Core.List.{List, [], ◌∷◌, ◌++◌}
use Prim.Native.Nat.{ℕ, zero, suc, ◌+◌, ◌-◌, ◌<◌, ◌≤◌}
use native.Mathlib.Omega.{arith}
use borrow.Author.Tests.{ltb-true, ltb-false}
use lib.Dec.{eqb, ltb}
use lib.ListN.{length, take, drop, length-drop}
use lib.Seq.{take-append-le, drop-append-le}
use Rattle.records.specs.Cutting.{cut_of, begins, goes_on, after_return}
use Rattle.records.specs.declared.Cut.{Cut}
use Rattle.records.specs.declared.Cut.TheVariants as cut
use Rattle.records.proofs.Cuts.{begins-none}
use Rattle.records.proofs.Streams.{settled, extent, enough_bytes, inside}
use Rattle.programs.specs.declared.Progress.TheVariants.{More, Done}
use Rattle.programs.specs.Program.{Result, Goes, Ends, Program}
use Rattle.programs.specs.Advancing as advancing
use Rattle.programs.specs.Advancing.{refused_advance, step_advance, stay_advance, advance_by, advance_of}

-- no cut but More is More
not_record : (end next : ℕ) → cut.More ≡ cut.Record end next → ⊥
not_record end next e = let z : ◌≡◌ {A = ℕ} 0 1 = cc in omega arith

not_done : cut.More ≡ cut.Done → ⊥
not_done e = let z : ◌≡◌ {A = ℕ} 0 1 = cc in omega arith

not-broken : cut.More ≡ cut.Broken → ⊥
not-broken e = let z : ◌≡◌ {A = ℕ} 0 1 = cc in omega arith

same-part : (bytes more : List ℕ) (start end : ℕ) → start ≤ end → end ≤ length bytes
    → take (end - start) (drop start (bytes ++ more)) ≡ take (end - start) (drop start bytes)
same-part bytes more start end h₁ h₂ =
    let k : start ≤ length bytes = omega arith in
    let l : end - start ≤ length (drop start bytes) = omega (arith, length-drop start bytes) in
    rw (drop-append-le start bytes more k, take-append-le (end - start) (drop start bytes) more l)

-- a record begins inside the bytes
record_there : (longest : ℕ) (bytes : List ℕ) (start : ℕ) (ended : Bool) (end next : ℕ) → cut_of longest bytes start ended ≡ cut.Record end next
    → start < length bytes
record_there longest bytes start ended end next e = go (ltb start (length bytes)) refl
  where
    none : (t : Bool) → cond t cut.Done cut.More ≡ cut.Record end next → ⊥
    none true z = let z₁ : ◌≡◌ {A = ℕ} 0 1 = cc in omega arith
    none false z = let z₁ : ◌≡◌ {A = ℕ} 0 1 = cc in omega arith

    go : (t : Bool) → ltb start (length bytes) ≡ t → start < length bytes
    go true h = ltb-true start (length bytes) h
    go false h = absurd (none ended (sym (begins-none ended start bytes longest (ltb-false start (length bytes) h)) ∙ e))

-- where no byte comes after, a record ends at the input's end at the latest
asks_more : Cut → Bool
asks_more (cut.Record end next) = false
asks_more cut.More = true
asks_more cut.Done = false
asks_more cut.Broken = false

return_whole : (at : ℕ) (l : List ℕ) → asks_more (after_return true at l) ≡ false
unfolding asks_more after_return
return_whole at [] = refl
return_whole at (b ∷ l) = go (eqb b 10)
  where
    go : (t : Bool) → asks_more (cond t (cut.Record at (at + 2)) cut.Broken) ≡ false
    go true = refl
    go false = refl

goes-whole : (at room : ℕ) (l : List ℕ) → asks_more (goes_on true at room l) ≡ false
unfolding asks_more goes_on
goes-whole at room [] = refl
goes-whole at zero (b ∷ l) = go (eqb b 13)
  where
    go : (t : Bool) → asks_more (cond t (after_return true at l) cut.Broken) ≡ false
    go true = return_whole at l
    go false = refl
goes-whole at (suc room) (b ∷ l) = go (eqb b 13) (eqb b 10) (goes-whole (at + 1) room l)
  where
    go : (t u : Bool) → asks_more (goes_on true (at + 1) room l) ≡ false
        → asks_more (cond t (after_return true at l) (cond u cut.Broken (goes_on true (at + 1) room l))) ≡ false
    go true u ih = return_whole at l
    go false true ih = refl
    go false false ih = ih

begins-whole : (longest at : ℕ) (l : List ℕ) → asks_more (begins longest true at l) ≡ false
unfolding asks_more begins
begins-whole longest at [] = refl
begins-whole longest at (b ∷ l) = goes-whole at longest (b ∷ l)

-- a record asks for more bytes only where some may come, and of few bytes
more-only : (longest : ℕ) (bytes : List ℕ) (start : ℕ) (ended : Bool) → cut_of longest bytes start ended ≡ cut.More
    → (ended ≡ false) × (length bytes - start ≤ suc longest)
unfolding asks_more cut_of
more-only longest bytes start true e =
    let z : true ≡ false = sym (ap asks_more e) ∙ begins-whole longest start (drop start bytes) in absurd (true≢false z)
more-only longest bytes start false e = (refl, enough_bytes longest bytes start e)

module _ {S : Type 0} (P : Program S) where
  module _ (s : S) (bytes more : List ℕ) (start : ℕ) (ended : Bool) where
    pub settled_advance : ((advance_of P s bytes start false).progress ≡ More → ⊥)
        → advance_of P s (bytes ++ more) start ended ≡ advance_of P s bytes start false
    unfolding advance_of
    settled_advance h = go (cut_of P.longest bytes start false) refl h
      where
        go : (c : Cut) → cut_of P.longest bytes start false ≡ c → ((advance_by P s bytes start c).progress ≡ More → ⊥)
            → advance_by P s (bytes ++ more) start (cut_of P.longest (bytes ++ more) start ended) ≡ advance_by P s bytes start c
        go (cut.Record end next) e h =
            let i = inside P.longest bytes start false end next e in
            rw (
              settled P.longest ended more (cut.Record end next) (not_record end next) bytes start e,
              same-part bytes more start end i.0 (omega (arith, i.1, i.2)),
            )
        go cut.More e h = absurd (h refl)
        go cut.Done e h = rw (settled P.longest ended more cut.Done not_done bytes start e)
        go cut.Broken e h = rw (settled P.longest ended more cut.Broken not-broken bytes start e)

  module _ (s : S) (bytes : List ℕ) (start : ℕ) (ended : Bool) where
    pub further : advancing.goes_on (advance_of P s bytes start ended).progress ≡ true
        → (start < (advance_of P s bytes start ended).next) × ((advance_of P s bytes start ended).next ≤ length bytes)
    unfolding advance_of
    further g = go (cut_of P.longest bytes start ended) refl g
      where
        over : (t : Bool) → advancing.goes_on (cond t (stay_advance P Done s start) (refused_advance P s 19 start)).progress ≡ true → ⊥
        over true e = let z : ◌≡◌ {A = ℕ} 0 1 = cc in omega arith
        over false e = let z : ◌≡◌ {A = ℕ} 0 1 = cc in omega arith

        -- the next record begins where the cut says, whatever the record leads to
        next-is : (r : Result S) (next : ℕ) → (step_advance P s r next).next ≡ next
        next-is (Goes after lines) next = refl
        next-is (Ends number) next = refl

        go : (c : Cut) → cut_of P.longest bytes start ended ≡ c → advancing.goes_on (advance_by P s bytes start c).progress ≡ true
            → (start < (advance_by P s bytes start c).next) × ((advance_by P s bytes start c).next ≤ length bytes)
        go (cut.Record end next) e g =
            let x = extent P.longest bytes start ended end next e in
            let t : start < length bytes = record_there P.longest bytes start ended end next e in
            let i : next ≤ start + (length bytes - start) = x.inside in
            let n = next-is (P.step s (take (end - start) (drop start bytes))) next in
            (omega (arith, n, x.onward (omega arith)), omega (arith, n))
        go cut.More e g = let z : ◌≡◌ {A = ℕ} 0 1 = cc in absurd (omega arith)
        go cut.Done e g = absurd (over (ltb 1 (P.place s)) g)
        go cut.Broken e g = let z : ◌≡◌ {A = ℕ} 0 1 = cc in absurd (omega arith)

  -- a record that asks for more bytes: nothing was done
  pub record Asks (s : S) (bytes : List ℕ) (start : ℕ) (ended : Bool) : Type 0 where
    pub stays : advance_of P s bytes start ended ≡ stay_advance P More s start
    pub unended : ended ≡ false
    pub few : length bytes - start ≤ suc P.longest

  pub asks-more : (s : S) (bytes : List ℕ) (start : ℕ) (ended : Bool) → (advance_of P s bytes start ended).progress ≡ More → Asks s bytes start ended
  unfolding advance_of
  asks-more s bytes start ended e = go (cut_of P.longest bytes start ended) refl e
    where
      went : (r : Result S) (next : ℕ) → (step_advance P s r next).progress ≡ More → ⊥
      went (Goes after lines) next e = let z : ◌≡◌ {A = ℕ} 0 1 = cc in omega arith
      went (Ends number) next e = let z : ◌≡◌ {A = ℕ} 0 1 = cc in omega arith

      over : (t : Bool) → (cond t (stay_advance P Done s start) (refused_advance P s 19 start)).progress ≡ More → ⊥
      over true e = let z : ◌≡◌ {A = ℕ} 0 1 = cc in omega arith
      over false e = let z : ◌≡◌ {A = ℕ} 0 1 = cc in omega arith

      go : (c : Cut) → cut_of P.longest bytes start ended ≡ c → (advance_by P s bytes start c).progress ≡ More → Asks s bytes start ended
      go (cut.Record end next) k e = absurd (went (P.step s (take (end - start) (drop start bytes))) next e)
      go cut.More k e =
          let m = more-only P.longest bytes start ended k in
          record { stays = ap (λ (c : Cut). advance_by P s bytes start c) k; unended = m.0; few = m.1 }
      go cut.Done k e = absurd (over (ltb 1 (P.place s)) e)
      go cut.Broken k e = let z : ◌≡◌ {A = ℕ} 0 1 = cc in absurd (omega arith)

  pub whole-input : (s : S) (bytes : List ℕ) (start : ℕ) → (advance_of P s bytes start true).progress ≡ More → ⊥
  whole-input s bytes start e = true≢false (asks-more s bytes start true e).unended
