-- What a list of coming senders holds once its first slots are filled: the position and the place reached are those of the next slot, and each
-- slot passed has its sender. One slot more, owned or free; and the list when all are filled. Assumes nothing.
use mathlib.Core.Path.{◌≡◌, refl, sym, ap, ◌∙◌}
use mathlib.Core.Bool.{Bool, true, false, cond}
use mathlib.Core.List.{List, [], ◌∷◌}
use Prim.Native.Nat.{ℕ, suc, ◌+◌, ◌≤◌, ◌<◌}
use native.Mathlib.Numerals.{add-one}
use native.Mathlib.Omega.{arith}
use borrow.Author.Count.{below_none, below_more}
use borrow.Author.Tests.{eq-eqb, ne_eqb, eqb-false}
use lib.Dec.{eqb}
use lib.ListN.{length, get_or, set, length-set}
use lib.Seq.{get_or-set_same, get_or-set_other}
use Rattle.listlaws.specs.Lists.{tabulate}
use Rattle.listlaws.proofs.Beyond.{get_d_any}
use Rattle.rules.specs.Calendars.{free_entry, position_after}
use Rattle.coming_rules.specs.Planned.{position_in, entry_in, free_in, planned_at, planned_list}

-- the position stays within the calendar
position-within : (p : ℕ) → p ≤ 23 → position_after p ≤ 23
position-within p h = go (eqb p 23) refl
  where
    go : (b : Bool) → eqb p 23 ≡ b → cond b 0 (p + 1) ≤ 23
    go true e = omega arith
    go false e = let other : p ≡ 23 → ⊥ = eqb-false p 23 e in omega arith

one-or-none : (b : Bool) → cond b 1 0 ≤ 1
one-or-none true = omega arith
one-or-none false = omega arith

module _ (calendar : List ℕ) (position : ℕ) (served : ℕ → ℕ) where
  -- after i slots
  pub record Listed (list₀ list : List ℕ) (p place i : ℕ) : Type 0 where
    pub at : p ≡ position_in position i
    pub within : p ≤ 23
    pub next : place ≡ free_in calendar position i
    pub few : place ≤ i
    pub far : i ≤ length list
    pub same : length list ≡ length list₀
    pub senders : (j : ℕ) → j < i → get_or list j 0 ≡ planned_at calendar position served j

  pub listed-none : (list : List ℕ) → position ≤ 23 → Listed list list position 0 0
  listed-none list h =
      record { at = refl; within = h; next = refl; few = omega arith; far = omega arith; same = refl; senders = below_none _ }

  module _ (list₀ list : List ℕ) (p place i : ℕ) (l : Listed list₀ list p place i) (w : i < length list) (full : length calendar ≡ 24) where
    entry-is : get_or calendar p 0 ≡ entry_in calendar position i
    entry-is = get_d_any calendar p 0 free_entry (omega (arith, l.within)) ∙ ap (λ (k : ℕ). get_or calendar k free_entry) l.at

    -- the next slot, by whether it is free, with the places that it uses up
    more : (b : Bool) (x used p' : ℕ) → eqb (entry_in calendar position i) free_entry ≡ b → x ≡ cond b (served place) (get_or calendar p 0)
        → used ≡ cond b 1 0 → p' ≡ position_after p → Listed list₀ (set list i x) p' (place + used) (i + 1)
    more b x used p' e v u q =
        record {
          at = q ∙ ap position_after l.at ∙ ap (position_in position) (sym (add-one i));
          within = rw q (position-within p l.within);
          next = rw (add-one, e, l.next, u);
          few = omega (arith, l.few, u, one-or-none b);
          far = rw length-set (omega arith);
          same = length-set list i x ∙ l.same;
          senders = below_more _ i (λ j h. get_or-set_other list i j x 0 (λ z. omega arith) ∙ l.senders j h) (get_or-set_same list i x 0 w ∙ v ∙ rw (e, entry-is, l.next));
        }

    module _ (x used p' : ℕ) (q : p' ≡ position_after p) where
      pub listed_free : get_or calendar p 0 ≡ free_entry → x ≡ served place → used ≡ 1 → Listed list₀ (set list i x) p' (place + used) (i + 1)
      listed_free e v u = more true x used p' (eq-eqb _ _ (sym entry-is ∙ e)) v u q

      pub listed-owned : (get_or calendar p 0 ≡ free_entry → ⊥) → x ≡ get_or calendar p 0 → used ≡ 0 → Listed list₀ (set list i x) p' (place + used) (i + 1)
      listed-owned e v u = more false x used p' (ne_eqb _ _ (λ z. e (entry-is ∙ z))) v u q

  -- all of them
  pub listed-all : (list₀ list : List ℕ) (p place i : ℕ) → Listed list₀ list p place i → length list ≤ i → list ≡ planned_list calendar position served (length list₀)
  unfolding planned_list
  listed-all list₀ list p place i l h =
      list_all list (planned_at calendar position served) (λ j w. l.senders j (omega (arith, w, h)))
      ∙ ap (λ (n : ℕ). tabulate n (planned_at calendar position served)) l.same
    where
      list_all : (list : List ℕ) (f : ℕ → ℕ) → ((j : ℕ) → j < length list → get_or list j 0 ≡ f j) → list ≡ tabulate (length list) f
      list_all [] f g = refl
      list_all (x ∷ list) f g = rw (g 0 (omega arith), ← list_all list (λ j. f (suc j)) (λ j w. g (suc j) (omega arith)))
