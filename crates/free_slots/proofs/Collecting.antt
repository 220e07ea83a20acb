-- The free slots of a round, collected one slot after the other: what the loop holds after i slots, and what a free and an owned slot add.
-- Assumes nothing.
use mathlib.Core.Path.{◌≡◌, refl, ap, sym, ◌∙◌}
use mathlib.Core.Bool.{true, false}
use mathlib.Core.Logic.{◌≢◌}
use mathlib.Core.List.{List, [], ◌∷◌, ◌++◌, append-nil}
use Prim.Native.Nat.{ℕ, suc, ◌+◌, ◌≤◌, ◌<◌}
use native.Mathlib.Numerals.{add-one}
use native.Mathlib.Omega.{arith}
use borrow.Author.Tests.{eq-eqb, ne_eqb}
use lib.Dec.{eqb}
use lib.ListN.{length, get_or, set, replicate, length-append}
use Rattle.listlaws.specs.Lists.{padded}
use Rattle.listlaws.proofs.Beyond.{get_d_any}
use Rattle.listlaws.proofs.Padding.{pad_more}
use Rattle.rules.specs.Calendars.{free_entry, position_after}
use Rattle.coming_rules.specs.Planned.{position_in, entry_in, free_slots}
use Rattle.coming_rules.proofs.FreeSlots.{position-within, free-length, free-most}
use Rattle.free_slots.specs.Round.{free_round}

-- after i slots: the next one's position, and the free ones in the front of the array
pub record Collected (calendar : List ℕ) (position i count : ℕ) (slots : List ℕ) (p : ℕ) : Type 0 where
  pub start : position ≤ 23
  pub at : p ≡ position_in position i
  pub counted : count ≡ length (free_slots calendar position i)
  pub listed : slots ≡ padded 24 0 (free_slots calendar position i)

pub none_yet : (calendar : List ℕ) (position : ℕ) → position ≤ 23 → Collected calendar position 0 0 (replicate 24 0) position
none_yet calendar position h = record { start = h; at = refl; counted = refl; listed = refl }

module _ {calendar : List ℕ} {position i count : ℕ} {slots : List ℕ} {p : ℕ} (l : Collected calendar position i count slots p) where
  pub at_most : p ≤ 23
  at_most = rw l.at (position-within position l.start i)

  pub count_most : count ≤ i
  count_most = omega (arith, l.counted, free-length calendar position i, free-most calendar position i)

  -- the entry that the loop reads is the slot's
  entry_read : length calendar ≡ 24 → get_or calendar p 0 ≡ entry_in calendar position i
  entry_read w = let h : p < length calendar = omega (arith, at_most) in get_d_any calendar p 0 free_entry h ∙ ap (λ (k : ℕ). get_or calendar k free_entry) l.at

  -- the next slot: a free one, and an owned one
  module _ (w : length calendar ≡ 24) {count' : ℕ} {slots' : List ℕ} {p' : ℕ} (moved : p' ≡ position_after p) where
    pub free_more : i < 24 → get_or calendar p 0 ≡ free_entry → slots' ≡ set slots count i → count' ≡ count + 1
        → Collected calendar position (i + 1) count' slots' p'
    free_more h e stored one =
        let t : eqb (entry_in calendar position i) free_entry ≡ true = eq-eqb _ _ (sym (entry_read w) ∙ e) in
        let n : free_slots calendar position (suc i) ≡ free_slots calendar position i ++ (i ∷ []) = rw t in
        let k : length (free_slots calendar position i) < 24 = omega (arith, count_most, l.counted) in
        rw (add-one i)
        (record {
          start = l.start;
          at = moved ∙ ap position_after l.at;
          counted = one ∙ sym (ap length n ∙ length-append (free_slots calendar position i) (i ∷ []) ∙ ap (λ (x : ℕ). x + 1) (sym l.counted));
          listed =
              stored
              ∙ ap (λ (x : List ℕ). set x count i) l.listed
              ∙ ap (λ (x : ℕ). set (padded 24 0 (free_slots calendar position i)) x i) l.counted
              ∙ pad_more 24 0 (free_slots calendar position i) i k
              ∙ ap (padded 24 0) (sym n);
        })

    pub owned-more : get_or calendar p 0 ≢ free_entry → slots' ≡ slots → count' ≡ count → Collected calendar position (i + 1) count' slots' p'
    owned-more e kept same =
        let t : eqb (entry_in calendar position i) free_entry ≡ false = ne_eqb _ _ (λ z. e (entry_read w ∙ z)) in
        let n : free_slots calendar position (suc i) ≡ free_slots calendar position i = rw t (append-nil (free_slots calendar position i)) in
        rw (add-one i)
        (record {
          start = l.start;
          at = moved ∙ ap position_after l.at;
          counted = same ∙ l.counted ∙ ap length (sym n);
          listed = kept ∙ l.listed ∙ ap (padded 24 0) (sym n);
        })

  -- after 24 slots
  pub all_collected : i ≡ 24 → record { count = count; slots = slots } ≡ free_round calendar position
  unfolding free_round
  all_collected e = rw (l.counted, l.listed, e)
