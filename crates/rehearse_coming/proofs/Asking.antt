-- What each way of the record comes to, as the definition has it: by what was read of it; and the line of a list that was lent, the first entries
-- of a room, of which none is used before the call. Assumes nothing.
use Rattle.std.specs.Prelude.{Option, Some, None}
use mathlib.Core.Path.{◌≡◌, refl, ap, ◌∙◌}
use mathlib.Core.List.{List, ◌∷◌, ◌++◌}
use Prim.Native.Nat.{ℕ, zero, suc, ◌≤◌, min}
use native.Mathlib.Omega.{arith}
use lib.ListN.{length, take, drop, replicate, length-replicate}
use lib.Seq.{take_at}
use Rattle.coming_lines.specs.ComingLines.{coming_line}
use Rattle.coming_rules.specs.declared.ComingAnswer.{ComingAnswer}
use Rattle.coming_rules.specs.Coming.{ComingResult, coming_of}
use Rattle.channel_coming.specs.Leaving.{leaves_coming}
use Rattle.channel_rules.specs.ChannelCalls.{Channel}
use Rattle.programs.specs.Program.{Ends}
use Rattle.rehearsing.specs.declared.Rehearsal.{Rehearsal}
use Rattle.rehearsing.specs.Rehearsing.{coming_with, coming_result}

module _ (r : Rehearsal) {fields : Option ℕ} where
  pub coming-broken : fields ≡ None → Ends 19 ≡ coming_result r fields
  unfolding coming_result
  coming-broken e = rw e

  pub coming-asked : {w : ℕ} → fields ≡ Some w → coming_with r w ≡ coming_result r fields
  unfolding coming_result
  coming-asked e = rw e

-- ---- the list that is lent

take-alike : (n k x : ℕ) → n ≤ k → take n (replicate k x) ≡ replicate n x
take-alike zero k x h = refl
take-alike (suc n) zero x h = absurd (omega arith)
take-alike (suc n) (suc k) x h = ap (λ (l : List ℕ). x ∷ l) (take-alike n k x (omega arith))

module _ (w count : ℕ) (room : List ℕ) (counted : count ≡ min w 1025) (unused : room ≡ replicate 1025 0) where
  lent-list : take count room ≡ replicate (min w 1025) 0
  lent-list = rw (unused, counted) (take-alike (min w 1025) 1025 0 (omega arith))

  -- it is as long as it is to be
  pub lent-size : count ≡ length (take count room)
  lent-size = rw lent-list (counted ∙ rw length-replicate)

  -- the line of what the call left in the room's first entries is the line of what it answered
  pub asked-line : (k : ℕ) (ch : Channel) (left : List ℕ) (answer : ComingAnswer) → length left ≡ length (take count room)
      → leaves_coming left answer ≡ coming_of ch (take count room)
      → coming_line k answer (take count (left ++ drop count room))
      ≡ coming_line k (coming_of ch (replicate (min w 1025) 0)).answer (coming_of ch (replicate (min w 1025) 0)).list
  asked-line k ch left answer size called =
      let e : take count (left ++ drop count room) ≡ left = take_at left (drop count room) count (omega (arith, size, lent-size)) in
      let f = rw lent-list at called in
      rw e (ap (λ (r : ComingResult). coming_line k r.answer r.list) f)
