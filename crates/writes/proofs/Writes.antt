-- THE LAW OF A WRITING: its records written over the lent table, its wire and its answer are those of the channel's definition. Assumes nothing.
use mathlib.Core.Path.{◌≡◌, refl, ap, ◌∙◌}
use mathlib.Core.Bool.{Bool, true, false, cond}
use mathlib.Core.List.{List}
use mathlib.Core.Logic.{by_cases}
use Prim.Native.Nat.{ℕ, ◌≤◌, ◌<◌}
use native.Mathlib.Omega.{arith}
use native.Mathlib.Decide.{dec_lt}
use lib.Dec.{eqb}
use lib.ListN.{length, get_or, set}
use borrow.Author.Tests.{eqb-true}
use Rattle.rules.specs.declared.Station.{Station}
use Rattle.rules.specs.declared.WireRow.{WireRow}
use Rattle.rules.specs.StationCalls.{no_station}
use Rattle.rules.specs.declared.Writing.{Writing}
use Rattle.rules.specs.Calls.{writing_answer}
use Rattle.rules.specs.Writing.{writing_total_of, written_of}
use Rattle.channel_rules.specs.Soundness.{position_of}
use Rattle.channel_rules.specs.ChannelCalls.{refused, written_at, channel_write_number_of, channel_write_of}
use Rattle.table.specs.Loading.{absent, load_of}
use Rattle.table.proofs.Loading.{load-count, store_with}
use Rattle.calls.specs.ByValue.{channel_of, array_channel}
use Rattle.calls.proofs.ByValue.{many_false, array_at, load_full, array-loaded, array-many, refused-left}
use Rattle.calls.specs.declared.Decided.{Decided}
use Rattle.calls.specs.Replies.{refused_decided, decided_left}
use Rattle.writes.specs.Written.{written_to, decided_of}
use Rattle.write_numbers.proofs.Numbers.{write-passed, write_14}

module _ (ys : List Station) (wire : List WireRow) (index : ℕ) (w : Writing) where
  -- station k is written
  written : length ys ≤ 64 → (k : ℕ) → k < length ys → decided_left ys (written_to (load_of ys).stations (load_of ys).count wire k w) ≡ written_at (channel_of ys wire) k w
  written few k h =
      ap (λ (l : List Station). record { state = channel_of l wire; answer = writing_answer w (writing_total_of (get_or (load_of ys).stations k absent) w) })
      (store_with ys few k (written_of (get_or (load_of ys).stations k absent) w))
      ∙ ap (λ (s : Station). record { state = channel_of (set ys k (written_of s w)) wire; answer = writing_answer w (writing_total_of s w) }) same
    where
      same : get_or (load_of ys).stations k absent ≡ get_or ys k no_station
      same =
          array_at (load_of ys).stations (load_of ys).count (load_full ys) (rw (load-count ys) few) k (rw (load-count ys) h)
          ∙ ap (λ (l : List Station). get_or l k no_station) (array-loaded ys few)

  abbrev decided : ℕ → List Station → Decided
  decided n t =
      cond (eqb n 0) (written_to (load_of ys).stations (load_of ys).count wire (position_of index t) w) (refused_decided wire n)

  few-is : length ys ≤ 64 → decided_left ys (decided (channel_write_number_of (channel_of ys wire) index w) ys) ≡ channel_write_of (channel_of ys wire) index w
  unfolding channel_write_of
  few-is few = go (eqb number 0) refl
    where
      number : ℕ
      number = channel_write_number_of (channel_of ys wire) index w

      go : (b : Bool) → eqb number 0 ≡ b
          → decided_left ys (cond b (written_to (load_of ys).stations (load_of ys).count wire (position_of index ys) w) (refused_decided wire number))
          ≡ cond b (written_at (channel_of ys wire) (position_of index ys) w) (refused (channel_of ys wire) number)
      go true e = written few (position_of index ys) (write-passed (channel_of ys wire) index w (eqb-true number 0 e)).known
      go false e = refused-left ys wire number

  many_is : 64 < length ys → decided_left ys (decided_of (load_of ys).stations (load_of ys).count wire index w) ≡ channel_write_of (channel_of ys wire) index w
  unfolding decided_of channel_write_of
  many_is h =
      rw (
        ← write_14 (array_channel (load_of ys).stations (load_of ys).count wire) index w (rw (array-many ys) (many_false (length ys) h)),
        ← write_14 (channel_of ys wire) index w (many_false (length ys) h),
      )
      (refused-left ys wire 14)

  pub write-is : decided_left ys (decided_of (load_of ys).stations (load_of ys).count wire index w) ≡ channel_write_of (channel_of ys wire) index w
  unfolding decided_of
  write-is =
      by_cases (dec_lt 64 (length ys)) many_is
      (λ h.
      ap (λ (t : List Station). decided_left ys (decided (channel_write_number_of (channel_of t wire) index w) t)) (array-loaded ys (omega arith))
      ∙ few-is (omega arith))
