-- THE LAW OF A START: its records written over the lent table, its wire and its answer are those of the channel's definition. Assumes nothing.
use mathlib.Core.Path.{◌≡◌, refl, ◌∙◌}
use mathlib.Core.Bool.{Bool, true, false, cond}
use mathlib.Core.List.{List, [], ◌∷◌}
use Prim.Native.Nat.{ℕ, zero, suc, ◌<◌}
use native.Mathlib.Omega.{arith}
use lib.Dec.{eqb}
use lib.ListN.{length, get_or, length-map}
use borrow.Author.Tests.{eqb-true}
use Rattle.rules.specs.declared.Station.{Station}
use Rattle.rules.specs.declared.StartAnswer.TheVariants.{Ready}
use Rattle.rules.specs.declared.WireRow.{WireRow}
use Rattle.rules.specs.StationCalls.{start_station}
use Rattle.channel_rules.specs.ChannelCalls.{blank_wire, new_stations, new_channel, refused_beginning as refused_channel, channel_start_number_of, channel_start_of}
use Rattle.table.specs.Loading.{absent, load_of}
use Rattle.table.proofs.Loading.{store-none, store-loaded}
use Rattle.calls.specs.ByValue.{channel_of}
use Rattle.calls.proofs.ByValue.{few_true}
use Rattle.starts.specs.Starting.{no_beginning, beginning_of, start_left}
use Rattle.start_numbers.proofs.Numbers.{start-passed}

-- a record of a new table
pub new-at : (m n : ℕ) (indexes : List ℕ) (i : ℕ) → i < length indexes → get_or (new_stations m n indexes) i absent ≡ start_station m n (get_or indexes i 0)
new-at m n [] i h = absurd (omega arith)
new-at m n (x ∷ l) zero h = refl
new-at m n (x ∷ l) (suc i) h = new-at m n l i (omega arith)

module _ (ys : List Station) (wire : List WireRow) (m n : ℕ) (indexes : List ℕ) where
  pub start_is : start_left ys (beginning_of (length ys) wire m n indexes) ≡ channel_start_of (channel_of ys wire) m n indexes
  unfolding beginning_of channel_start_of
  start_is = go (eqb (channel_start_number_of (length ys) m n indexes) 0) refl
    where
      k : ℕ
      k = channel_start_number_of (length ys) m n indexes

      go : (b : Bool) → eqb k 0 ≡ b
          → start_left ys (cond b (record { loaded = load_of (new_stations m n indexes); reply = record { answer = Ready; wire = blank_wire } }) (no_beginning wire k))
          ≡ cond b (record { state = new_channel m n indexes; answer = Ready }) (refused_channel (channel_of ys wire) k)
      go true e =
          let p = start-passed (length ys) m n indexes (eqb-true k 0 e) in
          rw (store-loaded ys (few_true (length ys) p.0).1 (new_stations m n indexes) (length-map indexes (start_station m n) ∙ p.1))
      go false e = rw (store-none ys)
