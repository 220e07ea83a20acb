-- Stations' slots gathered one after the other give what the channel's definition gathers of all of them: the row request by request, the data senders
-- counted, a lone one named. By induction on the results, the last one taken off. Assumes nothing.
use mathlib.Core.Path.{◌≡◌, refl, sym, ap, ◌∙◌}
use mathlib.Core.Bool.{Bool, true, false, cond}
use mathlib.Core.List.{List, [], ◌∷◌, ◌++◌, foldl, append-nil, append_assoc}
use Prim.Native.Nat.{ℕ, ◌+◌, ◌≤◌, ◌<◌}
use native.Mathlib.Omega.{arith}
use lib.Dec.{eqb}
use lib.ListN.{length, length-append}
use borrow.Author.Tests.{lt-ltb}
use Rattle.requests.specs.Together.{together}
use Rattle.listlaws.specs.Lists.{only_if}
use Rattle.rules.specs.declared.Sent.{Sent}
use Rattle.rules.specs.declared.SlotAnswer.{SlotAnswer}
use Rattle.rules.specs.declared.SlotAnswer.TheVariants.{Went, Refused}
use Rattle.rules.specs.declared.StationSlot.{StationSlot}
use Rattle.rules.specs.declared.Turn.{Turn}
use Rattle.channel_rules.specs.ChannelCalls.{speaks, new_row, DataSent, data_in, data_sent, lone_index, lone_segment, sent_of}
use Rattle.channel_rules.proofs.Gathering.{InRow, written, row_more, data_more, lone_index-more, lone_segment-more}
use Rattle.sending.specs.Gathered.{silence, one_more, with_data, gathered, gathered_by}

-- every request stands in one of the eight minislots
abbrev pub AllInRow : List StationSlot → Type 0
AllInRow [] = Unit {0}
AllInRow (r ∷ l) = InRow r.answer × AllInRow l

none-sent : silence ≡ sent_of []
unfolding silence together
none-sent = refl

-- not more data senders than stations
data_few : (r : StationSlot) → length (data_in r r.answer) ≤ 1
data_few r = go r.answer
  where
    only : (b : Bool) (x : DataSent) → length (only_if b (x ∷ [])) ≤ 1
    only true x = omega arith
    only false x = omega arith

    go : (a : SlotAnswer) → length (data_in r a) ≤ 1
    go (Went turn minislot segment) = only (speaks turn r.station.index segment) _
    go (Refused n) = omega arith

pub senders-few : (results : List StationSlot) → length (data_sent results) ≤ length results
senders-few [] = omega arith
senders-few (r ∷ l) =
    let e : length (data_sent (r ∷ l)) ≡ length (data_in r r.answer) + length (data_sent l) = length-append (data_in r r.answer) (data_sent l) in
    omega (arith, e, data_few r, senders-few l)

-- one station more
module _ (done : List StationSlot) (r : StationSlot) (few : length done < 255) (here : InRow r.answer) where
  abbrev data_with : SlotAnswer → Sent
  data_with a =
      record {
        minislots = new_row done 8 1;
        senders = length (data_sent done ++ data_in r a);
        index = lone_index (data_sent done ++ data_in r a);
        segment = lone_segment (data_sent done ++ data_in r a);
      }

  counts : one_more (length (data_sent done)) ≡ length (data_sent done) + 1
  unfolding one_more
  counts = rw (lt-ltb (length (data_sent done)) 255 (omega (arith, senders-few done)))

  with-data : (turn : Turn) (minislot segment : ℕ) → with_data turn r.station.index segment (sent_of done) ≡ data_with (Went turn minislot segment)
  unfolding with_data
  with-data turn minislot segment = go (speaks turn r.station.index segment)
    where
      x : DataSent
      x = record { index = r.station.index; segment = segment }

      go : (b : Bool) → cond b (record {
        minislots = new_row done 8 1;
        senders = one_more (length (data_sent done));
        index = cond (eqb (length (data_sent done)) 0) r.station.index 0;
        segment = cond (eqb (length (data_sent done)) 0) segment 0;
      }) (sent_of done)
          ≡ record {
            minislots = new_row done 8 1;
            senders = length (data_sent done ++ only_if b (x ∷ []));
            index = lone_index (data_sent done ++ only_if b (x ∷ []));
            segment = lone_segment (data_sent done ++ only_if b (x ∷ []));
          }
      go true = rw (counts, length-append (data_sent done) (x ∷ []), lone_index-more (data_sent done) x, lone_segment-more (data_sent done) x)
      go false = rw (append-nil (data_sent done))

  one_more_lem : gathered (sent_of done) r ≡ sent_of (done ++ (r ∷ []))
  unfolding gathered
  one_more_lem = go r.answer refl
    where
      last : (a : SlotAnswer) → r.answer ≡ a
          → record {
            minislots = written r a (new_row done 8 1);
            senders = length (data_sent done ++ data_in r a);
            index = lone_index (data_sent done ++ data_in r a);
            segment = lone_segment (data_sent done ++ data_in r a);
          } ≡ sent_of (done ++ (r ∷ []))
      last a e = rw (row_more done r here, data_more done r, e)

      go : (a : SlotAnswer) → r.answer ≡ a → gathered_by (sent_of done) r a ≡ sent_of (done ++ (r ∷ []))
      go (Went turn minislot segment) e = rw (with-data turn minislot segment) (last (Went turn minislot segment) e)
      go (Refused n) e = rw (← append-nil (data_sent done)) (last (Refused n) e)

gathers-from : (done results : List StationSlot) → length done + length results ≤ 255 → AllInRow results → foldl gathered (sent_of done) results ≡ sent_of (done ++ results)
gathers-from done [] h w = ap sent_of (sym (append-nil done))
gathers-from done (r ∷ l) h w =
    ap (λ (s : Sent). foldl gathered s l) (one_more_lem done r (omega arith) w.0)
    ∙ gathers-from (done ++ (r ∷ [])) l (rw (length-append done (r ∷ [])) (omega arith)) w.1
    ∙ ap sent_of (append_assoc done (r ∷ []) l)

-- THE STATIONS GATHERED FORWARD are the stations of the definition
pub gathers : (results : List StationSlot) → length results ≤ 64 → AllInRow results → foldl gathered silence results ≡ sent_of results
gathers results h w = ap (λ (s : Sent). foldl gathered s results) none-sent ∙ gathers-from [] results (omega arith) w
