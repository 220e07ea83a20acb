-- Messages and their segments, as the plain channel keeps them: every message taken is told apart from every other for ever; and the
-- message records that hold them (paper 02, T-04). Assumes nothing.
use Rattle.std.specs.Prelude.{cond, List, [], ◌∷◌, ℕ, zero, suc, ◌+◌, eqb}
use Rattle.listlaws.specs.Lists.{keep_if}

-- one message taken: a serial of its own, the station that holds it (its position in the table, from 0), its slots
pub record Message : Type 0 where
  pub serial : ℕ
  pub station : ℕ
  pub slots : ℕ

-- one slot's worth of a message: an entry of the long queue and of the history
pub record Segment : Type 0 where
  pub message : Message
  pub number : ℕ

abbrev pub segment : Message → ℕ → Segment
segment m n = record { message = m; number = n }

-- the segments s, s + 1, .. of a message, n of them
abbrev pub segments_from : Message → ℕ → ℕ → List Segment
segments_from m zero s = []
segments_from m (suc n) s = segment m s ∷ segments_from m n (suc s)

-- the message records of a channel, numbered station by station: station k's short one, then its long one
abbrev pub short_record : ℕ → ℕ
short_record k = k + k

abbrev pub long_record : ℕ → ℕ
long_record k = suc (k + k)

-- the record that holds a message: its slots say which of its station's two
unfoldable pub record_of : Message → ℕ
record_of m = cond (eqb m.slots 1) (short_record m.station) (long_record m.station)

-- the entries of a list whose key is k; the messages of record k in a list; what was delivered of record k
abbrev pub of_by {ℓ} : {A : Type ℓ} → (A → ℕ) → ℕ → List A → List A
of_by key k [] = []
of_by key k (m ∷ l) = keep_if (eqb (key m) k) m (of_by key k l)

abbrev pub of : ℕ → List Message → List Message
of k l = of_by (λ m. record_of m) k l

abbrev pub delivered_of : ℕ → List Segment → List Segment
delivered_of k l = of_by (λ s. record_of s.message) k l

-- the deliveries of the message with serial x
abbrev pub delivered_for : ℕ → List Segment → List Segment
delivered_for x l = of_by (λ s. s.message.serial) x l
