-- Every call keeps the relation and answers alike, refused or not; so does every list of calls after a start. Assumes nothing.
use mathlib.Core.Path.{◌≡◌, refl, sym, ap, ◌∙◌}
use mathlib.Core.Bool.{Bool, true, false, not, cond, ◌&&◌}
use mathlib.Core.List.{List, [], ◌∷◌}
use mathlib.Core.Logic.{◌≢◌}
use Prim.Native.Nat.{ℕ, zero, suc, ◌≤◌, ◌/◌, ◌%◌}
use native.Mathlib.Omega.{arith}
use lib.Dec.{leb, eqb}
use lib.ListN.{length, get_or}
use Rattle.rules.proofs.WriteStep.{refused, both, station-below, write_same}
use Rattle.rules.proofs.SlotStep.{and_both, slot_same, slot-answer, settled_eq, passes_eq, length-asking}
use Rattle.rules.proofs.Relation.{Agrees, Same, SameResult}
use Rattle.rules.proofs.Shared.{Table, table_start, table_refuse, table_set, table_call, table_settled, table_slot, table_row, table_success}
use Rattle.rules.proofs.Views.{seen}
use Rattle.rules.specs.Calls.{Start, Call, Write, Slot, Calendar}
use Rattle.rules.specs.Messages.{Message, of, short_record, long_record, record_of}
use Rattle.rules.proofs.Records.{holder, is_long_record}
use Rattle.rules.specs.Plain.{station_from, in_range, Plain, plain_start, plain_refuse, among, on_channel, plain_set, plain_call, overflows, asking_row, plain_settled, plain_slot}
use Rattle.rules.specs.Queueing.{passes}
use Rattle.rules.specs.StationLimits.{records_apart}
use borrow.Author.Tests.{leb-true, eqb-true, eqb-false}

-- picks that pass the test are in range, and so is the pick of nobody, 1
pub picks_ok : (m : ℕ) → 1 ≤ m → (l : List ℕ) → in_range m l ≡ true → (k : ℕ) → (1 ≤ get_or l k 1) × (get_or l k 1 ≤ m)
picks_ok m h [] e k = (omega arith, h)
picks_ok m h (x ∷ l) e zero =
    let (ab, c) = and_both (leb 1 x && leb x m) (in_range m l) e in
    let (a, b) = and_both (leb 1 x) (leb x m) ab in
    (leb-true 1 x a, leb-true x m b)
picks_ok m h (x ∷ l) e (suc k) = let (ab, c) = and_both (leb 1 x && leb x m) (in_range m l) e in picks_ok m h l c k

-- the start
nobody : (k m j i : ℕ) → seen (of k) (asking_row (λ z. 0) [] m j) i ≡ []
nobody k zero j i = refl
nobody k (suc m) j zero = refl
nobody k (suc m) j (suc i) = nobody k m (suc j) i

-- a message that a record might have, for one that never had any
abbrev unsent : ℕ → Message
unsent k = record { serial = 0; station = holder k; slots = cond (is_long_record k) 2 1 }

unsent_record : (k : ℕ) → record_of (unsent k) ≡ k
unfolding record_of
unsent_record k = go (eqb (k % 2) 0) refl
  where
    go : (b : Bool) → eqb (k % 2) 0 ≡ b → cond (eqb (cond (not b) 2 1) 1) (short_record (k / 2)) (long_record (k / 2)) ≡ k
    go true e = let w : k % 2 ≡ 0 = eqb-true (k % 2) 0 e in omega arith
    go false e = let w : k % 2 ≢ 0 = eqb-false (k % 2) 0 e in omega arith

unsent-slots : (k : ℕ) → (1 ≤ (unsent k).slots) × ((unsent k).slots ≤ 255)
unsent-slots k = go (is_long_record k)
  where
    go : (b : Bool) → (1 ≤ cond b 2 1) × (cond b 2 1 ≤ 255)
    go true = (omega arith, omega arith)
    go false = (omega arith, omega arith)

pub begin-same : (S : Start) → 1 ≤ S.n → Same S (plain_start S) table_start
unfolding records_apart
begin-same S h =
    record {
      h = refl;
      n = refl;
      rq = λ g. refl;
      opened = λ g. refl;
      next = refl;
      calendar = refl;
      position = refl;
      size = refl;
      owners = refl;
      free = refl;
      low = omega arith;
      high = h;
      rows = λ g. length-asking (λ z. 0) [] S.m 1;
      crowds = λ g. tt;
      message = unsent;
      agrees = λ k.
          record {
            mine = unsent_record k;
            some = (unsent-slots k).0;
            few = (unsent-slots k).1;
            held = refl;
            fresh = refl;
            urgent = λ i. refl;
            long = λ i. refl;
            asking = λ g i. nobody k S.m 1 i;
            resolution = λ g i. refl;
            owed = refl;
            fits = tt;
          };
      apart = λ k. refl;
      outside = λ k l. refl;
      strangers = λ k l. refl;
      numbered = tt;
      idle = λ g l. (refl, refl);
      hmax = omega arith;
      nmax = omega arith;
      rmax = λ g. omega arith;
    }

-- a calendar set: 24 entries, each free or a station's, some of them free. Nothing else changes
set_same : (S : Start) (p : Plain) (t : Table) (entries : List ℕ) → Same S p t → length entries ≡ 24 → on_channel S.indexes entries ≡ true
    → among entries 65535 ≡ true → SameResult S (plain_set p entries) (table_set t entries)
set_same S p t entries R size owners free =
    record {
      state =
          record {
            h = R.h;
            n = R.n;
            rq = R.rq;
            opened = R.opened;
            next = R.next;
            calendar = refl;
            position = R.position;
            size = size;
            owners = owners;
            free = free;
            low = R.low;
            high = R.high;
            rows = R.rows;
            crowds = R.crowds;
            message = R.message;
            agrees = λ k. stays k (R.agrees k);
            apart = R.apart;
            outside = R.outside;
            strangers = R.strangers;
            numbered = R.numbered;
            idle = R.idle;
            hmax = R.hmax;
            nmax = R.nmax;
            rmax = R.rmax;
          };
      answer = refl;
    }
  where
    stays : (k : ℕ) → Agrees S p k (R.message k) (t.condition k) → Agrees S (plain_set p entries).state k (R.message k) (t.condition k)
    stays k a =
        record {
          mine = a.mine;
          some = a.some;
          few = a.few;
          held = a.held;
          fresh = a.fresh;
          urgent = a.urgent;
          long = a.long;
          asking = a.asking;
          resolution = a.resolution;
          owed = a.owed;
          fits = a.fits;
        }

-- THE STEP: every call, refused or not, keeps the relation and answers alike
module _ (S : Start) (ml : 1 ≤ S.m) (p : Plain) (t : Table) (R : Same S p t) where
  slot-go : (picks : List ℕ) → in_range S.m picks ≡ true
      → SameResult S (cond (overflows (plain_settled p)) (plain_refuse p 7) (plain_slot S (λ k. get_or picks k 1) p))
      (cond (passes (table_settled S t)) (table_refuse t 7) (table_slot S (λ k. get_or picks k 1) t (table_row S t) (table_success t (table_row S t)) (table_settled S t)))
  slot-go picks b = go (passes (table_settled S t)) (ap passes (settled_eq S p t R) ∙ passes_eq (plain_settled p))
    where
      pick : ℕ → ℕ
      pick k = get_or picks k 1

      jl : (k : ℕ) → 1 ≤ get_or picks k 1
      jl k = (picks_ok S.m ml picks b k).0

      jh : (k : ℕ) → get_or picks k 1 ≤ S.m
      jh k = (picks_ok S.m ml picks b k).1

      go : (x : Bool) → x ≡ overflows (plain_settled p)
          → SameResult S (cond (overflows (plain_settled p)) (plain_refuse p 7) (plain_slot S (λ k. get_or picks k 1) p))
          (cond x (table_refuse t 7) (table_slot S (λ k. get_or picks k 1) t (table_row S t) (table_success t (table_row S t)) (table_settled S t)))
      go true e = rw (← e) (refused S p t 7 R)
      go false e = rw (← e) (record { state = slot_same S pick jl jh p t R (sym e); answer = slot-answer S pick jl jh p t R })

  set-go : (entries : List ℕ) → (eqb (length entries) 24 && on_channel S.indexes entries) ≡ true
      → SameResult S (cond (among entries 65535) (plain_set p entries) (plain_refuse p 21)) (cond (among entries 65535) (table_set t entries) (table_refuse t 21))
  set-go entries e =
      let (size, owners) = and_both (eqb (length entries) 24) (on_channel S.indexes entries) e in
      both S (among entries 65535) _ _ _ _ (λ a. set_same S p t entries R (eqb-true (length entries) 24 size) owners a) (λ a. refused S p t 21 R)

  pub call_same : (c : Call) → SameResult S (plain_call S p c) (table_call S t c)
  call_same (Write x w) = write_same S p t R w (station_from 0 S.indexes x) (λ k e. omega (arith, station-below S.indexes x 0 k e))
  call_same (Slot picks) =
      both S (eqb (length picks) (length S.indexes)) _ _ _ _
      (λ a. both S (in_range S.m picks) _ _ _ _ (λ b. slot-go picks b) (λ b. refused S p t 11 R))
      (λ a. refused S p t 17 R)
  call_same (Calendar entries) =
      both S (eqb (length entries) 24 && on_channel S.indexes entries) _ _ _ _
      (λ a. set-go entries a)
      (λ a. refused S p t 20 R)
