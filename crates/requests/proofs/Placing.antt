-- A request placed in its minislot of a row, by the minislot's number: none, past the row, or there. Assumes nothing.
use mathlib.Core.Path.{◌≡◌, refl, sym, ap}
use mathlib.Core.List.{List}
use Prim.Native.Nat.{ℕ, zero, suc, ◌-◌, ◌≤◌, ◌<◌}
use native.Mathlib.Omega.{arith}
use lib.ListN.{length, get_or, set, length-set}
use lib.Seq.{set_out}
use Rattle.minislot.specs.declared.Minislot.{Minislot}
use Rattle.requests.specs.Together.{silent, joined, placed}

pub placed-none : (n : ℕ) (x : Minislot) (l : List Minislot) → n < 1 → l ≡ placed n x l
placed-none zero x l h = refl
placed-none (suc n) x l h = absurd (omega arith)

pub placed_past : (n : ℕ) (x : Minislot) (l : List Minislot) → length l < n → l ≡ placed n x l
placed_past zero x l h = refl
placed_past (suc n) x l h = sym (set_out l n (joined (get_or l n silent) x) (omega arith))

pub placed_at : (n : ℕ) (x : Minislot) (l : List Minislot) → 1 ≤ n → set l (n - 1) (joined (get_or l (n - 1) silent) x) ≡ placed n x l
placed_at zero x l h = absurd (omega arith)
placed_at (suc n) x l h = ap (λ (k : ℕ). set l k (joined (get_or l k silent) x)) (let e : suc n - 1 ≡ n = omega arith in e)

pub length-placed : (n : ℕ) (x : Minislot) (l : List Minislot) → length (placed n x l) ≡ length l
length-placed zero x l = refl
length-placed (suc n) x l = length-set l n (joined (get_or l n silent) x)
