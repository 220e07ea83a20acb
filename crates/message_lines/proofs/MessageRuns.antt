-- What a loop keeps that puts several lines in a turn, and so the lines of one station after another. By the laws of a list's parts and of lines put one after
-- another. Assumes nothing.
use mathlib.Core.Path.{◌≡◌, ap, ◌∙◌}
use mathlib.Core.List.{List, ◌++◌}
use Prim.Native.Nat.{ℕ, ◌+◌, ◌<◌}
use lib.ListN.{length, get_or, drop}
use Rattle.std.specs.List.{flat_map}
use Rattle.listlaws.proofs.Loops.{rest}
use Rattle.programs.specs.Buffering.{put_lines, place_after_lines}
use Rattle.programs.proofs.LineRuns.{Run, lines-size, put-append, place-append}
use Rattle.rules.specs.declared.Station.{Station}

-- several lines more
run-lines : (more : List (List ℕ)) {b b' b'' : List ℕ} {lines rest rest' : List (List ℕ)} {i j k : ℕ} → Run b i lines b' j rest → rest ≡ more ++ rest'
    → (b'' ≡ put_lines b' j more) × (k ≡ place_after_lines b' j more) → Run b i lines b'' k rest'
run-lines more {b} {b'} {b''} {lines} {rest} {rest'} {i} {j} {k} r e w = record {
  size = ap length w.0 ∙ lines-size b' j more ∙ r.size;
  buffer = rw (w.0, w.1) (put-append more rest' b' j ∙ (rw e at r.buffer));
  reached = rw (w.0, w.1) (place-append more rest' b' j ∙ (rw e at r.reached));
}

-- one station's lines more
module _ (f : Station → List (List ℕ)) (stations : List Station) (i : ℕ) where
  pub run-station : (d : Station) → i < length stations → {b b' b'' : List ℕ} {lines : List (List ℕ)} {n j k : ℕ}
      → Run b n lines b' j (flat_map f (drop i stations))
      → (b'' ≡ put_lines b' j (f (get_or stations i d))) × (k ≡ place_after_lines b' j (f (get_or stations i d)))
      → Run b n lines b'' k (flat_map f (drop (i + 1) stations))
  run-station d h r w = run-lines (f (get_or stations i d)) r (ap (flat_map f) (rest stations i d h)) w
