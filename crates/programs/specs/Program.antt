-- A program that reads records and prints lines: `follow` (paper 01, "`follow`") and `rehearse`. `S` is what it knows between two records.
-- Bytes are numbers. Assumes nothing.
use Rattle.std.specs.Prelude.{List, ℕ}

-- what a record leads to: it goes through, with what is known after it and the lines it prints; or its number ends the output
pub data Result (S : Type 0) : Type 0 where
  Goes : S → List (List ℕ) → Result S
  Ends : ℕ → Result S

pub record Program (S : Type 0) : Type 0 where
  -- the most bytes of a record before its CR LF
  pub longest : ℕ
  -- no record prints more bytes than this
  pub room : ℕ
  -- the line that comes first
  pub header : List ℕ
  -- what is known before the first record, and the number of the record to come (from 1) by what is known
  pub begin : S
  pub place : S → ℕ
  -- a record, which is handed over without its CR LF
  pub step : S → List ℕ → Result S
