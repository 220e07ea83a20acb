-- What is answered of a record whose line is put into a buffer: what became of it, what is known after it, and the place after the line.
-- Assumes nothing.
use Rattle.std.specs.Prelude.{List, ℕ}
use Rattle.programs.specs.Buffering.{place_after_lines}
use Rattle.following.specs.declared.Step.{Step}
use Rattle.following.specs.Following.{printed}
use Rattle.advances.specs.Advanced.{progress_of}
use Rattle.follower.specs.declared.Followed.{Followed}

-- the answer where a step's line is put into a buffer from place `at` on
abbrev pub followed : Step → List ℕ → ℕ → Followed
followed s buffer at =
    let after = place_after_lines buffer at (printed s.line) in
    record { progress = progress_of s.line; follower = s.follower; at = after }
