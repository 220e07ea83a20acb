-- `after_round` meets its contract: by whether bytes are missing. Assumes nothing.
use mathlib.Core.Path.{sym, ◌∙◌}
use Rattle.round_steps.proofs.after_round.Goals as goal

pub returns-then-needs_bytes : goal.returns-then-needs_bytes
returns-then-needs_bytes c =
    let missing = sym c.needs_bytes.ensures ∙ c.if-needs_bytes.true in
    let wanted = c.wants_after-wants.ensures in record {
      input = rw missing c.keep_rest.ensures.buffer;
      run = rw (missing, wanted, c.keep_rest.ensures.count);
    }

pub returns : goal.returns
returns c =
    let missing = sym c.needs_bytes.ensures ∙ c.if-needs_bytes.false in
    let wanted = c.wants_after-wants.ensures in record {
      input = rw missing;
      run = rw (missing, wanted);
    }
