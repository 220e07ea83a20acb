-- `put_answer` puts the form of each answer, which is its line. Assumes nothing.
use Rattle.answer_lines.proofs.AnswerForms.{refused-form, offer-form, hold-form, commit-form, withdraw-form, calendar-form, slot-line}
use Rattle.answer_lines.proofs.put_answer.Goals as goal

pub returns-in-Refused : goal.returns-in-Refused
returns-in-Refused c =
    let a = c.args in record {
      buffer = rw c.in-Refused.is (rw (refused-form a.call a.group a.c _) at c.put_number.ensures.buffer);
      reached = rw c.in-Refused.is (rw (refused-form a.call a.group a.c _) at c.put_number.ensures.reached);
    }

pub returns-in-Taken : goal.returns-in-Taken
returns-in-Taken c =
    let a = c.args in record {
      buffer = rw c.in-Taken.is (rw (offer-form a.call a.group a.c _) at c.put_number-in-Taken.ensures.buffer);
      reached = rw c.in-Taken.is (rw (offer-form a.call a.group a.c _) at c.put_number-in-Taken.ensures.reached);
    }

pub returns-in-OnHold : goal.returns-in-OnHold
returns-in-OnHold c =
    let a = c.args in record {
      buffer = rw c.in-OnHold.is (rw (hold-form a.call a.group a.c _) at c.put_number-in-OnHold.ensures.buffer);
      reached = rw c.in-OnHold.is (rw (hold-form a.call a.group a.c _) at c.put_number-in-OnHold.ensures.reached);
    }

pub returns-in-Committed : goal.returns-in-Committed
returns-in-Committed c =
    let a = c.args in record {
      buffer = rw c.in-Committed.is (rw (commit-form a.call a.group a.c _) at c.put_number-in-Committed.ensures.buffer);
      reached = rw c.in-Committed.is (rw (commit-form a.call a.group a.c _) at c.put_number-in-Committed.ensures.reached);
    }

pub returns-in-Withdrawn : goal.returns-in-Withdrawn
returns-in-Withdrawn c =
    let a = c.args in record {
      buffer = rw c.in-Withdrawn.is (rw (withdraw-form a.call a.group a.c _) at c.put_number-in-Withdrawn.ensures.buffer);
      reached = rw c.in-Withdrawn.is (rw (withdraw-form a.call a.group a.c _) at c.put_number-in-Withdrawn.ensures.reached);
    }

pub returns-in-Set : goal.returns-in-Set
returns-in-Set c =
    let a = c.args in record {
      buffer = rw c.in-Set.is (rw (calendar-form a.call a.group a.c) at c.put_form.ensures.buffer);
      reached = rw c.in-Set.is (rw (calendar-form a.call a.group a.c) at c.put_form.ensures.reached);
    }

pub returns-in-Went : goal.returns-in-Went
returns-in-Went c =
    let a = c.args in record {
      buffer = rw c.in-Went.is (rw (slot-line a.call a.group a.c _ _ _ _ _) at c.put_slot.ensures.buffer);
      reached = rw c.in-Went.is (rw (slot-line a.call a.group a.c _ _ _ _ _) at c.put_slot.ensures.reached);
    }
