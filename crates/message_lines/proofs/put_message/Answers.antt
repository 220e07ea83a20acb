-- `put_message` puts the line of the message's condition. Assumes nothing.
use Rattle.message_lines.proofs.put_message.Goals as goal

pub returns-in-Free : goal.returns-in-Free
returns-in-Free c = record {
  buffer = rw c.in-Free.is c.put_free.ensures.buffer;
  reached = rw c.in-Free.is c.put_free.ensures.reached;
}

pub returns-in-Fresh : goal.returns-in-Fresh
returns-in-Fresh c = record {
  buffer = rw c.in-Fresh.is c.put_fresh.ensures.buffer;
  reached = rw c.in-Fresh.is c.put_fresh.ensures.reached;
}

pub returns-in-Asked : goal.returns-in-Asked
returns-in-Asked c = record {
  buffer = rw c.in-Asked.is c.put_asked.ensures.buffer;
  reached = rw c.in-Asked.is c.put_asked.ensures.reached;
}

pub returns-in-Resolving : goal.returns-in-Resolving
returns-in-Resolving c = record {
  buffer = rw c.in-Resolving.is c.put_resolving.ensures.buffer;
  reached = rw c.in-Resolving.is c.put_resolving.ensures.reached;
}

pub returns-in-Urgent : goal.returns-in-Urgent
returns-in-Urgent c = record {
  buffer = rw c.in-Urgent.is c.put_urgent.ensures.buffer;
  reached = rw c.in-Urgent.is c.put_urgent.ensures.reached;
}

pub returns-in-Long : goal.returns-in-Long
returns-in-Long c = record {
  buffer = rw c.in-Long.is c.put_long.ensures.buffer;
  reached = rw c.in-Long.is c.put_long.ensures.reached;
}

pub returns-in-Held : goal.returns-in-Held
returns-in-Held c = record {
  buffer = rw c.in-Held.is c.put_held.ensures.buffer;
  reached = rw c.in-Held.is c.put_held.ensures.reached;
}
