-- `packed_task::applying::two_bytes` meets its contract. Assumes nothing.

use Rattle.packed_task.proofs.applying.two_bytes.Goals as goal

pub returns : goal.returns
returns c = rw (c.byte.ensures.0, c.byte-2.ensures.0)
