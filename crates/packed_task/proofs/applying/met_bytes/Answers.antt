-- `packed_task::applying::met_bytes` meets its contract. Assumes nothing.
use Rattle.std.proofs.Common.{arith}
use Rattle.packed_task.proofs.SetsFilled.{met_bytes_two, met_bytes_four, met_bytes_eight}
use Rattle.packed_task.proofs.applying.met_bytes.Goals as goal

pub returns-then-bytes-le2 : goal.returns-then-bytes-le2
returns-then-bytes-le2 c = (met_bytes_two _ c.if-bytes-le2.true, omega arith)

pub returns-then-bytes-le4 : goal.returns-then-bytes-le4
returns-then-bytes-le4 c = (met_bytes_four _ c.if-bytes-le2.false c.if-bytes-le4.true, omega arith)

pub returns : goal.returns
returns c = (met_bytes_eight _ c.if-bytes-le4.false, omega arith)
