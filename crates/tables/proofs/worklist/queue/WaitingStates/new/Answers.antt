-- `WaitingStates::new`: no state waits. Assumes nothing.
use Rattle.std.proofs.Common.{arith}
use Rattle.tables.proofs.Starting.{queue_empty}
use Rattle.tables.proofs.worklist.queue.WaitingStates.new.Goals as goal

pub invariant_of-result : goal.invariant_of-result
invariant_of-result g c = let p = c.requires in record { small = omega (arith, p.1, p.4); waits = queue_empty _ _ p.0 (omega (arith, p.0, p.1)) }
