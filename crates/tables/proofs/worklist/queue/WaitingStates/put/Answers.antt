-- `tables::worklist::queue::WaitingStates::put` meets its contract. Assumes nothing.
use Rattle.std.proofs.Common.{refl, arith}
use Rattle.tables.proofs.Queue.{put_room, put-again, put-new}
use Rattle.tables.proofs.worklist.queue.WaitingStates.put.Goals as goal

pub returns-then-self-j : goal.returns-then-self-j
returns-then-self-j g c = (put-again c.args.self.now.waits _ c.if-self-j.true, refl)

pub overflow_add-self : goal.overflow_add-self
overflow_add-self g c = let w = c.args.self.now.waits in omega (arith, put_room w _ c.requires c.if-self-j.false, w.states_few)

pub invariant_of-self : goal.invariant_of-self
invariant_of-self g c = let s = c.args.self.now in record { small = s.small; waits = s.waits }

pub invariant_of-self-2 : goal.invariant_of-self-2
invariant_of-self-2 g c = let s = c.args.self.now in record { small = s.small; waits = (put-new s.waits _ c.requires c.if-self-j.false).queue }

pub returns : goal.returns
returns g c = let s = c.args.self.now in (put-new s.waits _ c.requires c.if-self-j.false, refl)
