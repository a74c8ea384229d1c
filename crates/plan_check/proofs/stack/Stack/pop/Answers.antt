-- `Stack::pop`: none where none is in use, else the topmost. Assumes nothing.
use Rattle.plan_check.specs.Stack.{topmost_first, frame_at}
use Rattle.plan_check.proofs.Waiting.{topmost_goes}
use Rattle.plan_check.proofs.stack.Stack.pop.Goals as goal

pub returns-then-self-eq0-clause-topmost : goal.returns-then-self-eq0-clause-topmost
unfolding topmost_first
returns-then-self-eq0-clause-topmost c = rw (← c.self.view_is, c.if-self-eq0.true)

pub returns-then-self-eq0-clause-rest : goal.returns-then-self-eq0-clause-rest
unfolding topmost_first
returns-then-self-eq0-clause-rest c = rw (← c.self.view_is, c.if-self-eq0.true)

pub returns-clause-topmost : goal.returns-clause-topmost
unfolding frame_at
returns-clause-topmost c = rw (← c.self.view_is, topmost_goes c.self.inside.frames.now c.self.inside.used c.if-self-eq0.false)

pub returns-clause-rest : goal.returns-clause-rest
returns-clause-rest c = rw (← c.self.view_is, topmost_goes c.self.inside.frames.now c.self.inside.used c.if-self-eq0.false)
