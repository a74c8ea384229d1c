-- `met`: no fault was gathered and the cells to come are met, exactly if all of them are. Assumes nothing.
use Rattle.std.proofs.Common.{◌≡◌, ◌&&◌, eqb}
use Rattle.planning.specs.Task.{meets}
use Rattle.plan_check.proofs.cells.met.Given as goal

abbrev pub invariant-loop-y : goal.invariant-loop-y
invariant-loop-y l = (eqb l.bad 0 && meets l.y-iterator.a.rest.now l.y-iterator.b.rest.now) ≡ meets l.fn.cells l.fn.state
