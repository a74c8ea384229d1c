-- `search::rounds::run_large` meets its contract: no budget has more examinations than its rounds may make. Assumes nothing.
use Rattle.search.proofs.Conclusions.{always_ends}
use Rattle.search.proofs.rounds.run_large.Goals as goal

pub returns-in-Ok : goal.returns-in-Ok
returns-in-Ok c = rw c.in-Ok.is at c.run_with.ensures

pub returns-in-Err : goal.returns-in-Err
returns-in-Err c = always_ends c.args.instance.now.matching.ready.small_budget (rw c.in-Err.is at c.run_with.ensures)
