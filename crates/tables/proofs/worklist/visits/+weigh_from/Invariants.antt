-- `weigh_from`: the word falls. Assumes nothing.
use Rattle.tables.proofs.worklist.visits.+weigh_from.Given as goal

abbrev pub decreases-weigh_from : goal.decreases-weigh_from
decreases-weigh_from l = l.s
