-- `search::rounds::run_from`, which calls itself where the count has passed the small memory, meets its contract: the rounds that are left are the whole. Assumes nothing.
use Rattle.std.proofs.Common.{◌-◌}
use Rattle.search.proofs.rounds.+run_from.Given as goal

abbrev pub decreases-run_from : goal.decreases-run_from
decreases-run_from l = 1025 - l.v.count
