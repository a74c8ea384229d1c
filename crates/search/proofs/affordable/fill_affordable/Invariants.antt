-- `search::affordable::fill_affordable` meets its contract. Invariants: actions below m are entered in the sets of their weights (`Entering`), and
-- sets below d hold all that weighs no more (`Joining`). Assumes nothing.
use Rattle.std.proofs.Common.{◌-◌, ◌≤◌}
use Rattle.search.proofs.Affording.{Entering, Joining}
use Rattle.search.proofs.affordable.fill_affordable.Given as goal

abbrev pub invariant-loop-m : goal.invariant-loop-m
invariant-loop-m l = (l.m ≤ l.actions) × Entering l.task l.sets l.m

abbrev pub decreases-loop-m : goal.decreases-loop-m
decreases-loop-m l = l.actions - l.m

abbrev pub invariant-loop-d : goal.invariant-loop-d
invariant-loop-d l = Joining l.task l.sets l.actions l.d

abbrev pub decreases-loop-d : goal.decreases-loop-d
decreases-loop-d l = 256 - l.d
