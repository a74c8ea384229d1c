-- `search::examine::examine` and `search::examine::outcomes`, which call each other, meet their contracts. Invariant of the loop over the set of
-- actions: those left, from the count so far, are the whole examination (`Examining`). Invariant of the loop over outcomes: the result of the
-- outcomes left makes that of the whole row (`Following`). Both keep a memory that is true. The depth falls by the action's weight from
-- `outcomes` to `examine`. Assumes nothing.
use Rattle.std.proofs.Common.{◌≡◌, ◌+◌, ◌*◌, length}
use Rattle.search.proofs.Examining.{Examining, Following}
use Rattle.search.proofs.examine.+examine_outcomes.Given as goal

abbrev pub decreases-examine : goal.decreases-examine
decreases-examine l = l.v.d * 2 + 1

abbrev pub decreases-outcomes : goal.decreases-outcomes
decreases-outcomes l = l.v.d * 2

abbrev pub invariant-examine-loop-m : goal.invariant-examine-loop-m
invariant-examine-loop-m l = Examining l.instance l.v.s l.v.d l.v.count (l.m-iterator.0) l.c l.memory × (length l.memory ≡ length l.initial.memory)

abbrev pub invariant-outcomes-loop-k : goal.invariant-outcomes-loop-k
invariant-outcomes-loop-k l = Following l.instance l.v.s l.v.d l.m l.v.count l.left l.k-end l.k l.c l.n l.memory × (length l.memory ≡ length l.initial.memory)
