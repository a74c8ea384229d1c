-- `search::rounds::deepen` meets its contract. Invariant: the rounds left from the count so far are the whole. Assumes nothing.
use Rattle.std.proofs.Common.{◌≡◌, ◌+◌, ◌-◌, ◌≤◌, length}
use Rattle.search.specs.Memory.{Remembers}
use Rattle.search.specs.Packed.{instance_examination}
use Rattle.search.specs.Answer.{instance_rounds}
use Rattle.search.proofs.rounds.deepen.Given as goal

abbrev pub invariant-loop-d : goal.invariant-loop-d
invariant-loop-d l = (instance_rounds l.instance l.v.s l.v.d l.v.count ≡ instance_rounds l.instance l.v.s l.d l.c) × (l.c ≤ l.instance.constants.budget) × Remembers (instance_examination l.instance) l.instance.constants.budget l.memory × (length l.memory ≡ length l.initial.memory) × (l.d ≤ 256) × (length l.plan ≡ length l.initial.plan)

abbrev pub decreases-loop-d : goal.decreases-loop-d
decreases-loop-d l = l.instance.constants.limit + 1 - l.d
