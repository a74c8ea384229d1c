-- `put_span`: the last words of the edges are stored. Assumes nothing.
use Rattle.std.proofs.Common.{◌-◌, ◌≤◌}
use Rattle.tables.specs.Made.{Spanned}
use Rattle.tables.proofs.worklist.edges.put_span.Given as goal

abbrev pub invariant-loop-e : goal.invariant-loop-e
invariant-loop-e l = (l.first ≤ l.e) × (l.e ≤ l.end) × Spanned l.initial.edges l.edges l.first l.e l.end

abbrev pub decreases-loop-e : goal.decreases-loop-e
decreases-loop-e l = l.end - l.e
