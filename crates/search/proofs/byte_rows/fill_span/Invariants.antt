-- `search::byte_rows::fill_span` meets its contract. The loop's invariant: blocks below j are written. Assumes nothing.
use Rattle.std.proofs.Common.{◌-◌, ◌≤◌}
use Rattle.search.proofs.BlocksFilled.{Spanning}
use Rattle.search.proofs.byte_rows.fill_span.Given as goal

abbrev pub invariant-loop-j : goal.invariant-loop-j
invariant-loop-j l = (l.j ≤ l.span.count) × Spanning l.weights l.span.first l.span.count l.initial.sums l.sums l.span.at l.j

abbrev pub decreases-loop-j : goal.decreases-loop-j
decreases-loop-j l = l.span.count - l.j
