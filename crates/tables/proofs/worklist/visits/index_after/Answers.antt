-- `tables::worklist::visits::index_after` meets its contract. Assumes nothing.
use Rattle.std.proofs.Common.{◌≡◌, ◌+◌, arith}
use lib.Bits.{bit_and}
use Rattle.tables.specs.Steps.{weigh}
use Rattle.tables.specs.Edges.{edge_lanes, lane_after, edge_free, lane_sum}
use Rattle.tables.specs.Visits.{way_forward}
use Rattle.tables.proofs.Asking.{weigh_apart}
use Rattle.tables.proofs.worklist.visits.index_after.Goals as goal
use Rattle.tables.proofs.worklist.visits.index_after.Goals.{then-edge-ne0, else-edge-ne0}

pub returns : goal.returns
unfolding way_forward
returns c = let a = c.args in let es = a.edges.now in let ws = a.weights.now in
    let x = rw c.one.ensures at c.sum.ensures.0 in let y = rw c.two.ensures at c.sum-2.ensures.0 in
    let q : c.if-edge-ne0.free ≡ lane_sum (edge_lanes es a.e) a.s + lane_sum (lane_after (edge_lanes es a.e)) a.s + weigh ws (bit_and a.s (edge_free es a.e)) =
    elim c.if-edge-ne0.branch [
      | then-edge-ne0 w ↦ let z = w.weigh_from-free.ensures.0 in omega (arith, w.free-is, z, x, y)
      | else-edge-ne0 w ↦ let z = weigh_apart ws a.s (edge_free es a.e) w.if-edge-ne0.false in omega (arith, w.free-is, z, x, y)
    ] in
    omega (arith, q, c.from.ensures)
