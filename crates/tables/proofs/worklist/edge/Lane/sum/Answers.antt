-- `tables::worklist::edge::Lane::sum` meets its contract. Assumes nothing.
use Rattle.std.proofs.Common.{◌/◌, ◌%◌, ◌^◌, refl, arith}
use Rattle.tables.specs.Edges.{lane_digit, lane_sum}
use Rattle.tables.proofs.Asking.{lane_low}
use Rattle.tables.proofs.worklist.edge.Lane.sum.Goals as goal

pub overflow_mul-result : goal.overflow_mul-result
overflow_mul-result c = let a = c.args in let p = lane_low (a.s / 2 ^ (a.self.0 / 65536 % 64) % 16) (a.self.0 % 65536) (omega arith) (omega arith) in record { fits = omega (arith, p) }

pub returns : goal.returns
unfolding lane_sum lane_digit
returns c = (refl, lane_low (c.args.s / 2 ^ (c.args.self.0 / 65536 % 64) % 16) (c.args.self.0 % 65536) (omega arith) (omega arith))
