-- `search::write::write_found` meets its contract: no plan stands in the buffer at first. Assumes nothing.
use Rattle.std.proofs.Common.{arith, rules}
use Rattle.search.proofs.Standing.{nothing_stands}
use Rattle.search.proofs.write.write_found.Goals as goal

pub write_plan-requires : goal.write_plan-requires
write_plan-requires c = let p = c.requires in
    record { succeeding = p.0; fits = omega (arith, p.1); near = omega (arith, p.2); stands = nothing_stands _ 128 _ (omega arith) }

pub returns : goal.returns
returns c = λ p k f. let h = (c.write_plan.ensures.writes p k f).holds in let g = c.write_plan.ensures.same_plan in search rules
