-- `edge_count`: the outcomes of the actions that are left. Assumes nothing.
use Rattle.std.proofs.Common.{arith}
use Rattle.tables.proofs.Counting.{counting_known, counting_next, counting_end}
use Rattle.tables.proofs.worklist.edges.edge_count.Goals as goal

pub invariant_of-outcome_count : goal.invariant_of-outcome_count
invariant_of-outcome_count c = let f = c.requires.0.actions_few in let s = c.in-Some.ensures.steps in let k = counting_known f c.loop-m.invariant s.0 in record { below = omega (arith, k.0, s.1, f) }

pub overflow_add-c : goal.overflow_add-c
overflow_add-c c = let p = c.requires.0 in let s = c.in-Some.ensures.steps in let k = counting_known p.actions_few c.loop-m.invariant s.0 in record { fits = rw (c.outcome_count-c.ensures, s.1) (omega (arith, k.0, k.1, p.actions_few, p.outcomes_few _ k.0)) }

pub loop-m-preserved : goal.loop-m-preserved
loop-m-preserved c = let p = c.requires.0 in let v = c.loop-m.invariant in let s = c.in-Some.ensures.steps in
    rw (c.outcome_count-c.ensures, s.1, s.2) (counting_next p.actions_few v s.0 (p.outcomes_few _ (counting_known p.actions_few v s.0).0))

pub returns : goal.returns
returns c = counting_end c.requires.0.actions_few c.loop-m.invariant c.in-None.ensures.steps
