-- `tables::worklist::parts::parts_of` meets its contract. Assumes nothing.
use Rattle.tables.proofs.Parting.{bounded_fewer, split_at}
use Rattle.tables.proofs.worklist.parts.parts_of.Goals as goal

pub state_count-requires : goal.state_count-requires
state_count-requires c = let v = rw (← c.pattern.view_is) at c.lower_variables-v.ensures in bounded_fewer _ v.0 c.pattern.invariant.bounded

pub returns-clause-split : goal.returns-clause-split
returns-clause-split c = let p = c.pattern.inside in let v = rw (← c.pattern.view_is) at c.lower_variables-v.ensures in
    rw (← c.pattern.view_is) (split_at p.sizes p.picked p.n c.lower_variables-v.result c.state_count.result p.mask c.digits_below.result c.pattern.invariant.bounded v.0 c.pattern.invariant.masked c.state_count.ensures c.digits_below.ensures v.1 v.2)
