-- `tables::worklist::incoming::upper_part` meets its contract. Assumes nothing.
use Rattle.std.proofs.Common.{arith}
use Rattle.tables.proofs.Rowing.{upper_is, upper_fits}
use Rattle.tables.proofs.worklist.incoming.upper_part.Goals as goal

pub overflow_mul-h : goal.overflow_mul-h
overflow_mul-h c = let a = c.args in let p = c.requires in record { fits = omega (arith, (upper_fits a.j a.lower a.inverse p.0 p.2 p.3).0) }

pub overflow_mul-at : goal.overflow_mul-at
overflow_mul-at c = let a = c.args in let p = c.requires in record { fits = omega (arith, (upper_fits a.j a.lower a.inverse p.0 p.2 p.3).1) }

pub returns-then-j-at : goal.returns-then-j-at
returns-then-j-at c = upper_is c.args.j c.args.lower _ c.if-at-j.true c.if-j-at.true
