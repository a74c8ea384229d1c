-- `report::lines::Lines::put_list` meets its contract: the first number, then the others. Assumes nothing.
use native.Mathlib.Omega.{arith}
use Rattle.report.specs.Lines.{comma_list}
use Rattle.report.proofs.Commas.{list_of_none}
use Rattle.report.proofs.Decimals.{byte-length}
use Rattle.report.proofs.Stored.{puts_nothing, puts_then}
use Rattle.report.proofs.lines.Lines.put_list.Goals as goal

pub put_rest-requires : goal.put_rest-requires
put_rest-requires c = let l = c.in-Some.ensures.cases.1 in
    let b = (rw c.in-Some.ensures.cases.0 at (c.type_inv.bytes 0)).fits in
    omega (arith, l, c.put_decimal.ensures.written.ends, byte-length c.from.result (rw c.from.ensures b))

pub returns-in-Some-clause-written : goal.returns-in-Some-clause-written
unfolding comma_list
returns-in-Some-clause-written c = rw (c.in-Some.ensures.cases.0, ← c.from.ensures) (puts_then c.put_decimal.ensures c.put_rest.ensures.written)

pub returns-in-Some-clause-short : goal.returns-in-Some-clause-short
returns-in-Some-clause-short c = let l = c.in-Some.ensures.cases.1 in
    let b = (rw c.in-Some.ensures.cases.0 at (c.type_inv.bytes 0)).fits in
    omega (arith, l, c.put_decimal.ensures.written.ends, c.put_rest.ensures.short, byte-length c.from.result (rw c.from.ensures b))

pub returns-in_default-clause-written : goal.returns-in_default-clause-written
returns-in_default-clause-written c = rw (list_of_none c.args.bytes.now c.in_default.ensures.cases) (puts_nothing _)
