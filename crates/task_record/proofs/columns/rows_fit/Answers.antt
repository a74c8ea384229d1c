-- `rows_fit`: for each number of outcomes the columns that were tried with it. Assumes nothing.
use Rattle.std.proofs.Common.{arith}
use Rattle.task_record.proofs.columns.rows_fit.Goals as goal

pub returns-in-1 : goal.returns-in-1
returns-in-1 c = λ t. let e = c.in-1.is in (omega arith, omega arith, rw e (c.nine_fit.ensures t))

pub returns-in-2 : goal.returns-in-2
returns-in-2 c = λ t. let e = c.in-2.is in (omega arith, omega arith, rw e (c.nine_fit-in-2.ensures t))

pub returns-in-3 : goal.returns-in-3
returns-in-3 c = λ t. let e = c.in-3.is in (omega arith, omega arith, rw e (c.nine_fit-in-3.ensures t))

pub returns-in-4 : goal.returns-in-4
returns-in-4 c = λ t. let e = c.in-4.is in (omega arith, omega arith, rw e (c.nine_fit-in-4.ensures t))

pub returns-in-5 : goal.returns-in-5
returns-in-5 c = λ t. let e = c.in-5.is in (omega arith, omega arith, rw e (c.nine_fit-in-5.ensures t))

pub returns-in-6 : goal.returns-in-6
returns-in-6 c = λ t. let e = c.in-6.is in (omega arith, omega arith, rw e (c.nine_fit-in-6.ensures t))

pub returns-in-7 : goal.returns-in-7
returns-in-7 c = λ t. let e = c.in-7.is in (omega arith, omega arith, rw e (c.nine_fit-in-7.ensures t))

pub returns-in-8 : goal.returns-in-8
returns-in-8 c = λ t. let e = c.in-8.is in (omega arith, omega arith, rw e (c.nine_fit-in-8.ensures t))
