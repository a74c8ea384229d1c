-- `patterns_fit`: for each number of patterns the columns that were tried with it. Assumes nothing.
use Rattle.std.proofs.Common.{sym, ◌∙◌, arith}
use Rattle.task_record.proofs.ColumnLaws.{patterns_told}
use Rattle.task_record.proofs.columns.patterns_fit.Goals as goal

pub returns-in-0 : goal.returns-in-0
returns-in-0 c = λ t. patterns_told c.args.record.now.rec.now c.args.record.now.sizes c.args.record.now.passed.byte c.args.record.now.passed 0 (sym c.in-0.is ∙ c.pattern_count.ensures) (omega arith) (c.eight_fit.ensures t)

pub returns-in-1 : goal.returns-in-1
returns-in-1 c = λ t. patterns_told c.args.record.now.rec.now c.args.record.now.sizes c.args.record.now.passed.byte c.args.record.now.passed 1 (sym c.in-1.is ∙ c.pattern_count.ensures) (omega arith) (c.eight_fit-in-1.ensures t)

pub returns-in-2 : goal.returns-in-2
returns-in-2 c = λ t. patterns_told c.args.record.now.rec.now c.args.record.now.sizes c.args.record.now.passed.byte c.args.record.now.passed 2 (sym c.in-2.is ∙ c.pattern_count.ensures) (omega arith) (c.eight_fit-in-2.ensures t)

pub returns-in-3 : goal.returns-in-3
returns-in-3 c = λ t. patterns_told c.args.record.now.rec.now c.args.record.now.sizes c.args.record.now.passed.byte c.args.record.now.passed 3 (sym c.in-3.is ∙ c.pattern_count.ensures) (omega arith) (c.eight_fit-in-3.ensures t)

pub returns-in-4 : goal.returns-in-4
returns-in-4 c = λ t. patterns_told c.args.record.now.rec.now c.args.record.now.sizes c.args.record.now.passed.byte c.args.record.now.passed 4 (sym c.in-4.is ∙ c.pattern_count.ensures) (omega arith) (c.eight_fit-in-4.ensures t)

pub returns-in-5 : goal.returns-in-5
returns-in-5 c = λ t. patterns_told c.args.record.now.rec.now c.args.record.now.sizes c.args.record.now.passed.byte c.args.record.now.passed 5 (sym c.in-5.is ∙ c.pattern_count.ensures) (omega arith) (c.eight_fit-in-5.ensures t)

pub returns-in-6 : goal.returns-in-6
returns-in-6 c = λ t. patterns_told c.args.record.now.rec.now c.args.record.now.sizes c.args.record.now.passed.byte c.args.record.now.passed 6 (sym c.in-6.is ∙ c.pattern_count.ensures) (omega arith) (c.eight_fit-in-6.ensures t)

pub returns-in-7 : goal.returns-in-7
returns-in-7 c = λ t. patterns_told c.args.record.now.rec.now c.args.record.now.sizes c.args.record.now.passed.byte c.args.record.now.passed 7 (sym c.in-7.is ∙ c.pattern_count.ensures) (omega arith) (c.eight_fit-in-7.ensures t)

pub returns-in-8 : goal.returns-in-8
returns-in-8 c = λ t. patterns_told c.args.record.now.rec.now c.args.record.now.sizes c.args.record.now.passed.byte c.args.record.now.passed 8 (sym c.in-8.is ∙ c.pattern_count.ensures) (omega arith) (c.eight_fit-in-8.ensures t)
