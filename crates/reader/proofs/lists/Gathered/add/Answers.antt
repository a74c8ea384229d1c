-- `reader::lists::Gathered::add` meets its contract: a pair that keeps the rules, one that breaks them, and what is no pair. Assumes nothing.
use mathlib.Core.Path.{◌∙◌, sym}
use Rattle.reader.proofs.Items.{step_against, step_fits, step_ill}
use Rattle.reader.proofs.lists.Gathered.add.Goals as goal

pub returns-in-None : goal.returns-in-None
returns-in-None c = sym (step_ill c.args.rec.now c.args.self.now c.args.piece c.in-None.is)

pub returns-then-allowed : goal.returns-then-allowed
returns-then-allowed c = rw c.put.ensures (sym (step_fits c.args.rec.now c.args.self.now c.args.piece c.in-Some.pair c.in-Some.is (sym c.allowed.ensures.value ∙ c.if-allowed.true)))

pub returns-else-allowed : goal.returns-else-allowed
returns-else-allowed c = sym (step_against c.args.rec.now c.args.self.now c.args.piece c.in-Some.pair c.in-Some.is (sym c.allowed.ensures.value ∙ c.if-allowed.false))
