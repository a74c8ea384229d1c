-- `reader::decimal::number` meets its contract. Assumes nothing.
use mathlib.Core.Path.{◌∙◌, sym}
use Rattle.reader.specs.Text.{number_of, well_formed}
use Rattle.reader.proofs.Decimals.{framed_short}
use Rattle.reader.proofs.decimal.number.Goals as goal

pub value_of-requires : goal.value_of-requires
value_of-requires c = framed_short c.args.s.now (sym c.is_framed.ensures ∙ c.if-is_framed.true)

pub returns-then-is_framed : goal.returns-then-is_framed
unfolding number_of well_formed
returns-then-is_framed c = rw (sym c.is_framed.ensures ∙ c.if-is_framed.true) c.value_of.ensures

pub returns-else-is_framed : goal.returns-else-is_framed
unfolding number_of well_formed
returns-else-is_framed c = rw (sym c.is_framed.ensures ∙ c.if-is_framed.false)
