-- `reader::text::read_slowly` meets its contract: what the lines make of a blank record is what the text says. Assumes nothing.
use Prim.Native.Nat.{ℕ}
use mathlib.Core.List.{List}
use mathlib.Core.Path.{◌∙◌, ap, sym}
use Rattle.reader.specs.Grammar.{read_from, read_whole}
use Rattle.reader.specs.Text.{lines_of}
use Rattle.reader.specs.declared.order.Due.TheVariants.{Vars}
use Rattle.reader.proofs.text.read_slowly.Goals as goal

pub returns : goal.returns
unfolding read_whole
returns c = ap (λ (r : List ℕ). read_from 1 Vars r (lines_of c.args.text.now)) (sym c.clear_record.ensures) ∙ c.read_lines.ensures
