-- `reader::text::read_lines` meets its contract. The loop's invariant: the whole text is what the lines that are left make of the record so
-- far. Each turn takes one line, up to the next line break or the end. Assumes nothing.
use Prim.Native.Nat.{◌+◌, ◌≤◌}
use lib.ListN.{length}
use mathlib.Core.Path.{◌≡◌}
use Rattle.reader.specs.Grammar.{read_from}
use Rattle.reader.specs.Text.{lines_of}
use Rattle.reader.specs.declared.order.Due.TheVariants.{Vars}
use Rattle.reader.proofs.text.read_lines.Given as goal

abbrev pub invariant-loop-rest : goal.invariant-loop-rest
invariant-loop-rest l =
    (l.line + length l.rest ≤ length l.text + 1) × (length l.rec ≡ length l.initial.rec)
    × (read_from 1 Vars l.initial.rec (lines_of l.text) ≡ read_from l.line l.due l.rec (lines_of l.rest))

abbrev pub decreases-loop-rest : goal.decreases-loop-rest
decreases-loop-rest l = length l.rest
