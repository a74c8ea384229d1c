-- `reader::quick_text::quick_sizes` meets its contract. The loop's invariant: the lines so far lead to the size that is due, or past the last. Assumes nothing.
use lib.Dec.{ltb}
use lib.ListN.{get_or}
use mathlib.Core.Bool.{cond}
use mathlib.Core.Path.{◌≡◌}
use Rattle.reader.specs.Quick.{Leads}
use Rattle.reader.specs.declared.order.Due.TheVariants.{Size, Moves}
use Rattle.reader.proofs.quick_text.quick_sizes.Given as goal

abbrev pub invariant-loop-i : goal.invariant-loop-i
invariant-loop-i l = (get_or l.rec 0 0 ≡ l.n) × Leads (Size 0) l.initial.rec l.s (cond (ltb l.i l.n) (Size l.i) Moves) l.rec l.rest
