-- `reader::quick_text::quick_patterns` meets its contract. The loop's invariant: the lines so far lead to the pattern that is due, or past the last. Assumes nothing.
use lib.Dec.{ltb}
use lib.ListN.{get_or}
use mathlib.Core.Bool.{cond}
use mathlib.Core.Path.{◌≡◌}
use Rattle.reader.specs.Quick.{Leads}
use Rattle.reader.specs.Grammar.{pattern_from}
use Rattle.reader.specs.declared.order.Due.TheVariants.{Pattern, Limit}
use Rattle.reader.proofs.quick_text.quick_patterns.Given as goal

abbrev pub invariant-loop-p : goal.invariant-loop-p
invariant-loop-p l = (get_or l.rec 2 0 ≡ l.count)
    × Leads (pattern_from l.initial.rec 0) l.initial.rec l.s (cond (ltb l.p l.count) (Pattern l.p) Limit) l.rec l.rest
