-- `reader::quick_text::quick_outcomes` meets its contract. The loop's invariant: the lines so far lead to the outcome that is due, or past the last. Assumes nothing.
use lib.Dec.{ltb}
use lib.ListN.{get_or}
use mathlib.Core.Bool.{cond}
use mathlib.Core.Path.{◌≡◌}
use Rattle.reader.specs.Quick.{Leads}
use Prim.Native.Nat.{◌+◌}
use Rattle.task_record.specs.Layout.{at_action}
use Rattle.reader.specs.Grammar.{action_from}
use Rattle.reader.specs.declared.order.Due.TheVariants.{Eff}
use Rattle.reader.proofs.quick_text.quick_outcomes.Given as goal

abbrev pub invariant-loop-k : goal.invariant-loop-k
invariant-loop-k l = (get_or l.rec 1 0 ≡ get_or l.initial.rec 1 0) × (get_or l.rec (at_action l.m) 0 ≡ l.count)
    × Leads (Eff l.m 0) l.initial.rec l.s (cond (ltb l.k l.count) (Eff l.m l.k) (action_from l.rec (l.m + 1))) l.rec l.rest
