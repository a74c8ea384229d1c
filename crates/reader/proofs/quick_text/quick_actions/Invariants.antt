-- `reader::quick_text::quick_actions` meets its contract. The loop's invariant: the lines so far lead to the action that is due, or past the last. Assumes nothing.
use lib.Dec.{ltb}
use lib.ListN.{get_or}
use mathlib.Core.Bool.{cond}
use mathlib.Core.Path.{◌≡◌}
use Rattle.reader.specs.Quick.{Leads}
use Rattle.reader.specs.Grammar.{action_from}
use Rattle.reader.specs.declared.order.Due.TheVariants.{Need, Goal}
use Rattle.reader.proofs.quick_text.quick_actions.Given as goal

abbrev pub invariant-loop-m : goal.invariant-loop-m
invariant-loop-m l = (get_or l.rec 1 0 ≡ l.count)
    × Leads (action_from l.initial.rec 0) l.initial.rec l.s (cond (ltb l.m l.count) (Need l.m) Goal) l.rec l.rest
