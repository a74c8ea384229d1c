-- `reader::quick_text::quick_actions` meets its contract. The loop's invariant: the lines so far lead to the action that is due, or past the last. Assumes nothing.
use Prim.Native.Nat.{◌+◌}
use borrow.Author.Tests.{lt-ltb}
use lib.Dec.{ltb}
use mathlib.Core.Bool.{cond}
use mathlib.Core.Path.{◌∙◌}
use Rattle.reader.specs.Grammar.{action_from}
use Rattle.reader.specs.declared.order.Due.TheVariants.{Need, Goal}
use Rattle.reader.proofs.QuickLines.{leads_on}
use Rattle.reader.proofs.quick_text.quick_actions.Goals as goal

pub loop-m-preserved : goal.loop-m-preserved
loop-m-preserved c =
    let a = c.args in
    let l = c.loop-m in
    let r = c.quick_action.new.rec in
    let q = c.in_ok-rest.ensures in
    let z = q.0 ∙ l.invariant.0 in (
      z,
      leads_on (action_from a.rec.now 0) (Need l.m) (cond (ltb (l.m + 1) c.cell-count.result) (Need (l.m + 1)) Goal) a.rec.now l.rec r a.s.now l.rest.now c.in_ok-rest.rest.now
          (rw (lt-ltb l.m c.cell-count.result c.loop-m-test.true) at l.invariant.1) (rw z at q.1),
    )
