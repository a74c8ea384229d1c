-- `reader::quick_text::quick_outcomes` meets its contract. The loop's invariant: the lines so far lead to the outcome that is due, or past the last. Assumes nothing.
use borrow.Author.Tests.{lt-ltb}
use mathlib.Core.Path.{◌∙◌}
use native.Mathlib.Omega.{arith}
use Rattle.reader.specs.Bytes.{bytes}
use Rattle.task_record.specs.Layout.{at_action, at_outcome}
use Rattle.reader.specs.Grammar.{key_eff}
use Rattle.reader.specs.declared.lists.Kind.TheVariants.{Pairs}
use Rattle.reader.specs.declared.order.Due.TheVariants.{Eff}
use Rattle.reader.proofs.QuickLines.{list_kept}
use Rattle.reader.proofs.QuickOrder.{eff_on}
use Rattle.reader.proofs.quick_text.quick_outcomes.Goals as goal

pub loop-k-preserved : goal.loop-k-preserved
unfolding bytes
loop-k-preserved c =
    let a = c.args in
    let l = c.loop-k in
    let r = c.quick_list_line.new.rec in
    let e = c.in_ok-rest.rest.now in
    let q = rw (c.new.ensures, c.at_outcome.ensures) at c.in_ok-rest.ensures in
    let kept = list_kept l.rest.now key_eff Pairs l.rec (at_outcome a.m l.k) r e q in
    let z = kept (at_action a.m) (omega arith) ∙ l.invariant.1 in
    let w = eff_on (Eff a.m 0) a.rec.now a.s.now l.rest.now e l.rec r a.m l.k (rw (lt-ltb l.k c.cell-count.result c.loop-k-test.true) at l.invariant.2) q in
    (kept 1 (omega arith) ∙ l.invariant.0, z, rw z at w)
