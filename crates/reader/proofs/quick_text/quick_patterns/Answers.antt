-- `reader::quick_text::quick_patterns` meets its contract. The loop's invariant: the lines so far lead to the pattern that is due, or past the last. Assumes nothing.
use borrow.Author.Tests.{lt-ltb}
use mathlib.Core.Path.{◌∙◌}
use native.Mathlib.Omega.{arith}
use Rattle.reader.specs.Bytes.{bytes}
use Rattle.task_record.specs.Layout.{at_pattern}
use Rattle.reader.specs.Grammar.{key_pattern, pattern_from}
use Rattle.reader.specs.declared.lists.Kind.TheVariants.{Members}
use Rattle.reader.proofs.QuickLines.{list_kept}
use Rattle.reader.proofs.QuickOrder.{pattern_on}
use Rattle.reader.proofs.quick_text.quick_patterns.Goals as goal

pub loop-p-preserved : goal.loop-p-preserved
unfolding bytes
loop-p-preserved c =
    let a = c.args in
    let l = c.loop-p in
    let r = c.quick_list_line.new.rec in
    let e = c.in_ok-rest.rest.now in
    let q = rw (c.new.ensures, c.at_pattern.ensures) at c.in_ok-rest.ensures in
    let kept = list_kept l.rest.now key_pattern Members l.rec (at_pattern l.p) r e q in
    let z = kept 2 (omega arith) ∙ l.invariant.0 in
    let w = pattern_on (pattern_from a.rec.now 0) a.rec.now a.s.now l.rest.now e l.rec r l.p (rw (lt-ltb l.p c.cell-count.result c.loop-p-test.true) at l.invariant.1) q in
    (z, rw z at w)
