-- `reader::quick_text::quick_sizes` meets its contract. The loop's invariant: the lines so far lead to the size that is due, or past the last. Assumes nothing.
use borrow.Author.Tests.{lt-ltb}
use Prim.Native.Nat.{◌+◌}
use mathlib.Core.Path.{◌∙◌}
use native.Mathlib.Omega.{arith}
use Rattle.reader.specs.Bytes.{bytes}
use Rattle.reader.specs.Grammar.{key_size}
use Rattle.reader.specs.declared.order.Due.TheVariants.{Size}
use Rattle.reader.proofs.QuickLines.{number_kept}
use Rattle.reader.proofs.QuickOrder.{size_on}
use Rattle.reader.proofs.quick_text.quick_sizes.Goals as goal

pub loop-i-preserved : goal.loop-i-preserved
unfolding bytes
loop-i-preserved c =
    let a = c.args in
    let l = c.loop-i in
    let r = c.quick_number_line.new.rec in
    let e = c.in_ok-rest.rest.now in
    let q = rw c.new.ensures at c.in_ok-rest.ensures in
    let z = number_kept l.rest.now key_size 2 16 l.rec (8 + l.i) r e q 0 (λ e. omega arith) ∙ l.invariant.0 in
    (z, rw z at (size_on (Size 0) a.rec.now a.s.now l.rest.now e l.rec r l.i (rw (lt-ltb l.i c.variables-n.result c.loop-i-test.true) at l.invariant.1) q))
