-- `put_span`: each edge is told where the edges of its action begin and end. Assumes nothing.
use Rattle.std.proofs.Common.{◌≡◌, refl, arith}
use Rattle.tables.proofs.Making.{spanned_none, spanned_next}
use Rattle.tables.proofs.worklist.edges.put_span.Goals as goal

pub loop-e-init : goal.loop-e-init
loop-e-init c = (omega arith, c.requires.0, spanned_none)

pub loop-e-preserved : goal.loop-e-preserved
loop-e-preserved c = let v = c.loop-e.invariant in let p = c.requires in let t = c.loop-e-test.true in (omega (arith, v.0), omega arith, spanned_next _ _ _ _ _ _ v.0 (omega (arith, p.3, t)) refl (omega (arith, p.2, t, v.0), omega (arith, p.0, p.1, p.2, t, v.0)) v.2)

pub shape_of-edges : goal.shape_of-edges
shape_of-edges c = c.loop-e.invariant.2.long

pub returns : goal.returns
returns c = let v = c.loop-e.invariant in let z : c.loop-e.e ≡ c.args.end = omega (arith, v.1, c.loop-e-test.false) in rw z at v.2
