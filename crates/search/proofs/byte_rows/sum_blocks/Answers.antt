-- `search::byte_rows::sum_blocks` meets its contract. The loop's invariant: the sum so far and what is left make the whole. Assumes nothing.
use Rattle.std.proofs.Common.{arith}
use Rattle.search.proofs.ByteSums.{blocks_start, blocks_add, blocks_whole}
use Rattle.search.proofs.byte_rows.sum_blocks.Goals as goal

pub loop-j-init : goal.loop-j-init
loop-j-init c = let a = c.args in
    (blocks_start a.sums.now a.at a.count a.s c.from-i.result c.requires.0 (rw c.lowest_byte.ensures.0 at c.from-i.ensures), omega (arith, c.requires.0), omega arith)

pub bounds-sums-at : goal.bounds-sums-at
bounds-sums-at c = let p = c.requires in omega (arith, p.0, p.2, c.lowest_byte.ensures.1)

pub bounds-sums-at-in-loop-j : goal.bounds-sums-at-in-loop-j
bounds-sums-at-in-loop-j c = let p = c.requires in omega (arith, p.1, p.2, c.lowest_byte-in-loop-j.ensures.1)

pub loop-j-preserved : goal.loop-j-preserved
loop-j-preserved c = let l = c.loop-j in let a = c.args in let e = rw c.lowest_byte-in-loop-j.ensures.0 at c.from-i-in-loop-j.ensures in
    (blocks_add a.sums.now a.at l.j a.count l.i c.from-i-in-loop-j.result l.rest _ c.loop-j-test.true e l.invariant.0, omega arith, omega arith)

pub returns : goal.returns
returns c = let l = c.loop-j in let a = c.args in
    (blocks_whole a.sums.now a.at l.j a.count l.i l.rest _ c.loop-j-test.false l.invariant.0, omega (arith, c.requires.1))
