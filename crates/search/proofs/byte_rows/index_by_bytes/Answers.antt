-- `search::byte_rows::index_by_bytes` meets its contract. Assumes nothing.
use Rattle.std.proofs.Common.{[], get_or, ◌∙◌, arith}
use Rattle.search.proofs.ByteSums.{span_index}
use Rattle.search.proofs.byte_rows.index_by_bytes.Goals as goal

pub from_bit-rest-requires : goal.from_bit-rest-requires
from_bit-rest-requires c = let g = c.args.instance.now.matching.placed.span c.args.p c.requires c.in-Some.span c.in-Some.is in let w = g.within in let k = g.some in omega arith

pub sum_blocks-requires : goal.sum_blocks-requires
sum_blocks-requires c = let g = c.args.instance.now.matching.placed.span c.args.p c.requires c.in-Some.span c.in-Some.is in let w = g.within in let r = g.room in (g.some, omega arith, omega arith)

pub returns-in-Some : goal.returns-in-Some
returns-in-Some c = let i = c.args.instance.now in let g = i.matching.placed.span c.args.p c.requires c.in-Some.span c.in-Some.is in
    let e = span_index (get_or i.weights.now c.args.p []) i.blocks.now.sums _ _ _ g c.args.s in
    (rw c.from_bit-rest.ensures at c.sum_blocks.ensures.0 ∙ e, omega (arith, c.sum_blocks.ensures.1))
