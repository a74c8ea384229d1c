-- `four`: the bytes one by one. Assumes nothing.
use Rattle.std.proofs.Common.{◌+◌, arith}
use Rattle.packed_task.proofs.Squeezing.{four_bytes}
use Rattle.packed_task.proofs.words.four.Goals as goal

pub returns : goal.returns
returns c = let q = four_bytes c.args.c.now c.args.at c.requires.0 in
    let at = c.args.at in
    let b = c.type_inv.c at in
    let b2 = c.type_inv.c (at + 1) in
    let b3 = c.type_inv.c (at + 2) in
    let b4 = c.type_inv.c (at + 3) in
    let e = c.from.ensures in
    let e2 = c.from-2.ensures in
    let e3 = c.from-3.ensures in
    let e4 = c.from-4.ensures in
    (omega (arith, q, e, e2, e3, e4), omega (arith, e, e2, e3, e4, b, b2, b3, b4))
