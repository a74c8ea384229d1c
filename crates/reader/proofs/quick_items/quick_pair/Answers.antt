-- `reader::quick_items::quick_pair` meets its contract: two numbers with a colon between them. Assumes nothing.
use lib.ListN.{drop, length-drop}
use native.Mathlib.Omega.{arith}
use Rattle.task_record.proofs.Rest.{part_rest}
use Rattle.reader.specs.Written.{decimal}
use Rattle.reader.proofs.QuickNumbers.{pair_at, split_shorter}
use Rattle.reader.proofs.quick_items.quick_pair.Goals as goal

pub returns : goal.returns
returns c =
    let s = c.args.s.now in
    let h = c.in_ok-v.ensures in
    let m = c.in_ok-v.v.rest.now in
    let e = part_rest m 1 in
    let g = rw e at c.in_ok-x.ensures in
    let n = length-drop 1 m in
    let k = split_shorter (drop 1 m) (decimal c.in_ok-x.x.read) c.in_ok-x.x.rest.now g.2 in
    let l = split_shorter s (decimal c.in_ok-v.v.read) m h.2 in (
      omega (arith, g.1, h.1, n, c.requires),
      omega (arith, k, l, n),
      λ next. pair_at s c.in_ok-x.x.rest.now next c.in_ok-v.v.read c.in_ok-x.x.read m (omega (arith, h.0)) (omega (arith, g.0)) h.2 (omega (arith, h.1, c.requires)) c.if-middle-ne-COLON.false g.2,
    )
