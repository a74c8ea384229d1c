-- `tables::worklist::incoming::fill_sets` meets its contract. Assumes nothing.
use Rattle.std.proofs.Common.{◌≡◌, ◌+◌, ◌-◌, ◌*◌, ◌≤◌, length, sym, refl, ◌∙◌, arith}
use Rattle.tables.proofs.Rowing.{filled, rows_to_next, incoming_of}
use Rattle.tables.proofs.TableChain.{part_length}
use Rattle.tables.proofs.worklist.incoming.fill_sets.Goals as goal

pub loop-c-preserved : goal.loop-c-preserved
loop-c-preserved c = let h = c.args.halves.now in let p = c.requires in let v = c.loop-c.invariant in let d = c.loop-c.c in let width = h.lower + h.upper in
    let r = p.2 (omega (arith, filled _ (sym c.is_empty.ensures ∙ c.if-is_empty.false))) d (omega (arith, c.loop-c-test.true, c.div_ceil-c-end.ensures)) in
    let room : width * d + width ≤ length c.loop-c.sets = omega (arith, r, v.long) in
    let e : width * d + width - width * d ≡ width = omega arith in
    rw e (rows_to_next (omega (arith, p.0.few, c.loop-c-test.true, c.div_ceil-c-end.ensures)) (omega (arith, c.min-count.ensures)) v c.fill_row.ensures (c.fill_row.auto.row ∙ part_length c.loop-c.sets (width * d) width room) room)

pub returns : goal.returns
returns c = let p = c.requires in incoming_of p.0 p.1.parted refl p.2 c.loop-c.invariant (omega (arith, c.loop-c-test.false, c.div_ceil-c-end.ensures))
