-- `part`: a part that the slice has whole, one that it has in part, and one past its end. Assumes nothing.
use Rattle.std.proofs.Common.{◌≡◌, ◌+◌, ◌-◌, length, drop, sym, ◌∙◌, arith, length-drop, drop_of_length-le, take_all}
use Rattle.task_record.proofs.cells.part.Goals as goal

pub returns-then-end-rec : goal.returns-then-end-rec
returns-then-end-rec c =
    let args = c.args in
    let a = args.at in let e : a + 16 - a ≡ 16 = omega arith in rw e

pub returns-then-at-rec : goal.returns-then-at-rec
returns-then-at-rec c =
    let args = c.args in
    let l = args.rec.now in let a = args.at in let n = length-drop a l in
    take_all (length l - a) (drop a l) (omega arith) ∙ sym (take_all 16 (drop a l) (omega arith))

pub returns : goal.returns
returns c = rw (drop_of_length-le c.args.rec.now c.if-at-rec.false)
