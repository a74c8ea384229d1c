-- `sizes_of`: the record's cells from the sizes on. Assumes nothing.
use Rattle.std.proofs.Common.{ℕ, List, length, get_or, drop, ap, ◌∙◌, arith, length-drop, length-take-le, get_or-drop, get_or-take}
use Rattle.task_record.specs.Layout.{at_sizes}
use Rattle.task_record.proofs.record.sizes_of.Goals as goal

pub returns : goal.returns
returns c =
    let args = c.args in
    let copied = c.copied in
    let r = args.record.now.cells.now in let e = copied.ensures in let d = length-drop at_sizes r in let p = args.record.now.long in
    record {
      whole = ap length e ∙ length-take-le 16 (drop at_sizes r) (omega arith);
      cell = λ v h. ap (λ (l : List ℕ). get_or l v 0) e ∙ get_or-take 16 (drop at_sizes r) v 0 h ∙ get_or-drop at_sizes r v 0;
    }
