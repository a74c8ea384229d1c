-- `write_upgraded`: the stored bytes, then the costs; the rest stays. Assumes nothing.
use Rattle.std.proofs.Common.{sym, ◌∙◌, arith, length-take-le}
use Rattle.stored.specs.FirstLayout.{first_size}
use Rattle.stored.proofs.FirstSound.{first_long, first_few}
use Rattle.stored.proofs.UpgradedBytes.{overlaid}
use Rattle.stored.proofs.upgrade.write_upgraded.Goals as goal

pub slice_bounds-copy_cells-end : goal.slice_bounds-copy_cells-end
slice_bounds-copy_cells-end c = sym (length-take-le first_size c.args.stored.now (first_long c.args.stored.now c.requires.0))

pub slice_bounds-copy_cells-end-3 : goal.slice_bounds-copy_cells-end-3
slice_bounds-copy_cells-end-3 c = let p = c.requires in sym (length-take-le first_size c.args.target.now (omega arith))

pub copy_cells-requires : goal.copy_cells-requires
copy_cells-requires c = let p = c.requires in
    length-take-le first_size c.args.stored.now (first_long c.args.stored.now p.0) ∙ sym (length-take-le first_size c.args.target.now (omega arith))

pub returns : goal.returns
returns c = overlaid c.args.stored.now c.args.target.now c.copy_cells.new.target c.copy_from_slice.new.self (first_long c.args.stored.now c.requires.0) c.copy_cells.ensures (c.copy_from_slice.ensures.after ∙ c.added_costs.ensures)

pub added_costs-requires : goal.added_costs-requires
added_costs-requires c = first_few c.args.stored.now c.requires.0
