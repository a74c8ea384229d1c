-- `packed_task::packed::mask_of_cells` meets its contract. Assumes nothing.
use Rattle.packed_task.specs.Packed.{digit_by}
use Rattle.packed_task.proofs.packed.mask_of_cells.Goals as goal

pub returns : goal.returns
unfolding digit_by
returns c = c.pack.ensures
