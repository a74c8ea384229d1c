-- `packed_task::packed::mask_of` meets its contract. Assumes nothing.
use Rattle.std.proofs.Common.{drop, ap, ◌∙◌}
use Rattle.task_record.specs.Layout.{at_pattern}
use Rattle.packed_task.specs.Packed.{pack_by, picking, digit_by}
use Rattle.packed_task.proofs.CompiledRecord.{part_few}
use Rattle.packed_task.proofs.packed.mask_of.Goals as goal

pub pack-requires : goal.pack-requires
pack-requires c = let a = c.args in rw c.pattern_cells.ensures (part_few (drop (at_pattern a.p) a.rec.now))

pub returns : goal.returns
unfolding digit_by
returns c = c.pack.ensures ∙ ap (pack_by picking) c.pattern_cells.ensures
