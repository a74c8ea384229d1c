-- `packed_task::compile_record::compile_over` meets its contract. Assumes nothing.
use Rattle.std.proofs.Common.{drop, rules}
use Rattle.task_record.specs.Layout.{at_goal}
use Rattle.packed_task.proofs.CompiledRecord.{part_few, record_over}
use Rattle.packed_task.proofs.compile_record.compile_over.Goals as goal

pub words_of-words-requires : goal.words_of-words-requires
words_of-words-requires c = rw c.goal_cells-goal.ensures (part_few (drop at_goal c.record.inside.cells.now))

pub named_digits-mask-requires : goal.named_digits-mask-requires
named_digits-mask-requires c = (rw c.goal_cells-goal.ensures (part_few (drop at_goal c.record.inside.cells.now)), c.words_of-words.ensures.0)

pub returns : goal.returns
returns c = let h = rw c.record.view_is at c.record.invariant in
    record_over c.args.record.now h c.args.task.now c.compile_actions.new.task _
    (search rules) c.compile_actions.ensures
    (rw (c.named_digits-mask.ensures, c.words_of-words.ensures.1, c.goal_cells-goal.ensures, c.record.view_is))
