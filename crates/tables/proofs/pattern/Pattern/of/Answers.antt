-- `Pattern::of`: what was read of a sound record. Assumes nothing.
use Rattle.std.proofs.Common.{◌≡◌, sym, ap, ◌∙◌}
use Rattle.task_record.specs.Cells.{state_cells}
use Rattle.task_record.specs.Layout.{at_pattern}
use Rattle.task_record.specs.Numbers.{action_count}
use Rattle.task_record.specs.Record.{Sound}
use Rattle.task_record.specs.TaskOf.{cells_at}
use Rattle.task_record.proofs.Cellwise.{state_cells_whole}
use Rattle.patterns.proofs.Sizes.{pattern_whole}
use Rattle.packed_task.proofs.SoundPacked.{sound_readable}
use Rattle.tables.proofs.Ready.{sound_ready, sound_pattern}
use Rattle.tables.proofs.pattern.Pattern.of.Goals as goal
use Rattle.tables.proofs.pattern.Pattern.of.Goals.{After-state_of-picked}

sound : (c : After-state_of-picked) → Sound c.args.record.now
sound c = rw c.record.view_is at c.record.invariant

actions-known : (c : After-state_of-picked) → c.from-actions.result ≡ action_count c.args.record.now
actions-known c = c.from-actions.ensures ∙ rw c.record.view_is at c.action_count.ensures

picked-known : (c : After-state_of-picked) → c.state_of-picked.result ≡ cells_at c.args.record.now (at_pattern c.args.p)
picked-known c = let r = c.args.record.now in
    c.state_of-picked.ensures ∙ ap state_cells (rw c.record.view_is at c.pattern_cells.ensures) ∙ sym (state_cells_whole (cells_at r (at_pattern c.args.p)) (pattern_whole r (sound c) c.args.p c.requires.known))

pub effective-requires : goal.effective-requires
effective-requires c = let w = (goal.at.effective-requires c).After-state_of-picked in rw (c.requires.task_is, actions-known w) (sound_readable c.args.record.now (sound w))

pub invariant_of-result : goal.invariant_of-result
invariant_of-result c = let w = (goal.at.invariant_of-result c).After-state_of-picked in
    sound_ready (sound w) c.requires (actions-known w) (c.from.ensures ∙ rw c.record.view_is at c.variable_count.ensures) (picked-known w) c.mask_of_cells-mask.ensures c.effective.ensures

pub returns : goal.returns
returns c = let w = (goal.at.returns c).After-state_of-picked in
    sound_pattern (sound w) c.requires (actions-known w) (c.from.ensures ∙ rw c.record.view_is at c.variable_count.ensures) (picked-known w)
