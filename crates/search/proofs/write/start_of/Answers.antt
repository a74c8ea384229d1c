-- `search::write::start_of` meets its contract: a goal, what the slot says, or what examining the state again answers. Assumes nothing.
use Rattle.search.specs.Packed.{instance_value}
use Rattle.search.proofs.Carrying.{number_estimated}
use Rattle.search.proofs.Writing.{goal_starts, recalled_starts, again_examinable, never_stops, never_fails, examined_starts}
use Rattle.search.proofs.write.start_of.Goals as goal

pub returns-then-is_goal : goal.returns-then-is_goal
returns-then-is_goal c = goal_starts c.requires c.is_goal.ensures c.if-is_goal.true

pub returns-in-Some : goal.returns-in-Some
returns-in-Some c = let h = rw c.in-Some.is at c.recall.ensures in recalled_starts c.requires h.0 h.1

pub examine_any-requires : goal.examine_any-requires
examine_any-requires c = let a = c.args in again_examinable c.requires (rw (c.unwrap_or.ensures, c.value_of.ensures) (number_estimated (instance_value a.instance.now a.s)))

pub returns-in-Stopped : goal.returns-in-Stopped
returns-in-Stopped c = absurd (never_stops c.requires c.examine_any.ensures c.in-Stopped.is)

pub returns-in-Failed : goal.returns-in-Failed
returns-in-Failed c = absurd (never_fails c.requires c.examine_any.ensures c.in-Failed.is)

pub returns-in-Succeeded : goal.returns-in-Succeeded
returns-in-Succeeded c = examined_starts c.requires c.examine_any.ensures c.in-Succeeded.is
