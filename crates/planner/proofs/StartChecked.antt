-- The check of a plan at the start of a sound record: the start's sixteen cells are a good state, so the answer is what planning's check says
-- at the start. Assumes nothing.
use mathlib.Core.Path.{◌≡◌}
use mathlib.Core.List.{List}
use Prim.Native.Nat.{ℕ}
use lib.ListN.{drop}
use lib.Seq.{take-take}
use Rattle.planning.specs.PlanCheck.{check_plan, most_moves}
use Rattle.planning.specs.Task.{system}
use Rattle.task_record.specs.Layout.{at_start}
use Rattle.task_record.specs.Numbers.{variable_count}
use Rattle.task_record.specs.Record.{Sound}
use Rattle.task_record.specs.TaskOf.{cells_at, task_of, start_of, values_of}
use Rattle.task_record.proofs.SoundTask.{variables_right}
use Rattle.task_record.proofs.States.{start_good, good_checked}
use Rattle.plan_check.specs.Check.{answer_of, plan_check_of}
use Rattle.plan_check.specs.Tower.{tower}

module _ (r : List ℕ) (sound : Sound r) where
  start_values : values_of r (cells_at r at_start) ≡ start_of r
  unfolding values_of start_of
  start_values = take-take (variable_count r) 16 (drop at_start r) (variables_right r sound).1

  pub check_at_start : (plan : List ℕ) → plan_check_of r (cells_at r at_start) plan ≡ answer_of (check_plan (system (task_of r)) most_moves (start_of r) plan)
  unfolding plan_check_of tower
  check_at_start plan = rw (good_checked r (cells_at r at_start) sound (start_good r sound), start_values)
