-- What a plan is that the check passes: a strong plan with at most 255 moves on a path ("the check, and with it demand 2, allows 255 moves").
-- Assumes nothing.
use Rattle.std.specs.Prelude.{◌≡◌, List, ℕ, ◌≤◌, length}
use Rattle.planning.specs.Plan.{Plan, Strong, cost, depth, encode}
use Rattle.planning.specs.PlanCheck.{most_moves}
use Rattle.task_record.specs.TaskOf.{values_of}
use Rattle.plan_check.specs.Tower.{tower}

-- The bytes are those of a strong plan from the state, in the task of the record, and these are its cost and its length.
pub record StrongPlan (r s plan : List ℕ) (worst bytes : ℕ) : Type 0 where
  pub tree : Plan
  pub written : plan ≡ encode tree
  pub strong : Strong (tower r) tree (values_of r s)
  pub shallow : depth tree ≤ most_moves
  pub costs : worst ≡ cost (tower r) tree
  pub long : bytes ≡ length plan
