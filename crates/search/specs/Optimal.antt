-- What demand 3 says of a found plan, as one record about a task's record and a plan's buffer. Assumes nothing.
use Rattle.std.specs.Prelude.{◌≡◌, ℕ, ◌-◌, ◌≤◌, List, ◌++◌, length, replicate}
use Rattle.planning.specs.Plan.{Plan, Strong, cost, encode}
use Rattle.planning.specs.PlanCheck.{passed, check_plan, most_moves}
use Rattle.planning.specs.Task.{system}
use Rattle.task_record.specs.TaskOf.{task_of, start_of}

-- "A found plan is a strong plan from the start, the cost reported is its cost, and every other strong plan from the start costs at least
-- as much." "A found plan stands at the start of the lent buffer, 255 after it": d is the cost reported, k the number of the plan's bytes.
-- The plan check passes it with the same two numbers.
pub record Optimal (r buffer : List ℕ) (d k : ℕ) : Type 0 where
  pub plan : Plan
  pub written : buffer ≡ encode plan ++ replicate (length buffer - k) 255
  pub bytes : length (encode plan) ≡ k
  pub strong : Strong (system (task_of r)) plan (start_of r)
  pub costs : cost (system (task_of r)) plan ≡ d
  pub cheapest : (q : Plan) → Strong (system (task_of r)) q (start_of r) → d ≤ cost (system (task_of r)) q
  pub passes : check_plan (system (task_of r)) most_moves (start_of r) (encode plan) ≡ passed d k
