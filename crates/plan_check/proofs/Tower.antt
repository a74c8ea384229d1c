-- Laws of the system that a sound record stands for: what the code reads from sixteen cells is what the task says of the values.
-- Assumes nothing.
use mathlib.Core.Path.{◌≡◌, sym}
use mathlib.Core.List.{List, map}
use Prim.Native.Nat.{ℕ, ◌<◌, ◌≤◌}
use native.Mathlib.Omega.{arith}
use lib.ListN.{take, drop}
use Rattle.planning.specs.Finite.{Some, tabulate}
use Rattle.planning.specs.Table.{most_weight}
use Rattle.planning.specs.Task.{meets, apply, permits, system}
use Rattle.planning.proofs.Task.{task_filled}
use Rattle.task_record.specs.Layout.{at_goal, at_precondition, at_outcome}
use Rattle.task_record.specs.Numbers.{action_count, outcome_count}
use Rattle.task_record.specs.Record.{Sound}
use Rattle.task_record.specs.TaskOf.{cells_at, action_of, task_of, values_of}
use Rattle.task_record.proofs.SoundTask.{actions_right, costs_right, sound_well_formed}
use Rattle.task_record.proofs.States.{action_of_task, actions_of_task, goal_of_values, precondition_of_values}
use Rattle.plan_check.specs.Tower.{tower}

pub tower_actions : (r : List ℕ) → (tower r).actions ≡ action_count r
unfolding tower system
tower_actions r = actions_of_task r

-- The successors, one for each outcome, in order.
pub tower_successors : (r : List ℕ) (m : ℕ) (s : List ℕ) → m < (tower r).actions →
    (tower r).successors m s ≡ map (λ o. apply o s) (tabulate (λ k. cells_at r (at_outcome m k)) 0 (outcome_count r m))
unfolding tower system action_of
tower_successors r m s l = let k : m < action_count r = omega (arith, tower_actions r) in rw (action_of_task r m k)

pub tower_weight : (r : List ℕ) (m : ℕ) → m < (tower r).actions → (tower r).weight m ≡ (action_of r m).weight
unfolding tower system
tower_weight r m l = let k : m < action_count r = omega (arith, tower_actions r) in rw (action_of_task r m k)

module _ (r : List ℕ) (sound : Sound r) where
  pub tower_light : (m : ℕ) → m < (tower r).actions → (action_of r m).weight ≤ most_weight
  unfolding action_of
  tower_light m l = let k : m < action_count r = omega (arith, tower_actions r) in (costs_right r sound m k).1

  pub tower_few : (tower r).actions ≤ 254
  tower_few = omega (arith, tower_actions r, actions_right r sound)

  pub tower_some_outcome : (m : ℕ) (s : List ℕ) → m < (tower r).actions → Some (λ x. Unit {0}) ((tower r).successors m s)
  unfolding tower system
  tower_some_outcome m s l = task_filled (task_of r) (sound_well_formed r sound) m s l

  pub tower_goal : (s : List ℕ) → meets (take 16 (drop at_goal r)) s ≡ (tower r).goal (values_of r s)
  unfolding tower system task_of values_of
  tower_goal s = sym (goal_of_values r sound s)

  pub tower_enabled : (s : List ℕ) (m : ℕ) → m < (tower r).actions → meets (take 16 (drop (at_precondition m) r)) s ≡ (tower r).enabled m (values_of r s)
  unfolding tower system permits action_of values_of
  tower_enabled s m l = let k : m < action_count r = omega (arith, tower_actions r) in rw (action_of_task r m k) (sym (precondition_of_values r sound s m k))
