-- States of 16 cells of a sound record: the start is one, and so is what the check calls good and nothing else; and the record's cells
-- say of such a state what the task says of the values of its variables. Assumes nothing.
use Rattle.std.proofs.Common.{◌≡◌, ℕ, ◌+◌, ◌<◌, eqb, ltb, List, length, get_or, take, drop, sym, refl, ◌∙◌, zero-add, arith, length-take-le, get_or-take, ltb-false, ltb-true, lt-ltb, eq-eqb, eqb-true, Result, Ok, Err}
use Rattle.planning.specs.Task.{State, meets, apply, action_at, no_action}
use Rattle.planning.proofs.Finite.{length-tabulate, get_or_tabulate}
use Rattle.task_record.specs.Layout.{at_sizes, at_goal, at_start, at_precondition, at_outcome}
use Rattle.task_record.specs.Numbers.{variable_count, action_count, size_of}
use Rattle.task_record.specs.Record.{state_ok, record_check, Sound}
use Rattle.task_record.specs.State.{first_bad_value, judge_state, state_check, GoodState}
use Rattle.task_record.specs.TaskOf.{cells_at, action_of, task_of}
use Rattle.task_record.specs.Refusals.{after}
use Rattle.task_record.specs.declared.refusal.Refusal.{Refusal}
use Rattle.planning.proofs.Test.{by_test}
use Rattle.task_record.proofs.Scanning.{first_all, first_none}
use Rattle.task_record.proofs.Offsets.{start_at}
use Rattle.task_record.proofs.Soundness.{sound_length, sound_cell}
use Rattle.task_record.proofs.Fronts.{meets_front, apply_front}
use Rattle.task_record.proofs.SoundTask.{in_sizes_lem, cell_of_part, length_of_part, variables_right, sizes_length, goal_assigns, precondition_assigns, assigns_unnamed}

after_good : (a j : Result Unit Refusal) → after a (λ u. j) ≡ Ok tt → (a ≡ Ok tt) × (j ≡ Ok tt)
after_good (Ok tt) j h = (refl, h)
after_good (Err e) j h = let z : ◌≡◌ {A = ℕ} 0 1 = cc in absurd (omega arith)

judged_good : (r s : List ℕ) → judge_state r s ≡ Ok tt → GoodState r s
unfolding judge_state first_bad_value
judged_good r s h =
    by_test (eqb (length s) 16)
    (λ t.
    by_test (ltb (first_bad_value r s) 16)
    (λ b. let g = rw (t, b) at h in let z : ◌≡◌ {A = ℕ} 0 1 = cc in absurd (omega arith))
    (λ b.
    let f = ltb-false (first_bad_value r s) 16 b in
    record {
      whole = eqb-true (length s) 16 t;
      cell = λ v l. rw zero-add at (first_all (λ v. state_ok r v (get_or s v 0)) 0 16 f v l);
    }))
    (λ t. let g = rw t at h in let z : ◌≡◌ {A = ℕ} 0 1 = cc in absurd (omega arith))

pub checked_good : (r s : List ℕ) → state_check r s ≡ Ok tt → Sound r × GoodState r s
unfolding Sound
checked_good r s h =
    let a = after_good (record_check r) (judge_state r s) h in (a.0, judged_good r s a.1)

-- And the other way round.
pub good_checked : (r s : List ℕ) → Sound r → GoodState r s → state_check r s ≡ Ok tt
unfolding Sound judge_state first_bad_value
good_checked r s sound good =
    let e : first_bad_value r s ≡ 16 = first_none (λ v. state_ok r v (get_or s v 0)) 0 16 (λ v l. rw zero-add (good.cell v l)) in
    rw (sound, eq-eqb (length s) 16 good.whole, e)

pub action_of_task : (r : List ℕ) (m : ℕ) → m < action_count r → action_at (task_of r) m ≡ action_of r m
unfolding task_of
action_of_task r m l = get_or_tabulate (action_of r) 0 (action_count r) m no_action l ∙ rw zero-add

pub actions_of_task : (r : List ℕ) → length (task_of r).actions ≡ action_count r
unfolding task_of
actions_of_task r = length-tabulate (action_of r) 0 (action_count r)

module _ (r : List ℕ) (sound : Sound r) where
  pub start_good : GoodState r (cells_at r at_start)
  start_good =
      let n = sound_length r sound in
      record {
        whole = length_of_part r 16 at_start (omega arith);
        cell = λ v l. rw (cell_of_part r 16 at_start v l) (sym (start_at r v l) ∙ sound_cell r sound (at_start + v) (omega arith));
      }

  module _ (s : List ℕ) (good : GoodState r s) where
    pub good_values : State (task_of r) (take (variable_count r) s)
    unfolding task_of state_ok
    good_values =
        let w = good.whole in
        let v = variables_right r sound in
        let n = sizes_length r sound in
        let m = length-take-le (variable_count r) s (omega arith) in
        in_sizes_lem (take (variable_count r) (drop at_sizes r)) (take (variable_count r) s) (omega arith)
        (λ i l.
        let h : i < variable_count r = omega arith in
        let x = rw (lt-ltb i (variable_count r) h) at (good.cell i (omega arith)) in
        rw (cell_of_part r (variable_count r) at_sizes i h, get_or-take (variable_count r) s i 0 h) (ltb-true (get_or s i 0) (size_of r i) x))

  -- What the cells say of any sixteen cells is what they say of the values of the variables.
  module _ (s : List ℕ) where
    pub goal_of_values : meets (task_of r).goal (take (variable_count r) s) ≡ meets (cells_at r at_goal) s
    unfolding task_of
    goal_of_values = meets_front (variable_count r) (cells_at r at_goal) s (assigns_unnamed r sound (cells_at r at_goal) (goal_assigns r sound))

    pub precondition_of_values : (m : ℕ) → m < action_count r → meets (cells_at r (at_precondition m)) (take (variable_count r) s) ≡ meets (cells_at r (at_precondition m)) s
    precondition_of_values m l =
        meets_front (variable_count r) (cells_at r (at_precondition m)) s (assigns_unnamed r sound (cells_at r (at_precondition m)) (precondition_assigns r sound m l))

pub outcome_of_values : (r s : List ℕ) (m k : ℕ) → apply (cells_at r (at_outcome m k)) (take (variable_count r) s) ≡ take (variable_count r) (apply (cells_at r (at_outcome m k)) s)
outcome_of_values r s m k = apply_front (variable_count r) (cells_at r (at_outcome m k)) s
