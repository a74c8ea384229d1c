-- The starred examples of the plan check hold of the record that the reader leaves for the sample tower's text, whatever was lent to it, by
-- computation. A record that was read is sound, so its cells need not be checked again. Assumes nothing.
use Rattle.std.proofs.Common.{◌≡◌, ℕ, ◌≤◌, List, map, length, refl, ap, ◌∙◌, Result, Ok}
use borrow.Author.Tests.{le-ltb}
use Rattle.planning.specs.Finite.{choose, tabulate}
use Rattle.planning.specs.System.{applies}
use Rattle.planning.specs.Task.{meets, apply, permits, system}
use Rattle.planning.specs.PlanCheck.{demand, check_byte, check_bytes, check_plan, most_moves}
use Rattle.task_record.specs.Layout.{record_size, at_start}
use Rattle.task_record.specs.TaskOf.{cells_at, action_of, task_of, start_of}
use Rattle.reader.specs.Bytes.{bytes}
use Rattle.reader.specs.Text.{index_of, lines_of, pieces, has_key, digits, value, well_formed, number_of}
use Rattle.reader.specs.Lists.{pair_of, item_of, pair_fits, pair_step, list_from, listed, no_items, list_of}
use Rattle.reader.specs.Grammar.{next_due, take_number, budget_bytes, take_budget, take_list, number_line, budget_line, list_line, take_due, take_line, read_from, unused_action, unused_actions, blank, read_whole, record_left_by, read_answer, read_leaves}
use Rattle.reader.proofs.ReadSound.{record_left_sound}
use Rattle.tables.specs.Sample.{tower}
use Rattle.task_record.specs.declared.refusal.Refusal.{Refusal}
use Rattle.plan_check.specs.Check.{refusal_of, answer_of, plan_check_of}
use Rattle.plan_check.specs.declared.check.Passed.{Passed}
use Rattle.planner.specs.Samples.{sample_text, Check, checks}
use Rattle.planner.proofs.StartChecked.{check_at_start}

-- The answers of planning's check at the start of a record.
unfoldable answers_of : List ℕ → List (Result Passed Refusal)
answers_of r = map (λ e. answer_of (check_plan (system (task_of r)) most_moves (start_of r) e.plan)) checks

module _ (lent : List ℕ) where
  computed : answers_of (record_left_by lent (read_whole sample_text)) ≡ map (λ e. e.expected) checks
  unfolding choose tabulate applies meets apply permits system demand check_byte check_bytes check_plan action_of task_of start_of bytes index_of lines_of pieces has_key digits value well_formed number_of pair_of item_of pair_fits pair_step list_from listed no_items list_of next_due take_number budget_bytes take_budget take_list number_line budget_line list_line take_due take_line read_from unused_action unused_actions blank read_whole refusal_of answer_of tower sample_text checks answers_of
  computed = refl

  module _ (long : record_size ≤ length lent) where
    sample_left : read_leaves sample_text lent ≡ record_left_by lent (read_whole sample_text)
    unfolding read_leaves
    sample_left = rw (le-ltb (length lent) record_size long)

    sample_read : read_answer sample_text lent ≡ Ok tt
    unfolding bytes index_of lines_of pieces has_key digits value well_formed number_of pair_of item_of pair_fits pair_step list_from listed no_items list_of next_due take_number budget_bytes take_budget take_list number_line budget_line list_line take_due take_line read_from unused_action unused_actions blank read_whole read_answer tower sample_text
    sample_read = rw (le-ltb (length lent) record_size long)

    pub checks_of_text : map (λ e. plan_check_of (read_leaves sample_text lent) (cells_at (read_leaves sample_text lent) at_start) e.plan) checks ≡ map (λ e. e.expected) checks
    unfolding answers_of
    checks_of_text =
        ap (λ (f : Check → Result Passed Refusal). map f checks) (λ i e. check_at_start (read_leaves sample_text lent) (record_left_sound sample_text lent sample_read) e.plan i)
        ∙ ap answers_of sample_left ∙ computed
