-- The check's answer as the numbers that go back to C, of each case and, by the lines of "Where a call can say no", of the call: document 01, "Code
-- places and their forms", "with numbers as result". Assumes nothing.
use Rattle.std.specs.Prelude.{List, ℕ, Result}
use Rattle.planning.specs.Numbers.{Numbers, refusal, answered}
use Rattle.planning.specs.PlanCheck.{Checked, passed, refused, check_plan, most_moves}
use Rattle.task_record.specs.Answers.{short_record, bad_cell, bad_state}
use Rattle.task_record.specs.Refusals.{answer_numbers}
use Rattle.task_record.specs.declared.refusal.Refusal.{Refusal}
use Rattle.task_record.specs.TaskOf.{values_of}
use Rattle.plan_check.specs.Tower.{tower}
use Rattle.plan_check.specs.declared.check.Passed.{Passed}
use Rattle.plan_check.specs.declared.for_c.PlannerAnswer.{PlannerAnswer}

-- Each case of the answer: a pass is number 0, kind 0, then cost and length.
abbrev pub numbers_of : Result Passed Refusal → Numbers
numbers_of answer = answer_numbers (λ p. answered 0 p.cost p.length 0) answer

-- Lines 12 to 17 "are tested at each byte": what the bytes of a plan say, "cost and length" where none of them holds.
unfoldable pub bytes_numbers : Checked → Numbers
bytes_numbers (passed cost length) = answered 0 cost length 0
bytes_numbers (refused number at) = refusal number at

-- The lines that concern the check of a plan.
unfoldable pub plan_by_lines : List ℕ → List ℕ → List ℕ → Numbers
plan_by_lines r s plan = short_record r (bad_cell r (bad_state r s (bytes_numbers (check_plan (tower r) most_moves (values_of r s) plan))))

-- The numbers in the order in which C finds them.
unfoldable pub five_numbers : Numbers → PlannerAnswer
five_numbers n = record { number = n.number; kind = n.kind; first = n.first; second = n.second; third = n.third }
