-- What the check of a plan answers, on the bytes of record, state and plan: document 01, "Plan check" and "Where a call can say no", lines
-- 5, 6, 10 and 12 to 17. Assumes nothing.
use Rattle.std.specs.Prelude.{cond, List, ℕ, eqb, ltb, length, Result, Ok, Err}
use Rattle.planning.specs.PlanCheck.{Checked, passed, refused, check_plan, most_moves}
use Rattle.task_record.specs.State.{state_check}
use Rattle.task_record.specs.Refusals.{after}
use Rattle.task_record.specs.declared.refusal.Refusal.{Refusal}
use Rattle.task_record.specs.declared.refusal.Refusal.TheVariants.{UnfinishedPlan, UnknownByte, Inapplicable, EarlyArrival, TrailingBytes, TooDeep}
use Rattle.task_record.specs.TaskOf.{values_of}
use Rattle.plan_check.specs.declared.check.Passed.{Passed}
use Rattle.plan_check.specs.Tower.{tower}

-- The refusal of each of the numbers 12 to 17 that planning's check gives.
unfoldable pub refusal_of : ℕ → ℕ → Refusal
refusal_of number at =
    cond (eqb number 12) (UnfinishedPlan at)
    (cond (eqb number 13) (UnknownByte at)
    (cond (eqb number 14) (Inapplicable at)
    (cond (eqb number 15) (EarlyArrival at)
    (cond (eqb number 16) (TrailingBytes at) (TooDeep at)))))

-- "answers cost and length", or a refusal.
unfoldable pub answer_of : Checked → Result Passed Refusal
answer_of (passed cost length) = Ok (record { cost = cost; length = length })
answer_of (refused number at) = Err (refusal_of number at)

-- Where nothing is pending: 16 "bytes after the plan", or the plan passes.
unfoldable pub end_of : List ℕ → ℕ → ℕ → Checked
end_of plan end cost = cond (ltb end (length plan)) (refused 16 end) (passed cost end)

-- "A call tests top to bottom the lines that concern it": 5, 6 and 10 before the plan is read.
unfoldable pub plan_check_of : List ℕ → List ℕ → List ℕ → Result Passed Refusal
plan_check_of r s plan = after (state_check r s) (λ u. answer_of (check_plan (tower r) most_moves (values_of r s) plan))
