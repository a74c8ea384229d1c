-- `planner_check_plan`: the five numbers of each case of the answer. Assumes nothing.
use Rattle.std.proofs.Common.{sym, ap, ◌∙◌}
use Rattle.planning.specs.Numbers.{answered}
use Rattle.plan_check.specs.ForC.{numbers_of, five_numbers}
use Rattle.plan_check.proofs.for_c.planner_check_plan.Goals as goal

pub returns-in-Err : goal.returns-in-Err
returns-in-Err c =
    c.refuse.ensures ∙ ap (λ x. five_numbers (numbers_of x)) (sym c.in-Err.is ∙ c.check_plan.ensures.value)

pub returns-in-Ok : goal.returns-in-Ok
unfolding five_numbers answered
returns-in-Ok c = ap (λ x. five_numbers (numbers_of x)) (sym c.in-Ok.is ∙ c.check_plan.ensures.value)
