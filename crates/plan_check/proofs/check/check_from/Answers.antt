-- `check_from`: an answer that is not 17 is the same where more moves are allowed. Assumes nothing.
use Rattle.std.proofs.Common.{◌≡◌, ℕ, sym, ap, ◌∙◌, arith}
use Rattle.planning.specs.Numbers.{Numbers, refusal}
use Rattle.planning.specs.PlanCheck.{most_moves}
use Rattle.task_record.specs.Refusals.{refusal_numbers}
use Rattle.task_record.specs.declared.refusal.Refusal.TheVariants.{TooDeep}
use Rattle.task_record.specs.TaskOf.{values_of}
use Rattle.plan_check.specs.Tower.{tower}
use Rattle.plan_check.proofs.Deeper.{answer_deeper}
use Rattle.plan_check.proofs.check.check_from.Goals as goal

pub returns-in-Ok : goal.returns-in-Ok
returns-in-Ok c = answer_deeper (tower c.args.checked.now) 32 most_moves (omega arith) (values_of c.args.checked.now c.args.start) c.args.plan.now _
    (sym c.in-Ok.is ∙ c.check_within.ensures) (λ at e. let z : ◌≡◌ {A = ℕ} 0 1 = cc in absurd (omega arith))

pub returns-else-numbers-eq17 : goal.returns-else-numbers-eq17
unfolding refusal
returns-else-numbers-eq17 c = answer_deeper (tower c.args.checked.now) 32 most_moves (omega arith) (values_of c.args.checked.now c.args.start) c.args.plan.now _
    (sym c.in-Err.is ∙ c.check_within.ensures) (λ at e. let k : c.in-Err.refusal ≡ TooDeep at = cc in c.if-numbers-eq17.false (ap (λ (n : Numbers). n.number) (c.numbers.ensures ∙ ap refusal_numbers k)))
