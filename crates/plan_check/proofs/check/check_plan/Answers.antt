-- `check_plan`: a state that is judged good, of a record that was checked, passes the state check. In numbers the lines 5, 6 and 10, then those of the plan's bytes. Assumes nothing.
use Rattle.std.proofs.Common.{rules, ◌≡◌, ℕ, List, sym, ap, ◌∙◌, arith, refl, Result, Ok, Err}
use lib.Seq.{take_all}
use Rattle.planning.specs.PlanCheck.{check_plan, most_moves}
use Rattle.task_record.specs.Record.{record_check}
use Rattle.task_record.specs.SoundRecord.{sound_record}
use Rattle.task_record.specs.State.{judge_state, state_check}
use Rattle.task_record.specs.Refusals.{after}
use Rattle.task_record.specs.Answers.{short_record, bad_cell, bad_state}
use Rattle.task_record.specs.declared.refusal.Refusal.{Refusal}
use Rattle.task_record.proofs.States.{checked_good}
use Rattle.task_record.proofs.ByLines.{after_check}
use Rattle.task_record.specs.TaskOf.{values_of}
use Rattle.plan_check.specs.declared.check.Passed.{Passed}
use Rattle.plan_check.specs.Tower.{tower}
use Rattle.plan_check.specs.Check.{answer_of, plan_check_of}
use Rattle.plan_check.specs.ForC.{numbers_of, plan_by_lines}
use Rattle.plan_check.proofs.Numbered.{plan_told}
use Rattle.plan_check.proofs.check.check_plan.Goals as goal

told : (r s plan : List ℕ) → (x : Result Passed Refusal) → x ≡ plan_check_of r s plan → numbers_of x ≡ plan_by_lines r s plan
unfolding plan_check_of plan_by_lines
told r s plan x e =
    let y = check_plan (tower r) most_moves (values_of r s) plan in
    ap numbers_of e ∙ after_check _ r s (λ u. answer_of y) ∙ ap (λ n. short_record r (bad_cell r (bad_state r s n))) (plan_told (tower r) most_moves (values_of r s) plan)

-- A record that was checked is the one that was lent.
same_record : (a : Result Unit Refusal) (r checked : List ℕ) → after a (λ u. Ok r) ≡ Ok checked → (a ≡ Ok tt) × (r ≡ checked)
same_record (Ok tt) r checked h = let e : r ≡ checked = cc in (refl, e)
same_record (Err e) r checked h = let z : ◌≡◌ {A = ℕ} 0 1 = cc in absurd (omega arith)

passed : (r s checked : List ℕ) → sound_record r ≡ Ok checked → judge_state checked s ≡ Ok tt → (r ≡ checked) × (state_check r s ≡ Ok tt)
passed r s checked h j = let a = same_record (record_check r) r checked h in (a.1, rw (a.0, a.1) j)

read_after : (r s plan : List ℕ) → state_check r s ≡ Ok tt → answer_of (check_plan (tower r) most_moves (values_of r s) plan) ≡ plan_check_of r s plan
unfolding plan_check_of
read_after r s plan h = rw h

pub cells_at-requires : goal.cells_at-requires
cells_at-requires c =
    let good = passed _ _ _ (sym c.new.ensures.value ∙ c.in_ok-checked.was) (sym c.check_state.ensures.value ∙ c.in_ok-check_state.was) in
    let whole = (checked_good _ _ good.1).1.whole in
    omega arith

pub returns-in_err-checked-clause-numbers : goal.returns-in_err-checked-clause-numbers
unfolding plan_check_of
returns-in_err-checked-clause-numbers c = let a = c.args in told a.rec.now a.state.now a.plan.now _ (search rules)

pub returns-in_err-check_state-clause-numbers : goal.returns-in_err-check_state-clause-numbers
unfolding plan_check_of
returns-in_err-check_state-clause-numbers c = let a = c.args in told a.rec.now a.state.now a.plan.now _ (search rules)

pub returns : goal.returns
returns c =
    let good = passed _ _ _ (sym c.new.ensures.value ∙ c.in_ok-checked.was) (sym c.check_state.ensures.value ∙ c.in_ok-check_state.was) in
    let whole = (checked_good _ _ good.1).1.whole in
    let same = c.cells_at.ensures ∙ take_all 16 c.args.state.now (omega arith) in
    let e = (rw (same, ← good.0) at c.check_from.ensures) ∙ read_after _ _ c.args.plan.now good.1 in
    record { value = e; numbers = told _ _ _ _ e }
