-- The check is exact: it passes a plan, with a cost and a length, where the record is sound, the state is good, and the bytes are those of a
-- strong plan from that state with at most 255 moves on a path, and cost and length are that plan's; and nowhere else. Assumes nothing.
use Rattle.std.proofs.Common.{◌≡◌, ◌↔◌, ℕ, List, refl, ap, arith, Result, Ok, Err}
use Rattle.planning.specs.PlanCheck.{Checked, passed, refused, check_plan, most_moves}
use Rattle.planning.proofs.PlanCheck.{check_exact}
use Rattle.task_record.specs.Record.{Sound}
use Rattle.task_record.specs.State.{state_check, GoodState}
use Rattle.task_record.specs.Refusals.{after}
use Rattle.task_record.specs.declared.refusal.Refusal.{Refusal}
use Rattle.task_record.proofs.States.{checked_good, good_checked}
use Rattle.task_record.specs.TaskOf.{values_of}
use Rattle.plan_check.specs.declared.check.Passed.{Passed}
use Rattle.plan_check.specs.Tower.{tower}
use Rattle.plan_check.specs.StrongPlan.{StrongPlan}
use Rattle.plan_check.specs.Check.{answer_of, plan_check_of}
use Rattle.plan_check.proofs.Tower.{tower_few, tower_some_outcome}

-- A pass comes from a good state and from planning's pass.
answer-passed : (v : Checked) (c n : ℕ) → answer_of v ≡ Ok (record { cost = c; length = n }) → v ≡ passed c n
unfolding answer_of
answer-passed (passed d m) c n e =
    let p : ◌≡◌ {A = Passed} (record { cost = d; length = m }) (record { cost = c; length = n }) = cc in
    let a = ap (λ (p : Passed). p.cost) p in
    let b = ap (λ (p : Passed). p.length) p in
    cc
answer-passed (refused d m) c n e = let z : ◌≡◌ {A = ℕ} 0 1 = cc in absurd (omega arith)

state_passed : (v : Result Unit Refusal) (x : Result Passed Refusal) (p : Passed) → after v (λ u. x) ≡ Ok p → (v ≡ Ok tt) × (x ≡ Ok p)
state_passed (Ok tt) x p e = (refl, e)
state_passed (Err e) x p h = let z : ◌≡◌ {A = ℕ} 0 1 = cc in absurd (omega arith)

module _ (r s plan : List ℕ) (c n : ℕ) where
  passed_exact : plan_check_of r s plan ≡ Ok (record { cost = c; length = n }) → Sound r × GoodState r s × StrongPlan r s plan c n
  unfolding plan_check_of
  passed_exact e =
      let p = state_passed (state_check r s) (answer_of (check_plan (tower r) most_moves (values_of r s) plan)) _ e in
      let good = checked_good r s p.0 in
      let x = (check_exact (tower r) most_moves (tower_few r good.0) (tower_some_outcome r good.0) (values_of r s) plan c n).0 (answer-passed _ c n p.1) in
      (good.0, good.1, record { tree = x.0; written = x.1; strong = x.2; shallow = x.3; costs = x.4; long = x.5 })

  exact_passed : Sound r × GoodState r s × StrongPlan r s plan c n → plan_check_of r s plan ≡ Ok (record { cost = c; length = n })
  unfolding plan_check_of answer_of
  exact_passed h =
      let x = (check_exact (tower r) most_moves (tower_few r h.0) (tower_some_outcome r h.0) (values_of r s) plan c n).1
      (h.2.tree, h.2.written, h.2.strong, h.2.shallow, h.2.costs, h.2.long) in
      rw (good_checked r s h.0 h.1, x)

  pub plan_check_exact : (plan_check_of r s plan ≡ Ok (record { cost = c; length = n })) ↔ (Sound r × GoodState r s × StrongPlan r s plan c n)
  plan_check_exact = (passed_exact, exact_passed)
