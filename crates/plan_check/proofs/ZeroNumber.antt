-- What C may conclude from the number alone: it is 0 where the plan passed and nowhere else, since every refusal's number is 1 or more. So
-- number 0 means a strong plan, and `first` and `second` are then its cost and its length. Assumes nothing.
use Rattle.std.proofs.Common.{◌≡◌, ℕ, ◌≤◌, List, refl, arith, Result, Ok, Err}
use Rattle.planning.specs.Numbers.{refusal, answered}
use Rattle.task_record.specs.Record.{Sound}
use Rattle.task_record.specs.State.{GoodState}
use Rattle.task_record.specs.Refusals.{refusal_numbers}
use Rattle.task_record.specs.declared.refusal.Refusal.{Refusal}
use Rattle.task_record.specs.declared.refusal.Refusal.TheVariants.{UnexpectedLine, WrongForm, OutOfRange, WrongList, ShortRecord, WrongCell, LargePattern, ShortTables, NotAdditive, WrongState, ShortPlan, UnfinishedPlan, UnknownByte, Inapplicable, EarlyArrival, TrailingBytes, TooDeep, ShortRow}
use Rattle.plan_check.specs.declared.check.Passed.{Passed}
use Rattle.plan_check.specs.Check.{plan_check_of}
use Rattle.plan_check.specs.StrongPlan.{StrongPlan}
use Rattle.plan_check.specs.ForC.{numbers_of}
use Rattle.plan_check.proofs.Exact.{plan_check_exact}

-- No refusal has the number 0.
pub refusal_numbered : (e : Refusal) → 1 ≤ (refusal_numbers e).number
unfolding refusal
refusal_numbered (UnexpectedLine line) = omega arith
refusal_numbered (WrongForm line) = omega arith
refusal_numbered (OutOfRange line) = omega arith
refusal_numbered (WrongList line) = omega arith
refusal_numbered (ShortRecord length) = omega arith
refusal_numbered (WrongCell offset) = omega arith
refusal_numbered (LargePattern pattern) = omega arith
refusal_numbered (ShortTables needed) = omega arith
refusal_numbered (NotAdditive action) = omega arith
refusal_numbered (WrongState offset) = omega arith
refusal_numbered (ShortPlan needed) = omega arith
refusal_numbered (UnfinishedPlan offset) = omega arith
refusal_numbered (UnknownByte offset) = omega arith
refusal_numbered (Inapplicable offset) = omega arith
refusal_numbered (EarlyArrival offset) = omega arith
refusal_numbered (TrailingBytes offset) = omega arith
refusal_numbered (TooDeep offset) = omega arith
refusal_numbered (ShortRow length) = omega arith

module _ (r s plan : List ℕ) where
  pub zero_means_strong : (numbers_of (plan_check_of r s plan)).number ≡ 0 →
      Sound r × GoodState r s × StrongPlan r s plan (numbers_of (plan_check_of r s plan)).first (numbers_of (plan_check_of r s plan)).second
  unfolding answered
  zero_means_strong h = by (plan_check_of r s plan) refl h
    where
      by : (a : Result Passed Refusal) → plan_check_of r s plan ≡ a → (numbers_of a).number ≡ 0 → Sound r × GoodState r s × StrongPlan r s plan (numbers_of a).first (numbers_of a).second
      by (Ok p) e h = (plan_check_exact r s plan p.cost p.length).0 e
      by (Err e) f h = let l = refusal_numbered e in absurd (omega arith)

  pub strong_means_zero : (c n : ℕ) → Sound r × GoodState r s × StrongPlan r s plan c n → numbers_of (plan_check_of r s plan) ≡ answered 0 c n 0
  strong_means_zero c n h = rw ((plan_check_exact r s plan c n).1 h)
