-- `upgrade`: the old 5 and 6, then 5 for the target, then the record is written. Assumes nothing.
use Rattle.std.proofs.Common.{◌≡◌, ℕ, List, length, sym, ap, ◌∙◌, arith, Result, Err}
use Rattle.std.proofs.lemmas.Result.{err_from_is_err_and}
use Rattle.task_record.specs.declared.refusal.Refusal.{Refusal}
use Rattle.stored.specs.Upgrade.{upgrade_answer}
use Rattle.stored.specs.Answers.{upgrade_numbers, upgrade_by_lines}
use Rattle.stored.proofs.ByLines.{upgrade_told}
use Rattle.stored.proofs.Told.{old_refuses, target_refuses, is_upgraded}
use Rattle.stored.proofs.upgrade.upgrade.Goals as goal

-- An answer that is right is right in numbers.
in_numbers : (r : List ℕ) (n : ℕ) (x : Result Unit Refusal) → x ≡ upgrade_answer r n → upgrade_numbers x ≡ upgrade_by_lines r n
in_numbers r n x e = ap upgrade_numbers e ∙ upgrade_told r n

pub returns-in_err-check_first : goal.returns-in_err-check_first
returns-in_err-check_first c =
    let r = c.args.stored.now in let t = c.args.target.now in
    let e = err_from_is_err_and c.from_residual.result c.from_residual.ensures.1 in
    let w = old_refuses r t _ (sym c.check_first.ensures ∙ c.in_err-check_first.was) in
    let q = e.1 ∙ ap (λ (x : Refusal). Err x) e.2 ∙ w.0 in
    record { value = (q, w.1); numbers = in_numbers r (length t) _ q }

pub returns-then-target-lt-RECORD_SIZE : goal.returns-then-target-lt-RECORD_SIZE
returns-then-target-lt-RECORD_SIZE c =
    let r = c.args.stored.now in let t = c.args.target.now in
    let w = target_refuses r t (sym c.check_first.ensures ∙ c.in_ok-check_first.was) c.if-target-lt-RECORD_SIZE.true in
    record { value = w; numbers = in_numbers r (length t) _ w.0 }

pub write_upgraded-requires : goal.write_upgraded-requires
write_upgraded-requires c = (sym c.check_first.ensures ∙ c.in_ok-check_first.was, omega (arith, c.if-target-lt-RECORD_SIZE.false))

pub returns : goal.returns
returns c =
    let r = c.args.stored.now in let t = c.args.target.now in
    let w = is_upgraded r t (sym c.check_first.ensures ∙ c.in_ok-check_first.was) (omega (arith, c.if-target-lt-RECORD_SIZE.false)) in
    record { value = (w.0, c.write_upgraded.ensures ∙ w.1); numbers = in_numbers r (length t) _ w.0 }
