-- `state_value`: in numbers lines 5 to 10, one by one. Assumes nothing.
use Rattle.std.proofs.Common.{rules, ◌≡◌, ℕ, List, length, refl, ap, ◌∙◌, Result, Ok, Option}
use Rattle.planning.specs.Extended.{ℕ∞, fin, inf}
use Rattle.task_record.specs.Answers.{short_record, bad_cell, bad_state}
use Rattle.task_record.specs.Refusals.{answer_numbers, after}
use Rattle.task_record.specs.State.{judge_state}
use Rattle.task_record.specs.declared.refusal.Refusal.{Refusal}
use Rattle.task_record.proofs.ByLines.{after_record_lem, after_state_lem}
use Rattle.patterns.specs.Estimate.{judge_estimate}
use Rattle.patterns.specs.Value.{value_of, read_value, state_value}
use Rattle.patterns.specs.Answers.{large_pattern, short_tables, not_additive, finite_numbers, value_numbers, sum_numbers, value_by_lines}
use Rattle.patterns.proofs.ByLines.{after_estimate_lem}
use Rattle.patterns.proofs.value.state_value.Goals as goal

sum_told : (n : ℕ∞) → finite_numbers (value_of n) ≡ sum_numbers n
unfolding value_of sum_numbers
sum_told (fin n) = refl
sum_told inf = refl

told : (r s tabs : List ℕ) (x : Result (Option ℕ) Refusal) → x ≡ state_value r s tabs → value_numbers x ≡ value_by_lines r s tabs
unfolding value_by_lines
told r s tabs x e = let f = finite_numbers in let v = value_of (read_value r s tabs) in
    ap (answer_numbers f) e ∙ after_record_lem f r (λ u. after (judge_estimate r (length tabs)) (λ u. after (judge_state r s) (λ u. Ok v)))
    ∙ ap (λ t. short_record r (bad_cell r t)) (after_estimate_lem f r (length tabs) (λ u. after (judge_state r s) (λ u. Ok v)))
    ∙ ap (λ t. short_record r (bad_cell r (large_pattern r (short_tables r (length tabs) (not_additive r t))))) (after_state_lem f r s (λ u. Ok v) ∙ ap (bad_state r s) (sum_told (read_value r s tabs)))

pub returns-in_err-record-clause-numbers : goal.returns-in_err-record-clause-numbers
returns-in_err-record-clause-numbers c = let a = c.args in told a.rec.now a.state.now a.tables.now _ (search rules)

pub returns-in_err-judge_estimate-clause-numbers : goal.returns-in_err-judge_estimate-clause-numbers
returns-in_err-judge_estimate-clause-numbers c = let a = c.args in told a.rec.now a.state.now a.tables.now _ (search rules)

pub returns-in_err-check_state-clause-numbers : goal.returns-in_err-check_state-clause-numbers
returns-in_err-check_state-clause-numbers c = let a = c.args in told a.rec.now a.state.now a.tables.now _ (search rules)

pub returns-clause-numbers : goal.returns-clause-numbers
returns-clause-numbers c = let a = c.args in told a.rec.now a.state.now a.tables.now (Ok c.read_value.result) (search rules)
