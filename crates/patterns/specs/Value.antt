-- What the value call answers: document 01, "Value", and "Where a call can say no", lines 5 to 10. Assumes nothing.
use Rattle.std.specs.Prelude.{List, ℕ, length, Result, Ok, Option, Some, None}
use Rattle.planning.specs.Extended.{ℕ∞, fin, inf}
use Rattle.planning.specs.Table.{value}
use Rattle.task_record.specs.Record.{record_check}
use Rattle.task_record.specs.Refusals.{after}
use Rattle.task_record.specs.State.{judge_state}
use Rattle.task_record.specs.TaskOf.{task_of, patterns_of, values_of}
use Rattle.task_record.specs.declared.refusal.Refusal.{Refusal}
use Rattle.patterns.specs.Estimate.{judge_estimate}

-- "The sum of the entries of a state's projections, infinite if one is."
unfoldable pub value_of : ℕ∞ → Option ℕ
value_of (fin n) = Some n
value_of inf = None

-- The value that the lent tables say of a state, whoever wrote them.
unfoldable pub read_value : List ℕ → List ℕ → List ℕ → ℕ∞
read_value r s tabs = value (task_of r).sizes (patterns_of r) tabs (values_of r s)

-- "A call tests top to bottom the lines that concern it": 5 and 6, then 7, 8 and 9, then 10.
abbrev pub state_value : List ℕ → List ℕ → List ℕ → Result (Option ℕ) Refusal
state_value r s tabs = after (record_check r) (λ u. after (judge_estimate r (length tabs)) (λ v. after (judge_state r s) (λ w. Ok (value_of (read_value r s tabs)))))
