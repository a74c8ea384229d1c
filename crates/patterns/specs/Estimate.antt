-- When values can be read from lent tables: document 01, "Where a call can say no", lines 5 to 9. Assumes nothing.
use Rattle.std.specs.Prelude.{List, ℕ, Result, Ok, Err, Option, Some, None}
use Rattle.planning.specs.Pattern.{verdict}
use Rattle.task_record.specs.Record.{record_check}
use Rattle.task_record.specs.Refusals.{after}
use Rattle.task_record.specs.TaskOf.{task_of, patterns_of}
use Rattle.task_record.specs.declared.refusal.Refusal.{Refusal}
use Rattle.task_record.specs.declared.refusal.Refusal.TheVariants.{NotAdditive}
use Rattle.patterns.specs.Space.{judge_tables}
use Rattle.patterns.specs.Additivity.{additivity_of}
use Rattle.patterns.specs.declared.verdict.Conflict.{Conflict}

-- "9 not additive: move".
abbrev pub after_verdict : Option Conflict → Result Unit Refusal
after_verdict None = Ok tt
after_verdict (Some found) = Err (NotAdditive found.action)

-- "A call tests top to bottom the lines that concern it": 7 and 8, then 9; before them 5 and 6.
unfoldable pub judge_estimate : List ℕ → ℕ → Result Unit Refusal
judge_estimate r lent = after (judge_tables (task_of r).sizes (patterns_of r) lent) (λ needed. after_verdict (additivity_of (verdict (task_of r) (patterns_of r))))

abbrev pub estimate_check : List ℕ → ℕ → Result Unit Refusal
estimate_check r lent = after (record_check r) (λ u. judge_estimate r lent)
