-- What the additivity call answers: document 01, "Additive", and "Where a call can say no", lines 5 and 6. Assumes nothing.
use Rattle.std.specs.Prelude.{List, ℕ, Result, Ok, Option, Some, None}
use Rattle.planning.specs.Pattern.{Verdict, additive, conflict, verdict}
use Rattle.task_record.specs.Record.{record_check}
use Rattle.task_record.specs.Refusals.{after}
use Rattle.task_record.specs.TaskOf.{task_of, patterns_of}
use Rattle.task_record.specs.declared.refusal.Refusal.{Refusal}
use Rattle.patterns.specs.declared.verdict.Conflict.{Conflict}

-- "The verdict is yes, or the lowest move that touches two, with the lowest two patterns".
unfoldable pub additivity_of : Verdict → Option Conflict
additivity_of additive = None
additivity_of (conflict m p q) = Some (record { action = m; lower = p; upper = q })

-- "A call tests top to bottom the lines that concern it".
abbrev pub additivity : List ℕ → Result (Option Conflict) Refusal
additivity r = after (record_check r) (λ u. Ok (additivity_of (verdict (task_of r) (patterns_of r))))
