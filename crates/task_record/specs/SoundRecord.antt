-- What it takes to have a record as one that was checked. Assumes nothing.
use Rattle.std.specs.Prelude.{ℕ, List, Result, Ok}
use Rattle.task_record.specs.Refusals.{after}
use Rattle.task_record.specs.Record.{record_check}
use Rattle.task_record.specs.declared.refusal.Refusal.{Refusal}

-- "A call tests top to bottom the lines that concern it": 5 and 6 first.
abbrev pub sound_record : List ℕ → Result (List ℕ) Refusal
sound_record r = after (record_check r) (λ u. Ok r)
