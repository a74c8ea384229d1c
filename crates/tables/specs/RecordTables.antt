-- What the build of a record's tables answers and leaves, and what a search needs before it starts: document 01, "Patterns and their tables"
-- and "Where a call can say no", lines 5 to 9. Assumes nothing.
use Rattle.std.specs.Prelude.{ℕ, ◌+◌, ◌/◌, ◌≤◌, List, ◌++◌, length, drop, Result, Ok}
use Rattle.planning.specs.Table.{tables, Small}
use Rattle.task_record.specs.Numbers.{variable_count, action_count}
use Rattle.task_record.specs.Record.{Sound}
use Rattle.task_record.specs.TaskOf.{task_of, patterns_of, start_of}
use Rattle.patterns.specs.Space.{entries_needed, table_check}
use Rattle.patterns.specs.Estimate.{estimate_check}
use Rattle.packed_task.specs.Packed.{pack_by, low, compiled}
use Rattle.packed_task.specs.Sets.{sets_filled}
use Rattle.task_record.specs.Refusals.{after, where_ok}
use Rattle.task_record.specs.declared.refusal.Refusal.{Refusal}

-- "7 pattern above 4,096 states: lowest such pattern. 8 lent tables too short: entries needed", and before them 5 and 6; 9 concerns "value,
-- search" and not the build. Else the number of entries written.
abbrev pub table_build : List ℕ → ℕ → Result ℕ Refusal
table_build r lent = table_check r lent

-- "Tables follow each other in pattern order; entries after the last stay untouched."
unfoldable pub built_over : List ℕ → List ℕ → List ℕ
built_over r tabs = tables (task_of r) (patterns_of r) ++ drop (entries_needed (task_of r).sizes (patterns_of r)) tabs

-- There is room: each pattern "has at most 4,096 states", and the lent entries hold all tables.
pub record Fits (r : List ℕ) (lent : ℕ) : Type 0 where
  pub small : Small (task_of r) (patterns_of r)
  pub room : entries_needed (task_of r).sizes (patterns_of r) ≤ lent

-- Where nothing is refused: the record is sound, and there is room.
pub record Buildable (r : List ℕ) (lent : ℕ) : Type 0 where
  pub sound : Sound r
  pub small : Small (task_of r) (patterns_of r)
  pub room : entries_needed (task_of r).sizes (patterns_of r) ≤ lent

-- What the build leaves in the lent tables: "Apart from 11, refused calls leave every lent slice as found."
abbrev pub tables_built : List ℕ → List ℕ → List ℕ
tables_built r tabs = where_ok (table_check r (length tabs)) (built_over r tabs) tabs

-- What the preparation of a search leaves, which tests 9 too ("Search builds its own"): the tables, the words of the compiled task, the sets of
-- applying actions (of all its actions, within no mask, over as many bytes as its variables take), and the start as a word, which it answers.
abbrev pub tables_prepared : List ℕ → List ℕ → List ℕ
tables_prepared r tabs = where_ok (estimate_check r (length tabs)) (built_over r tabs) tabs

abbrev pub words_prepared : List ℕ → ℕ → List ℕ → List ℕ
words_prepared r lent words = where_ok (estimate_check r lent) (compiled (task_of r)) words

abbrev pub sets_prepared : List ℕ → ℕ → List ℕ → List ℕ
sets_prepared r lent sets = where_ok (estimate_check r lent)
    (sets_filled (compiled (task_of r)) 18446744073709551615 (action_count r) ((variable_count r + 1) / 2) sets) sets

abbrev pub start_prepared : List ℕ → ℕ → Result ℕ Refusal
start_prepared r lent = after (estimate_check r lent) (λ ready. Ok (pack_by low (start_of r)))
