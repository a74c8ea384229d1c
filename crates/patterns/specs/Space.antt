-- Which tables can hold the tables of patterns: document 01, "Patterns and their tables" and "Where a call can say no", lines 7 and 8.
-- Assumes nothing.
use Rattle.std.specs.Prelude.{cond, List, [], ◌∷◌, ℕ, suc, ◌+◌, ltb, length, Result, Ok, Err}
use Rattle.planning.specs.Finite.{tabulate}
use Rattle.planning.specs.Table.{state_count}
use Rattle.task_record.specs.Numbers.{size_of}
use Rattle.task_record.specs.Record.{record_check}
use Rattle.task_record.specs.Refusals.{after}
use Rattle.task_record.specs.TaskOf.{task_of, patterns_of}
use Rattle.task_record.specs.declared.refusal.Refusal.{Refusal}
use Rattle.task_record.specs.declared.refusal.Refusal.TheVariants.{LargePattern, ShortTables}

-- "8 sizes (16 bytes)": of sixteen variables; "Unused cells: size .. 0".
unfoldable pub all_sizes : List ℕ → List ℕ
all_sizes r = tabulate (size_of r) 0 16

-- "A pattern has at most 4,096 states".
abbrev pub most_states : ℕ
most_states = 4096

-- The number of the lowest pattern above that, or of the first past the last; the patterns are numbered from k.
unfoldable pub first_large : ℕ → List ℕ → List (List ℕ) → ℕ
first_large k zs [] = k
first_large k zs (p ∷ ps) = cond (ltb most_states (state_count zs p)) k (first_large (suc k) zs ps)

-- "Tables follow each other in pattern order".
unfoldable pub entries_needed : List ℕ → List (List ℕ) → ℕ
entries_needed zs [] = 0
entries_needed zs (p ∷ ps) = state_count zs p + entries_needed zs ps

-- "7 pattern above 4,096 states: lowest such pattern. 8 lent tables too short: entries needed." Else the entries needed.
unfoldable pub judge_tables : List ℕ → List (List ℕ) → ℕ → Result ℕ Refusal
judge_tables zs ps lent =
    cond (ltb (first_large 0 zs ps) (length ps)) (Err (LargePattern (first_large 0 zs ps)))
    (cond (ltb lent (entries_needed zs ps)) (Err (ShortTables (entries_needed zs ps))) (Ok (entries_needed zs ps)))

-- "A call tests top to bottom the lines that concern it": 5 and 6 first.
abbrev pub table_check : List ℕ → ℕ → Result ℕ Refusal
table_check r lent = after (record_check r) (λ u. judge_tables (task_of r).sizes (patterns_of r) lent)
