-- What the spread of a pattern's table answers and leaves: document 02, item 1, "Spread of a table", with the row's length of item 3: "Item 1's
-- row has a count per value from 0 to 1,044,225, then infinite, with 18 following that length". Assumes nothing.
use Rattle.std.specs.Prelude.{ℕ, cond, List, [], ◌++◌, length, drop, nat_lt, slice_index_or, Result, Ok, Err}
use Rattle.planning.specs.Extended.{ℕ∞}
use Rattle.planning.specs.Table.{state_count, table}
use Rattle.planning.specs.Spread.{row_size, spread}
use Rattle.task_record.specs.Numbers.{pattern_count}
use Rattle.task_record.specs.TaskOf.{task_of, patterns_of}
use Rattle.patterns.specs.Space.{table_check}
use Rattle.tables.specs.RecordTables.{built_over}
use Rattle.task_record.specs.Refusals.{after, where_ok}
use Rattle.task_record.specs.declared.refusal.Refusal.{Refusal}
use Rattle.task_record.specs.declared.refusal.Refusal.TheVariants.{ShortRow}

-- The costs of the abstract states that a pattern number names, and how many there are. "A pattern number not below P names no states".
unfoldable pub costs_named : List ℕ → ℕ → List ℕ∞
costs_named r p = cond (nat_lt p (pattern_count r)) (table (task_of r) (slice_index_or (patterns_of r) p [])) []

unfoldable pub states_named : List ℕ → ℕ → ℕ
states_named r p = cond (nat_lt p (pattern_count r)) (state_count (task_of r).sizes (slice_index_or (patterns_of r) p [])) 0

-- "A shorter row is turned down after the tables' own checks. (18: row below 4,097, with its length.)" The 4,097 are now 1,044,227. Else the number
-- of states counted.
abbrev pub table_spread : List ℕ → ℕ → ℕ → ℕ → Result ℕ Refusal
table_spread r p lent row = after (table_check r lent) (λ n. cond (nat_lt row row_size) (Err (ShortRow row)) (Ok (states_named r p)))

-- "From tables it builds in lent entries and leaves so"; "Apart from 11, refused calls leave every lent slice as found."
abbrev pub tables_spread : List ℕ → ℕ → List ℕ → ℕ → List ℕ
tables_spread r p tabs row = where_ok (table_spread r p (length tabs) row) (built_over r tabs) tabs

-- "In a lent row of 4,097 counts", now 1,044,227; "The rest of a longer row stays untouched."
abbrev pub row_spread : List ℕ → ℕ → ℕ → List ℕ → List ℕ
row_spread r p lent row = where_ok (table_spread r p lent (length row)) (spread (costs_named r p) ++ drop row_size row) row
