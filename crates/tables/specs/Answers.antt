-- The answers of build and spread as the document's numbers, of each case ("Where an answer is an enum, a definition gives, for each of its
-- cases, this paper's number and values") and, of the spread, by the lines of "Where a call can say no". Assumes nothing.
use Rattle.std.specs.Prelude.{ℕ, List, nat_lt, Result}
use Rattle.planning.specs.Numbers.{Numbers, answered, refused_if}
use Rattle.planning.specs.Spread.{row_size}
use Rattle.task_record.specs.Answers.{short_record, bad_cell}
use Rattle.task_record.specs.Refusals.{answer_numbers}
use Rattle.task_record.specs.declared.refusal.Refusal.{Refusal}
use Rattle.patterns.specs.Answers.{large_pattern, short_tables}
use Rattle.tables.specs.Spread.{states_named}

-- Kind 0: the entries written.
abbrev pub table_build_numbers : Result ℕ Refusal → Numbers
table_build_numbers built = answer_numbers (λ written. answered 0 written 0 0) built

-- Kind 0: values can be read, and all is prepared.
abbrev pub prepare_numbers : Result ℕ Refusal → Numbers
prepare_numbers prepared = answer_numbers (λ start. answered 0 0 0 0) prepared

-- Kind 0: the states counted.
abbrev pub spread_numbers : Result ℕ Refusal → Numbers
spread_numbers counted = answer_numbers (λ states. answered 0 states 0 0) counted

-- "18: row below 4,097, with its length", and of item 3: "then infinite, with 18 following that length", which is now 1,044,227.
unfoldable pub short_row : ℕ → Numbers → Numbers
short_row row below = refused_if (nat_lt row row_size) 18 row below

-- "A shorter row is turned down after the tables' own checks."
unfoldable pub spread_by_lines : List ℕ → ℕ → ℕ → ℕ → Numbers
spread_by_lines r p lent row = short_record r (bad_cell r (large_pattern r (short_tables r lent (short_row row (answered 0 (states_named r p) 0 0)))))
