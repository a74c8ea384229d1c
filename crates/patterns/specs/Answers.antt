-- Each answer as the document's numbers, of each case ("Where an answer is an enum, a definition gives, for each of its cases, this paper's number
-- and values") and of each call, by the lines of "Where a call can say no". Assumes nothing.
use Rattle.std.specs.Prelude.{List, ℕ, ltb, length, Result, Option, Some, None}
use Rattle.planning.specs.Extended.{ℕ∞, fin, inf}
use Rattle.planning.specs.Numbers.{Numbers, refusal, answered, refused_if}
use Rattle.planning.specs.Pattern.{Verdict, additive, conflict, verdict}
use Rattle.task_record.specs.Answers.{short_record, bad_cell, bad_state}
use Rattle.task_record.specs.Refusals.{answer_numbers}
use Rattle.task_record.specs.TaskOf.{task_of, patterns_of}
use Rattle.task_record.specs.declared.refusal.Refusal.{Refusal}
use Rattle.patterns.specs.Space.{first_large, entries_needed}
use Rattle.patterns.specs.Value.{read_value}
use Rattle.patterns.specs.declared.verdict.Conflict.{Conflict}

-- Kind 0: the entries needed.
abbrev pub table_numbers : Result ℕ Refusal → Numbers
table_numbers checked = answer_numbers (λ needed. answered 0 needed 0 0) checked

-- Kind 0: yes. Kind 1: no, with the move and the two patterns.
abbrev pub conflict_numbers : Option Conflict → Numbers
conflict_numbers None = answered 0 0 0 0
conflict_numbers (Some found) = answered 1 found.action found.lower found.upper

abbrev pub additivity_numbers : Result (Option Conflict) Refusal → Numbers
additivity_numbers judged = answer_numbers conflict_numbers judged

-- Kind 0: values can be read.
abbrev pub estimate_numbers : Result Unit Refusal → Numbers
estimate_numbers checked = answer_numbers (λ ready. answered 0 0 0 0) checked

-- Kind 0: the value. Kind 1: infinite.
abbrev pub finite_numbers : Option ℕ → Numbers
finite_numbers (Some value) = answered 0 value 0 0
finite_numbers None = answered 1 0 0 0

abbrev pub value_numbers : Result (Option ℕ) Refusal → Numbers
value_numbers answer = answer_numbers finite_numbers answer

-- "tables, value, search: 7, pattern above 4,096 states; lowest such pattern".
unfoldable pub large_pattern : List ℕ → Numbers → Numbers
large_pattern r below = refused_if (ltb (first_large 0 (task_of r).sizes (patterns_of r)) (length (patterns_of r))) 7 (first_large 0 (task_of r).sizes (patterns_of r)) below

-- "tables, value, search: 8, lent tables too short; entries needed".
unfoldable pub table_entries : List ℕ → ℕ
table_entries r = entries_needed (task_of r).sizes (patterns_of r)

unfoldable pub short_tables : List ℕ → ℕ → Numbers → Numbers
short_tables r lent below = refused_if (ltb lent (table_entries r)) 8 (table_entries r) below

-- "value, search: 9, not additive; move".
unfoldable pub unless_conflict : Verdict → Numbers → Numbers
unless_conflict additive below = below
unless_conflict (conflict m p q) below = refusal 9 m

unfoldable pub not_additive : List ℕ → Numbers → Numbers
not_additive r below = unless_conflict (verdict (task_of r) (patterns_of r)) below

-- The lines that concern each call; last what it answers where none of them holds.
unfoldable pub tables_by_lines : List ℕ → ℕ → Numbers
tables_by_lines r lent = short_record r (bad_cell r (large_pattern r (short_tables r lent (answered 0 (table_entries r) 0 0))))

unfoldable pub estimate_by_lines : List ℕ → ℕ → Numbers
estimate_by_lines r lent = short_record r (bad_cell r (large_pattern r (short_tables r lent (not_additive r (answered 0 0 0 0)))))

-- "The verdict is yes, or the lowest move that touches two, with the lowest two patterns".
unfoldable pub verdict_numbers : Verdict → Numbers
verdict_numbers additive = answered 0 0 0 0
verdict_numbers (conflict m p q) = answered 1 m p q

unfoldable pub additivity_by_lines : List ℕ → Numbers
additivity_by_lines r = short_record r (bad_cell r (verdict_numbers (verdict (task_of r) (patterns_of r))))

-- "The sum of the entries of a state's projections, infinite if one is."
unfoldable pub sum_numbers : ℕ∞ → Numbers
sum_numbers (fin sum) = answered 0 sum 0 0
sum_numbers inf = answered 1 0 0 0

unfoldable pub value_by_lines : List ℕ → List ℕ → List ℕ → Numbers
value_by_lines r s tabs = short_record r (bad_cell r (large_pattern r (short_tables r (length tabs) (not_additive r (bad_state r s (sum_numbers (read_value r s tabs)))))))
