-- What a run prints for a text: document 01, "The sample tower". `printed` goes from the text's bytes to the lines' bytes; the lengths of
-- what is lent are its parameters. Assumes nothing.
use Rattle.std.specs.Prelude.{List, ◌++◌, ℕ, Result, Ok, Err}
use Rattle.planning.specs.Extended.{ℕ∞, fin, inf}
use Rattle.planning.specs.Search.{plan_bytes}
use Rattle.planning.specs.Table.{estimate}
use Rattle.reader.specs.Bytes.{bytes}
use Rattle.reader.specs.Grammar.{Whole, complete, refused, read_whole}
use Rattle.task_record.specs.Refusals.{refusal_numbers}
use Rattle.task_record.specs.TaskOf.{task_of, patterns_of, start_of}
use Rattle.task_record.specs.declared.refusal.Refusal.{Refusal}
use Rattle.tables.specs.RecordTables.{tables_prepared}
use Rattle.search.specs.Entry.{task_answer, search_answer, plan_after}
use Rattle.search.specs.declared.entry.SearchAnswer.{SearchAnswer}
use Rattle.search.specs.declared.entry.SearchAnswer.TheVariants.{Found, Over, Spent, None}
use Rattle.report.specs.Lines.{line, number_line, plan_line}

-- "limit=33 prints refused=3/at=23, and every refusal has this form." (By document 02, item 3, limit=256 does.)
unfoldable pub refusal_lines : ℕ → ℕ → List ℕ
refusal_lines number second = number_line (bytes "refused=") number ++ number_line (bytes "at=") second

-- of a refusal, its number and second number
unfoldable pub refused_lines : Refusal → List ℕ
refused_lines e = refusal_lines (refusal_numbers e).number (refusal_numbers e).first

-- "value (or value=infinite)"
unfoldable pub value_line : ℕ∞ → List ℕ
value_line (fin v) = number_line (bytes "value=") v
value_line inf = line (bytes "value=infinite")

-- "answer=found/cost=4/count=7/plan=0,1,3,254,2,3,254"
unfoldable pub found_lines : ℕ → ℕ → List ℕ → List ℕ
found_lines cost count plan = line (bytes "answer=found") ++ (number_line (bytes "cost=") cost ++ (number_line (bytes "count=") count ++ plan_line plan))

-- "answer=spent/round=4/count=6"
unfoldable pub spent_lines : ℕ → ℕ → List ℕ
spent_lines round count = line (bytes "answer=spent") ++ (number_line (bytes "round=") round ++ number_line (bytes "count=") count)

-- "'over' and 'none' print value (or value=infinite), answer and count".
unfoldable pub over_lines : ℕ → List ℕ
over_lines count = line (bytes "answer=over") ++ number_line (bytes "count=") count

unfoldable pub none_lines : ℕ → List ℕ
none_lines count = line (bytes "answer=none") ++ number_line (bytes "count=") count

-- The lines of an answer of the search; v is the value of the start, plan the bytes of a found plan.
unfoldable pub answer_lines : ℕ∞ → List ℕ → Result SearchAnswer Refusal → List ℕ
answer_lines v plan (Ok (Found cost count n)) = value_line v ++ found_lines cost count plan
answer_lines v plan (Ok (Over count)) = value_line v ++ over_lines count
answer_lines v plan (Ok (Spent round count)) = value_line v ++ spent_lines round count
answer_lines v plan (Ok (None count)) = value_line v ++ none_lines count
answer_lines v plan (Err e) = refused_lines e

-- The lines of a record: `lent` table entries and a plan of n bytes are lent to the search.
unfoldable pub record_lines : ℕ → ℕ → List ℕ → List ℕ
record_lines lent n r = answer_lines (estimate (task_of r) (patterns_of r) (start_of r)) (plan_bytes (task_answer r)) (search_answer r lent n)

unfoldable pub lines_of : ℕ → ℕ → Whole → List ℕ
lines_of lent n (complete r) = record_lines lent n r
lines_of lent n (refused e) = refused_lines e

-- What is printed for a text.
unfoldable pub printed : ℕ → ℕ → List ℕ → List ℕ
printed lent n text = lines_of lent n (read_whole text)

-- What the lent tables and the lent plan hold after it: as the search leaves them, and as found where the text is refused.
unfoldable pub tables_of : List ℕ → Whole → List ℕ
tables_of tabs (complete r) = tables_prepared r tabs
tables_of tabs (refused e) = tabs

unfoldable pub plan_of : ℕ → List ℕ → Whole → List ℕ
plan_of lent plan (complete r) = plan_after r lent plan
plan_of lent plan (refused e) = plan

unfoldable pub tables_left : List ℕ → List ℕ → List ℕ
tables_left text tabs = tables_of tabs (read_whole text)

unfoldable pub plan_left : List ℕ → ℕ → List ℕ → List ℕ
plan_left text lent plan = plan_of lent plan (read_whole text)
