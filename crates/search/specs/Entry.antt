-- What the search of a record answers, and what it leaves in the plan's buffer: document 01, "Search" and "Where a call can say no", lines
-- 5 to 9 and 11. Assumes nothing.
use Rattle.std.specs.Prelude.{◌≡◌, ℕ, ◌+◌, ◌/◌, ◌≤◌, cond, List, ◌++◌, length, drop, Result, Ok, Err, nat_le, nat_lt}
use Rattle.planning.specs.Examinations.{Examined, examinations}
use Rattle.planning.specs.Numbers.{Numbers, answered, refused_if}
use Rattle.planning.specs.Pattern.{Additive}
use Rattle.planning.specs.Plan.{encode}
use Rattle.planning.specs.Search.{found, over, spent, none, plan_bytes, answer}
use Rattle.planning.specs.Search as planning
use Rattle.planning.specs.Table.{tables, Small}
use Rattle.task_record.specs.Answers.{short_record, bad_cell}
use Rattle.task_record.specs.Numbers.{action_count, variable_count, limit_of, budget_of}
use Rattle.task_record.specs.Record.{Sound}
use Rattle.task_record.specs.Refusals.{after, where_ok}
use Rattle.task_record.specs.Refusals as refusals
use Rattle.task_record.specs.TaskOf.{task_of, patterns_of, start_of}
use Rattle.task_record.specs.declared.refusal.Refusal.{Refusal}
use Rattle.task_record.specs.declared.refusal.Refusal.TheVariants.{ShortPlan}
use Rattle.patterns.specs.Answers.{large_pattern, short_tables, not_additive}
use Rattle.patterns.specs.Estimate.{estimate_check}
use Rattle.packed_task.specs.Packed.{pack_by, low, compiled}
use Rattle.search.specs.Examination.{Applying}
use Rattle.search.specs.Answer.{buffer_of}
use Rattle.search.specs.declared.entry.SearchAnswer.{SearchAnswer}
use Rattle.search.specs.declared.entry.SearchAnswer.TheVariants as outcome

-- The search of the record's task with its patterns, from its start, with its limit and a budget; and with the record's budget.
abbrev pub answer_within : ℕ → List ℕ → planning.Answer
answer_within budget r = answer (task_of r) (patterns_of r) budget (limit_of r) (start_of r)

unfoldable pub task_answer : List ℕ → planning.Answer
task_answer r = answer_within (budget_of r) r

-- The examinations that it makes, in their order over all rounds.
unfoldable pub task_examinations : List ℕ → List (Examined (List ℕ))
task_examinations r = examinations (task_of r) (patterns_of r) (budget_of r) (limit_of r) (start_of r)

-- With a buffer of n bytes: cost, count and length of a found plan; "11 found plan longer than buffer: bytes needed".
unfoldable pub search_of : ℕ → planning.Answer → Result SearchAnswer Refusal
search_of n (found p d c) = cond (nat_le (length (encode p)) n) (Ok (outcome.Found d c (length (encode p)))) (Err (ShortPlan (length (encode p))))
search_of n (over c) = Ok (outcome.Over c)
search_of n (spent d c) = Ok (outcome.Spent d c)
search_of n (none c) = Ok (outcome.None c)

-- "A call tests top to bottom the lines that concern it": 5 to 9 before the search.
unfoldable pub search_answer : List ℕ → ℕ → ℕ → Result SearchAnswer Refusal
search_answer r lent n = after (estimate_check r lent) (λ ready. search_of n (task_answer r))

-- "A found plan stands at the start of the lent buffer, 255 after it; with any other answer, and with refusal 11, the whole buffer holds
-- 255." "Apart from 11, refused calls leave every lent slice as found."
unfoldable pub plan_after : List ℕ → ℕ → List ℕ → List ℕ
plan_after r lent plan = where_ok (estimate_check r lent) (buffer_of (length plan) (task_answer r)) plan

-- Kind 0: found, with cost, count and length. 1: over, with the count. 2: spent, with round and count. 3: none, with
-- the count.
abbrev pub outcome_numbers : SearchAnswer → Numbers
outcome_numbers (outcome.Found d c n) = answered 0 d c n
outcome_numbers (outcome.Over c) = answered 1 0 c 0
outcome_numbers (outcome.Spent d c) = answered 2 d c 0
outcome_numbers (outcome.None c) = answered 3 0 c 0

abbrev pub search_numbers : Result SearchAnswer Refusal → Numbers
search_numbers answer = refusals.answer_numbers outcome_numbers answer

-- The same of what planning's search answers.
unfoldable pub answer_numbers : planning.Answer → Numbers
answer_numbers (found p d c) = answered 0 d c (length (encode p))
answer_numbers (over c) = answered 1 0 c 0
answer_numbers (spent d c) = answered 2 d c 0
answer_numbers (none c) = answered 3 0 c 0

-- "search: 11, found plan longer than buffer; bytes needed". What is not found has no bytes.
unfoldable pub long_plan : ℕ → planning.Answer → Numbers → Numbers
long_plan n a below = refused_if (nat_lt n (length (plan_bytes a))) 11 (length (plan_bytes a)) below

-- The lines that concern the search; last what it answers where none of them holds.
unfoldable pub search_by_lines : List ℕ → ℕ → ℕ → Numbers
search_by_lines r lent n = short_record r (bad_cell r (large_pattern r (short_tables r lent (not_additive r (long_plan n (task_answer r) (answer_numbers (task_answer r)))))))

-- "The count of examinations is carried in every answer": it is n. A refusal carries none.
abbrev pub Counts : Result SearchAnswer Refusal → ℕ → Type 0
Counts (Ok (outcome.Found d c k)) n = c ≡ n
Counts (Ok (outcome.Over c)) n = c ≡ n
Counts (Ok (outcome.Spent d c)) n = c ≡ n
Counts (Ok (outcome.None c)) n = c ≡ n
Counts (Err e) n = Unit {0}

-- The tables of the record's task stand at the start of the lent ones.
pub record HoldsTables (r tabs : List ℕ) : Type 0 where
  pub built : tabs ≡ tables (task_of r) (patterns_of r) ++ drop (length (tables (task_of r) (patterns_of r))) tabs

-- All that the search of a record with a budget goes by is prepared.
pub record Prepared (r : List ℕ) (budget : ℕ) (task sets : List ℕ) (start : ℕ) (tabs : List ℕ) : Type 0 where
  -- Nothing was refused.
  pub sound : Sound r
  pub small : Small (task_of r) (patterns_of r)
  pub additive : Additive (task_of r) (patterns_of r)
  -- The count of examinations fits a slot of the memory.
  pub budgeted : budget ≤ 1000000
  -- The words are the compiled task's, the sets hold the actions that apply, and the start is a word.
  pub words : task ≡ compiled (task_of r)
  pub applying : Applying task sets (action_count r) ((variable_count r + 1) / 2)
  pub started : start ≡ pack_by low (start_of r)
  -- The tables are built.
  pub holds : HoldsTables r tabs
