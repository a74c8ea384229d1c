-- What the count in an answer of the search counts: "The count in each answer is the one made". Assumes nothing.
use Rattle.std.proofs.Common.{ℕ, leb, List, length, refl, Result, Ok, Err}
use Rattle.planning.specs.Plan.{encode}
use Rattle.planning.specs.Search.{found, over, spent, none, answer_count}
use Rattle.planning.specs.Search as planning
use Rattle.planning.proofs.Examinations.{answer-counts}
use Rattle.planning.proofs.Test.{by_test}
use Rattle.task_record.specs.Numbers.{limit_of, budget_of}
use Rattle.task_record.specs.Refusals.{after}
use Rattle.task_record.specs.TaskOf.{task_of, patterns_of, start_of}
use Rattle.task_record.specs.declared.refusal.Refusal.{Refusal}
use Rattle.patterns.specs.Estimate.{estimate_check}
use Rattle.search.specs.Entry.{task_answer, task_examinations, search_of, search_answer, Counts}
use Rattle.search.specs.declared.entry.SearchAnswer.{SearchAnswer}

-- The answer with a buffer carries the count of planning's answer, and a refusal before the search carries none.
carried : (n : ℕ) (a : planning.Answer) → Counts (search_of n a) (answer_count a)
unfolding search_of
carried n (found p d c) = by_test (leb (length (encode p)) n) (λ t. rw t refl) (λ t. rw t tt)
carried n (over c) = refl
carried n (spent d c) = refl
carried n (none c) = refl

after_check : (e : Result Unit Refusal) (x : Result SearchAnswer Refusal) (n : ℕ) → Counts x n → Counts (after e (λ u. x)) n
after_check (Ok u) x n c = c
after_check (Err e) x n c = tt

-- For every record, lent tables and buffer: the count of an answer is the number of examinations that the definition's search of the
-- record's task makes.
pub answer_counted : (r : List ℕ) (lent n : ℕ) → Counts (search_answer r lent n) (length (task_examinations r))
unfolding search_answer task_answer task_examinations
answer_counted r lent n = after_check (estimate_check r lent) (search_of n (task_answer r)) (length (task_examinations r))
    (rw (← answer-counts (task_of r) (patterns_of r) (budget_of r) (limit_of r) (start_of r)) (carried n (task_answer r)))
