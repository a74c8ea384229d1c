-- What the search answers is, in numbers, what the lines of "Where a call can say no" say that concern it: 5 to 9 and 11. Assumes nothing.
use Rattle.std.proofs.Common.{◌≡◌, ℕ, leb, List, length, ap, ◌∙◌, arith, le-ltb, lt-ltb, leb-false, leb-true, Result}
use Rattle.planning.specs.Numbers.{Numbers, refused_if}
use Rattle.planning.specs.Plan.{encode}
use Rattle.planning.specs.Search.{found, over, spent, none, plan_bytes}
use Rattle.planning.specs.Search as planning
use Rattle.planning.proofs.Test.{by_test}
use Rattle.task_record.specs.Answers.{short_record, bad_cell}
use Rattle.task_record.specs.Record.{record_check}
use Rattle.task_record.specs.Refusals.{after}
use Rattle.task_record.specs.Refusals as refusals
use Rattle.task_record.specs.declared.refusal.Refusal.{Refusal}
use Rattle.task_record.proofs.ByLines.{after_record_lem, after_after}
use Rattle.patterns.specs.Answers.{large_pattern, short_tables, not_additive}
use Rattle.patterns.specs.Estimate.{judge_estimate}
use Rattle.patterns.proofs.ByLines.{after_estimate_lem}
use Rattle.search.specs.Entry.{task_answer, search_of, search_answer, outcome_numbers, search_numbers, answer_numbers, long_plan, search_by_lines}
use Rattle.search.specs.declared.entry.SearchAnswer.{SearchAnswer}

-- Line 11.
long_plan-told : (n : ℕ) (a : planning.Answer) → search_numbers (search_of n a) ≡ long_plan n a (answer_numbers a)
unfolding search_of long_plan answer_numbers refused_if plan_bytes
long_plan-told n (found p d c) = by_test (leb (length (encode p)) n)
    (λ t. rw (t, le-ltb n (length (encode p)) (leb-true (length (encode p)) n t)))
    (λ t. rw (t, lt-ltb n (length (encode p)) (leb-false (length (encode p)) n t)))
long_plan-told n (over c) = rw (le-ltb n 0 (omega arith))
long_plan-told n (spent d c) = rw (le-ltb n 0 (omega arith))
long_plan-told n (none c) = rw (le-ltb n 0 (omega arith))

pub search-told : (r : List ℕ) (lent n : ℕ) → search_numbers (search_answer r lent n) ≡ search_by_lines r lent n
unfolding search_answer search_by_lines
search-told r lent n = let next : Unit {0} → Result SearchAnswer Refusal = (λ u. search_of n (task_answer r)) in
    ap (λ (x : Result SearchAnswer Refusal). refusals.answer_numbers outcome_numbers x) (after_after (record_check r) (λ u. judge_estimate r lent) next)
    ∙ after_record_lem outcome_numbers r (λ u. after (judge_estimate r lent) next)
    ∙ ap (λ (t : Numbers). short_record r (bad_cell r t)) (after_estimate_lem outcome_numbers r lent next
    ∙ ap (λ (t : Numbers). large_pattern r (short_tables r lent (not_additive r t))) (long_plan-told n (task_answer r)))
