-- The answer of the call as the document's numbers, of each case ("Where an answer is an enum, a definition gives, for each of its cases, this
-- paper's number and values") and of the call, by the lines of "Where a call can say no". Assumes nothing.
use Rattle.std.specs.Prelude.{ℕ, List, length, nat_lt, Result}
use Rattle.planning.specs.Numbers.{Numbers, answered, refused_if}
use Rattle.task_record.specs.Layout.{record_size}
use Rattle.task_record.specs.Refusals.{answer_numbers}
use Rattle.task_record.specs.declared.refusal.Refusal.{Refusal}
use Rattle.stored.specs.FirstLayout.{first_size}
use Rattle.stored.specs.FirstRecord.{first_wrong}

-- Kind 0: the record is upgraded.
unfoldable pub upgrade_numbers : Result Unit Refusal → Numbers
upgrade_numbers done = answer_numbers (λ u. answered 0 0 0 0) done

-- "the old 5 and 6": "lent record below 9,464 bytes; its length", "cell outside its rule; lowest offset (budget 4)".
unfoldable pub first_short : List ℕ → Numbers → Numbers
first_short r below = refused_if (nat_lt (length r) first_size) 5 (length r) below

unfoldable pub first_bad_cell : List ℕ → Numbers → Numbers
first_bad_cell r below = refused_if (nat_lt (first_wrong r) first_size) 6 (first_wrong r) below

-- "then 5 for a target below 9,528".
unfoldable pub short_target : ℕ → Numbers → Numbers
short_target n below = refused_if (nat_lt n record_size) 5 n below

-- The lines that concern the call, in its order.
unfoldable pub upgrade_by_lines : List ℕ → ℕ → Numbers
upgrade_by_lines stored n = first_short stored (first_bad_cell stored (short_target n (answered 0 0 0 0)))
