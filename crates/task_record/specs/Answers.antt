-- The answers of the two checks as the document's numbers, of each case ("Where an answer is an enum, a definition gives, for each of its cases,
-- this paper's number and values") and of each call, by the lines of "Where a call can say no". Assumes nothing.
use Rattle.std.specs.Prelude.{ℕ, not, List, length, ◌==◌, nat_lt, Result}
use Rattle.planning.specs.Numbers.{Numbers, answered, refused_if}
use Rattle.task_record.specs.Layout.{record_size}
use Rattle.task_record.specs.Record.{first_bad}
use Rattle.task_record.specs.State.{first_bad_value}
use Rattle.task_record.specs.Refusals.{answer_numbers}
use Rattle.task_record.specs.declared.refusal.Refusal.{Refusal}

-- Kind 0: the record is sound.
abbrev pub record_numbers : Result Unit Refusal → Numbers
record_numbers checked = answer_numbers (λ u. answered 0 0 0 0) checked

-- Kind 0: the record is sound, and may be had as one that was checked.
abbrev pub sound_numbers : Result (List ℕ) Refusal → Numbers
sound_numbers checked = answer_numbers (λ cells. answered 0 0 0 0) checked

-- Kind 0: the state is one of the record's task.
abbrev pub state_numbers : Result Unit Refusal → Numbers
state_numbers checked = answer_numbers (λ u. answered 0 0 0 0) checked

-- "any record: 5, lent record below 9,464 bytes; its length"; the bytes are now 9,528.
unfoldable pub short_record : List ℕ → Numbers → Numbers
short_record r below = refused_if (nat_lt (length r) record_size) 5 (length r) below

-- "record read: 6, cell outside its rule; lowest offset (budget 4)".
unfoldable pub bad_cell : List ℕ → Numbers → Numbers
bad_cell r below = refused_if (nat_lt (first_bad r) record_size) 6 (first_bad r) below

-- "state: 10, length not 16, else a bad cell; 16, else lowest offset".
unfoldable pub bad_state : List ℕ → List ℕ → Numbers → Numbers
bad_state r s below = refused_if (not (length s == 16)) 10 16 (refused_if (nat_lt (first_bad_value r s) 16) 10 (first_bad_value r s) below)

-- The lines that concern the check of a record, and of a state.
unfoldable pub record_by_lines : List ℕ → Numbers
record_by_lines r = short_record r (bad_cell r (answered 0 0 0 0))

-- The line that concerns the check of a state, where the record was checked before.
unfoldable pub judged_by_lines : List ℕ → List ℕ → Numbers
judged_by_lines r s = bad_state r s (answered 0 0 0 0)

unfoldable pub state_by_lines : List ℕ → List ℕ → Numbers
state_by_lines r s = short_record r (bad_cell r (bad_state r s (answered 0 0 0 0)))
