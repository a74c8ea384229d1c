-- States of 16 bytes: what their check answers, and which are good. Document 01, "Plan check" and "Where a call can say no", line 10.
-- Assumes nothing.
use Rattle.std.specs.Prelude.{◌≡◌, ℕ, ◌<◌, true, cond, List, length, ◌==◌, nat_lt, slice_index, Result, Ok, Err}
use Rattle.task_record.specs.Scan.{first_from}
use Rattle.task_record.specs.Record.{state_ok, record_check}
use Rattle.task_record.specs.Refusals.{after}
use Rattle.task_record.specs.declared.refusal.Refusal.{Refusal}
use Rattle.task_record.specs.declared.refusal.Refusal.TheVariants.{WrongState}

-- "a state of 16 bytes (255 beyond N)": the lowest offset of a bad cell, or 16.
unfoldable pub first_bad_value : List ℕ → List ℕ → ℕ
first_bad_value r s = first_from (λ v. state_ok r v (slice_index s v)) 0 16

-- "10: length not 16, else a bad cell. Second number: 16, else lowest offset."
unfoldable pub judge_state : List ℕ → List ℕ → Result Unit Refusal
judge_state r s =
    cond (length s == 16)
    (cond (nat_lt (first_bad_value r s) 16) (Err (WrongState (first_bad_value r s))) (Ok tt))
    (Err (WrongState 16))

-- "A call tests top to bottom the lines that concern it": 5 and 6 before 10.
abbrev pub state_check : List ℕ → List ℕ → Result Unit Refusal
state_check r s = after (record_check r) (λ u. judge_state r s)

-- "a state of 16 bytes (255 beyond N)", said without the check: sixteen cells, for each variable one of its values "0 up to its size less one",
-- and 255 in each cell beyond. Laws speak of it, no code does.
pub record GoodState (r s : List ℕ) : Type 0 where
  pub whole : length s ≡ 16
  pub cell : (v : ℕ) → v < 16 → state_ok r v (slice_index s v) ≡ true
