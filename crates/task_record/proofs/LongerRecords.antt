-- A record that is longer than it need be is judged by its first 9,528 bytes. Assumes nothing.
use Rattle.std.proofs.Common.{◌≡◌, ℕ, ◌+◌, ◌-◌, ◌/◌, ◌%◌, ◌<◌, ◌≤◌, List, length, take, sym, zero-add, arith, length-take-le, get_or-take, le-ltb}
use Rattle.task_record.specs.Layout.{record_size, at_sizes, at_goal, at_start, at_action, action_size, in_precondition, in_outcomes}
use Rattle.task_record.specs.Numbers.{byte, budget_of}
use Rattle.task_record.specs.Record.{head_ok, size_ok, value_ok, assignment_ok, state_ok, pattern_ok, count_ok, action_ok, cost_ok, cell_ok, first_bad, record_check}
use Rattle.task_record.proofs.Scanning.{first_same}

-- Two records with the same 9,528 bytes: each cell is inside its rule in both or in neither, since a rule reads cells of the record alone.
module _ (r e : List ℕ) (same : (k : ℕ) → k < record_size → byte e k ≡ byte r k) where
  pub same_rule : (k : ℕ) → k < record_size → cell_ok e k ≡ cell_ok r k
  unfolding cell_ok head_ok budget_of size_ok assignment_ok value_ok state_ok pattern_ok action_ok count_ok cost_ok
  same_rule k l =
      let c = (k - at_action 0) % action_size in
      rw (
        same k l,
        same 0 (omega arith),
        same 1 (omega arith),
        same 2 (omega arith),
        same 3 (omega arith),
        same 4 (omega arith),
        same 5 (omega arith),
        same 6 (omega arith),
        same 7 (omega arith),
        same (at_sizes + (k - at_goal)) (omega arith),
        same (at_sizes + (k - at_start)) (omega arith),
        same (at_action ((k - at_action 0) / action_size)) (omega arith),
        same (at_sizes + (c - in_precondition)) (omega arith),
        same (at_sizes + (c - in_outcomes) % 16) (omega arith),
      )

  -- so the check answers the same
  pub same_check : record_size ≤ length r → record_size ≤ length e → record_check e ≡ record_check r
  unfolding record_check first_bad
  same_check long longer =
      let f = first_same (cell_ok e) (cell_ok r) 0 record_size (λ i l. rw zero-add (same_rule i l)) in
      rw (le-ltb (length r) record_size long, le-ltb (length e) record_size longer, f)

-- The check of a record that is long enough is that of its first 9,528 bytes.
pub check_of_front : (e : List ℕ) → record_size ≤ length e → record_check e ≡ record_check (take record_size e)
check_of_front e long =
    let n = length-take-le record_size e long in
    same_check (take record_size e) e (λ k l. sym (get_or-take record_size e k 0 l)) (omega arith) long
