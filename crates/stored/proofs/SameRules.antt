-- Today's rule of a cell says the same as that of the first form where the cells are the same, but for the limit. Assumes nothing.
use Rattle.std.proofs.Common.{◌≡◌, ℕ, ◌+◌, ◌-◌, ◌*◌, ◌/◌, ◌%◌, ◌<◌, true, List, get_or, arith, lt-ltb, ne_eqb, leb-true, le-leb, eqb-true, eqb}
use borrow.Author.Tests.{eqb-false}
use Rattle.planning.proofs.Test.{by_test}
use Rattle.task_record.specs.Numbers.{budget_of}
use Rattle.task_record.specs.Record.{head_ok, size_ok, value_ok, assignment_ok, state_ok, pattern_ok, count_ok, action_ok, cell_ok}
use Rattle.stored.specs.FirstLayout.{first_size, first_budget}
use Rattle.stored.specs.FirstRecord.{first_head_ok, first_size_ok, first_assignment_ok, first_start_ok, first_pattern_ok, first_count_ok, first_action_ok, first_cell_ok}

module _ (r e : List ℕ) (same : (k : ℕ) → k < first_size → get_or e k 0 ≡ get_or r k 0) where
  same_rule : (k : ℕ) → k < first_size → (k ≡ 3 → ⊥) → cell_ok e k ≡ first_cell_ok r k
  unfolding cell_ok head_ok budget_of size_ok assignment_ok value_ok state_ok pattern_ok action_ok count_ok first_cell_ok first_head_ok first_budget first_size_ok first_assignment_ok first_start_ok first_pattern_ok first_action_ok first_count_ok
  same_rule k l other =
      let c = (k - 184) % 145 in
      rw (
        lt-ltb k 9464 l,
        ne_eqb k 3 other,
        same k l,
        same 0 (omega arith),
        same 1 (omega arith),
        same 2 (omega arith),
        same 4 (omega arith),
        same 5 (omega arith),
        same 6 (omega arith),
        same 7 (omega arith),
        same (8 + (k - 24)) (omega arith),
        same (8 + (k - 40)) (omega arith),
        same (184 + 145 * ((k - 184) / 145)) (omega arith),
        same (8 + (c - 1)) (omega arith),
        same (8 + (c - 17) % 16) (omega arith),
      )

  limit_rule : first_cell_ok r 3 ≡ true → cell_ok e 3 ≡ true
  unfolding cell_ok head_ok first_cell_ok first_head_ok
  limit_rule h =
      let b = leb-true (get_or r 3 0) 32 h in let s = same 3 (omega arith) in le-leb (get_or e 3 0) 255 (omega arith)

  -- A cell that was right is right.
  pub stays_right : (k : ℕ) → k < first_size → first_cell_ok r k ≡ true → cell_ok e k ≡ true
  stays_right k l h =
      by_test (eqb k 3)
      (λ t. let q = eqb-true k 3 t in rw q (limit_rule (rw q at h)))
      (λ t. rw (same_rule k l (eqb-false k 3 t)) h)
