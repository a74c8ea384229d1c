-- What passed the check of the first form: long enough, and every cell inside its rule. Assumes nothing.
use Rattle.std.proofs.Common.{◌≡◌, ℕ, ◌<◌, ◌≤◌, true, ltb, List, length, zero-add, arith, ltb-false, le-ltb, leb-true, Ok}
use Rattle.planning.proofs.Test.{by_test}
use Rattle.task_record.proofs.Scanning.{first_all}
use Rattle.stored.specs.FirstLayout.{first_size, first_action_count}
use Rattle.stored.specs.FirstRecord.{first_head_ok, first_cell_ok, first_wrong, first_check}

module _ (r : List ℕ) (passed : first_check r ≡ Ok tt) where
  pub first_long : first_size ≤ length r
  unfolding first_check
  first_long =
      by_test (ltb (length r) first_size)
      (λ t. let h = rw t at passed in let z : ◌≡◌ {A = ℕ} 0 1 = cc in absurd (omega arith))
      (λ t. ltb-false (length r) first_size t)

  none_wrong : first_size ≤ first_wrong r
  unfolding first_check
  none_wrong =
      by_test (ltb (first_wrong r) first_size)
      (λ t. let h = rw (le-ltb (length r) first_size first_long, t) at passed in let z : ◌≡◌ {A = ℕ} 0 1 = cc in absurd (omega arith))
      (λ t. ltb-false (first_wrong r) first_size t)

  pub first_cell : (k : ℕ) → k < first_size → first_cell_ok r k ≡ true
  unfolding first_wrong
  first_cell k l = rw zero-add at (first_all (first_cell_ok r) 0 first_size none_wrong k l)

  pub first_few : first_action_count r ≤ 64
  unfolding first_cell_ok first_head_ok
  first_few = leb-true (first_action_count r) 64 (first_cell 1 (omega arith))
