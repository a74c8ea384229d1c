-- What a sound record is: long enough, and every cell inside its rule. Assumes nothing.
use Rattle.std.proofs.Common.{◌≡◌, ℕ, ◌+◌, ◌-◌, ◌<◌, ◌≤◌, true, ltb, List, length, zero-add, arith, ltb-false, le-ltb}
use Rattle.task_record.specs.Layout.{record_size, at_sizes, at_goal, at_start, at_pattern, at_action, at_cost}
use Rattle.task_record.specs.Scan.{first_from}
use Rattle.task_record.specs.Record.{cell_ok, first_bad, record_check, Sound}
use Rattle.task_record.specs.Columns.{FrontPassed}
use Rattle.planning.proofs.Test.{by_test}
use Rattle.task_record.proofs.Scanning.{first_all, first_none, first_on}

module _ (r : List ℕ) (sound : Sound r) where
  pub sound_length : record_size ≤ length r
  unfolding Sound record_check
  sound_length =
      by_test (ltb (length r) record_size)
      (λ t. let h = rw t at sound in let z : ◌≡◌ {A = ℕ} 0 1 = cc in absurd (omega arith))
      (λ t. ltb-false (length r) record_size t)

  none_bad : record_size ≤ first_bad r
  unfolding Sound record_check
  none_bad =
      by_test (ltb (first_bad r) record_size)
      (λ t. let h = rw (le-ltb (length r) record_size sound_length, t) at sound in let z : ◌≡◌ {A = ℕ} 0 1 = cc in absurd (omega arith))
      (λ t. ltb-false (first_bad r) record_size t)

  pub sound_cell : (k : ℕ) → k < record_size → cell_ok r k ≡ true
  unfolding first_bad
  sound_cell k l = rw zero-add at (first_all (cell_ok r) 0 record_size none_bad k l)

  pub sound_sizes : first_from (cell_ok r) at_sizes 16 ≡ at_goal
  sound_sizes = first_none (cell_ok r) at_sizes 16 (λ i l. sound_cell (at_sizes + i) (omega arith))

-- And nothing else.
pub every-cell_sound : (r : List ℕ) → record_size ≤ length r → ((k : ℕ) → k < record_size → cell_ok r k ≡ true) → Sound r
unfolding Sound record_check first_bad
every-cell_sound r long all =
    let e = first_none (cell_ok r) 0 record_size (λ i l. rw zero-add (all i l)) in
    rw (le-ltb (length r) record_size long, e)

-- The parts of a record that are passed one after the other.
pub parts_sound : (r : List ℕ) → record_size ≤ length r → first_from (cell_ok r) 0 at_sizes ≡ at_sizes → FrontPassed r
    → first_from (cell_ok r) (at_pattern 0) (at_action 0 - at_pattern 0) ≡ at_action 0 → first_from (cell_ok r) (at_action 0) (at_action 64 - at_action 0) ≡ at_action 64 → first_from (cell_ok r) (at_cost 0) (record_size - at_cost 0) ≡ record_size → Sound r
unfolding Sound record_check first_bad
parts_sound r long head front patterns actions costs =
    let ok = cell_ok r in
    let a = first_on ok 0 at_sizes 16 head front.sizes in
    let b = first_on ok 0 at_goal 16 a front.goal in
    let c = first_on ok 0 at_start 16 b front.start in
    let d = first_on ok 0 (at_pattern 0) (at_action 0 - at_pattern 0) c patterns in
    let e = first_on ok 0 (at_action 0) (at_action 64 - at_action 0) d actions in
    let f = first_on ok 0 (at_cost 0) (record_size - at_cost 0) e costs in
    rw (le-ltb (length r) record_size long, f)
