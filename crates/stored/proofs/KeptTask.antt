-- What passed the old check passes the new one, and its task is the old task, in which every action weighs 1. Assumes nothing.
use Rattle.std.proofs.Common.{◌≡◌, ℕ, zero, suc, ◌+◌, ◌*◌, ◌-◌, ◌<◌, ◌≤◌, true, ltb, List, ◌∷◌, ◌++◌, length, get_or, take, drop, length-append, sym, refl, ◌∙◌, ap₂, add-zero, arith, ext_get_or, ltb-false, ltb-true, lt-ltb, Ok}
use Rattle.planning.proofs.Test.{by_test}
use Rattle.planning.specs.Finite.{tabulate}
use Rattle.task_record.specs.Layout.{record_size, at_cost, at_pattern, at_precondition, at_outcome}
use Rattle.task_record.specs.Numbers.{variable_count, action_count, pattern_count, outcome_count, budget_of}
use Rattle.task_record.specs.Record.{cell_ok, cost_ok, Sound}
use Rattle.task_record.specs.TaskOf.{cells_at, action_of, task_of, patterns_of, start_of}
use Rattle.task_record.proofs.Offsets.{cost_at}
use Rattle.task_record.proofs.Soundness.{every-cell_sound}
use Rattle.task_record.proofs.SoundTask.{cell_of_part, length_of_part, variables_right, actions_right, patterns_right, outcomes_right}
use Rattle.stored.specs.FirstLayout.{first_size, first_action_count, first_budget}
use Rattle.stored.specs.FirstRecord.{first_check}
use Rattle.stored.specs.FirstTask.{first_action, first_task, first_patterns, first_start}
use Rattle.stored.specs.Upgrade.{added_cost, upgraded, target_check, upgrade_answer, upgrade_leaves}
use Rattle.stored.specs.Kept.{Kept}
use Rattle.stored.proofs.Told.{answered_after}
use Rattle.stored.proofs.FirstSound.{first_long, first_cell}
use Rattle.stored.proofs.SameRules.{stays_right}
use Rattle.stored.proofs.UpgradedBytes.{upgraded_length, stored_byte, cost_byte}

-- Two runs of numbers' values that agree.
same_tabulate : {A : Type 0} (f g : ℕ → A) (k n : ℕ) → ((i : ℕ) → i < n → f (k + i) ≡ g (k + i)) → tabulate f k n ≡ tabulate g k n
unfolding tabulate
same_tabulate f g k zero each = refl
same_tabulate f g k (suc n) each =
    ap₂ (λ x xs. x ∷ xs) (rw add-zero at (each 0 (omega arith)))
    (same_tabulate f g (suc k) n (λ i l. let e : suc k + i ≡ k + (i + 1) = omega arith in rw e (each (i + 1) (omega arith))))

-- Today's record e has the bytes of the record r of the first form, which passed its check, and behind them 1 for each used action.
module _ (r e : List ℕ) (passed : first_check r ≡ Ok tt) (long : record_size ≤ length e) (same : (k : ℕ) → k < first_size → get_or e k 0 ≡ get_or r k 0)
    (costs : (m : ℕ) → m < 64 → get_or e (at_cost m) 0 ≡ added_cost r m) where
  cost_right : (m : ℕ) → m < 64 → cell_ok e (at_cost m) ≡ true
  unfolding cost_ok added_cost
  cost_right m l =
      let a = same 1 (omega arith) in
      by_test (ltb m (first_action_count r))
      (λ t. let c = rw t at (costs m l) in rw (cost_at e m, a, t, c))
      (λ t. let c = rw t at (costs m l) in rw (cost_at e m, a, t, c))

  pub stays_sound : Sound e
  stays_sound = every-cell_sound e long (λ k l. by_test (ltb k first_size)
      (λ t. let h = ltb-true k first_size t in stays_right r e same k h (first_cell r passed k h))
      (λ t. let h = ltb-false k first_size t in let q : k ≡ at_cost (k - first_size) = omega arith in rw q (cost_right (k - first_size) (omega arith))))

  -- A part that ends before the costs.
  same_part : (n k : ℕ) → k + n ≤ first_size → take n (drop k e) ≡ take n (drop k r)
  same_part n k l =
      let w = first_long r passed in
      let a = length_of_part e n k (omega arith) in
      let b = length_of_part r n k (omega arith) in
      ext_get_or 0 (take n (drop k e)) (take n (drop k r)) (a ∙ sym b)
      (λ i h. cell_of_part e n k i (omega (arith, a)) ∙ same (k + i) (omega (arith, a)) ∙ sym (cell_of_part r n k i (omega (arith, a))))

  same_action : (m : ℕ) → m < first_action_count r → action_of e m ≡ first_action r m
  unfolding action_of first_action added_cost
  same_action m l =
      let a = same 1 (omega arith) in
      let few = actions_right e stays_sound in
      let b = outcomes_right e stays_sound m (omega arith) in
      let o = same (184 + 145 * m) (omega arith) in
      let p = same_part 16 (at_precondition m) (omega arith) in
      let w = rw (lt-ltb m (first_action_count r) l) at (costs m (omega arith)) in
      let t = same_tabulate (λ k. cells_at e (at_outcome m k)) (λ k. cells_at r (at_outcome m k)) 0 (outcome_count e m) (λ k h. same_part 16 (at_outcome m (0 + k)) (omega arith)) in
      rw (p, t, o, w)

  pub same_task : task_of e ≡ first_task r
  unfolding task_of first_task
  same_task =
      let n = variables_right e stays_sound in
      let few = actions_right e stays_sound in
      let z = same_part (variable_count e) 8 (omega arith) in
      let g = same_part 16 24 (omega arith) in
      let a = same_tabulate (action_of e) (first_action r) 0 (action_count e) (λ m l. let c = same 1 (omega arith) in same_action (0 + m) (omega arith)) in
      rw (z, g, a, same 0 (omega arith), same 1 (omega arith))

  pub same_patterns : patterns_of e ≡ first_patterns r
  unfolding patterns_of first_patterns
  same_patterns =
      let few = patterns_right e stays_sound in
      let a = same_tabulate (λ p. cells_at e (at_pattern p)) (λ p. cells_at r (at_pattern p)) 0 (pattern_count e) (λ p l. same_part 16 (at_pattern (0 + p)) (omega arith)) in
      rw (a, same 2 (omega arith))

  pub same_start : start_of e ≡ first_start r
  unfolding start_of first_start
  same_start =
      let n = variables_right e stays_sound in
      let z = same_part (variable_count e) 40 (omega arith) in
      rw (z, same 0 (omega arith))

  same_budget : budget_of e ≡ first_budget r
  unfolding budget_of first_budget
  same_budget = rw (same 4 (omega arith), same 5 (omega arith), same 6 (omega arith), same 7 (omega arith))

  pub kept : Kept r e
  kept = record {
    sound = stays_sound;
    task = same_task;
    patterns = same_patterns;
    start = same_start;
    limit = same 3 (omega arith);
    budget = same_budget;
  }

-- The record that the tool makes, and so what a longer target holds.
pub upgraded_kept : (r rest : List ℕ) → first_check r ≡ Ok tt → Kept r (upgraded r ++ rest)
upgraded_kept r rest passed =
    let w = first_long r passed in
    let n = length-append (upgraded r) rest in
    let u = upgraded_length r rest w in
    kept r (upgraded r ++ rest) passed (omega arith) (stored_byte r rest w) (cost_byte r rest w)

-- What the call promises where it answers: what the target then holds passes today's check, and says what the stored record says.
pub upgrade_keeps : (r target : List ℕ) → upgrade_answer r (length target) ≡ Ok tt → Kept r (upgrade_leaves r target)
unfolding upgrade_answer upgrade_leaves
upgrade_keeps r target answered =
    rw answered (upgraded_kept r (drop record_size target) (answered_after (first_check r) (λ u. target_check (length target)) answered))
