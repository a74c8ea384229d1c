-- What a call that answers Ok leaves says the task and the patterns that the text says, whatever stands after the first 9,528 bytes.
-- Assumes nothing.
use mathlib.Core.Path.{◌≡◌, refl, ap₂}
use mathlib.Core.List.{List, ◌∷◌, ◌++◌}
use Prim.Native.Nat.{ℕ, zero, suc, ◌+◌, ◌≤◌, ◌<◌}
use native.Mathlib.Nat.{add-zero, zero-add}
use native.Mathlib.Omega.{arith}
use lib.ListN.{length, drop, take, length-drop, get_or-append}
use lib.Seq.{take-append-le, drop-append-le}
use Rattle.planning.specs.Finite.{tabulate}
use Rattle.task_record.specs.Layout.{record_size, at_sizes, at_goal, at_pattern, at_action, at_precondition, at_outcome, at_cost}
use Rattle.task_record.specs.Numbers.{byte, variable_count, action_count, pattern_count, outcome_count}
use Rattle.task_record.specs.Record.{Sound}
use Rattle.task_record.specs.TaskOf.{cells_at, action_of, task_of, patterns_of}
use Rattle.task_record.proofs.SoundTask.{variables_right, actions_right, patterns_right, outcomes_right}
use Rattle.reader.specs.Grammar.{complete, read_whole, read_answer, read_leaves}
use Rattle.std.specs.Prelude.{Ok}
use Rattle.reader.proofs.ReadSound.{read_sound, read_length, read_answers, read_leaves_lem}

same_entries : {A : Type 0} (f g : ℕ → A) (k n : ℕ) → ((i : ℕ) → i < n → f (k + i) ≡ g (k + i)) → tabulate f k n ≡ tabulate g k n
unfolding tabulate
same_entries f g k zero same = refl
same_entries f g k (suc n) same =
    ap₂ ◌∷◌ (rw add-zero at (same 0 (omega arith)))
    (same_entries f g (suc k) n (λ i l. let e : suc k + i ≡ k + suc i = omega arith in rw e (same (suc i) (omega arith))))

-- A sound record of 9,528 bytes, and bytes after it.
module _ (r rest : List ℕ) (whole : length r ≡ record_size) (sound : Sound r) where
  same_cell : (k : ℕ) → k < record_size → byte (r ++ rest) k ≡ byte r k
  same_cell k l = get_or-append r rest 0 k (omega arith)

  same_part : (n k : ℕ) → k + n ≤ record_size → take n (drop k (r ++ rest)) ≡ take n (drop k r)
  same_part n k l = let d = length-drop k r in
      rw (drop-append-le k r rest (omega arith)) (take-append-le n (drop k r) rest (omega arith))

  same_action : (m : ℕ) → m < action_count r → action_of (r ++ rest) m ≡ action_of r m
  unfolding action_of
  same_action m l = let few = actions_right r sound in let o = outcomes_right r sound m l in
      let e = same_entries (λ k. cells_at (r ++ rest) (at_outcome m k)) (λ k. cells_at r (at_outcome m k)) 0 (outcome_count r m)
      (λ k h. same_part 16 (at_outcome m (0 + k)) (omega arith)) in
      rw (same_cell (at_action m) (omega arith), same_cell (at_cost m) (omega arith), same_part 16 (at_precondition m) (omega arith), e)

  pub same_task : task_of (r ++ rest) ≡ task_of r
  unfolding task_of
  same_task = let few = actions_right r sound in let v = variables_right r sound in
      let e = same_entries (action_of (r ++ rest)) (action_of r) 0 (action_count r) (λ m l. rw zero-add (same_action m l)) in
      rw (same_cell 0 (omega arith), same_cell 1 (omega arith), same_part (variable_count r) at_sizes (omega arith), same_part 16 at_goal (omega arith), e)

  pub same_patterns : patterns_of (r ++ rest) ≡ patterns_of r
  unfolding patterns_of
  same_patterns = let few = patterns_right r sound in
      rw (same_cell 2 (omega arith))
      (same_entries (λ p. cells_at (r ++ rest) (at_pattern p)) (λ p. cells_at r (at_pattern p)) 0 (pattern_count r) (λ p l. same_part 16 (at_pattern (0 + p)) (omega arith)))

module _ (text record₀ : List ℕ) (answer : read_answer text record₀ ≡ Ok tt) (r : List ℕ) (says : read_whole text ≡ complete r) where
  pub task_left : task_of (read_leaves text record₀) ≡ task_of r
  task_left = rw (read_leaves_lem text record₀ r (read_answers text record₀ answer).0 says)
      (same_task r (drop record_size record₀) (read_length text r says) (read_sound text r says))

  pub patterns_left : patterns_of (read_leaves text record₀) ≡ patterns_of r
  patterns_left = rw (read_leaves_lem text record₀ r (read_answers text record₀ answer).0 says)
      (same_patterns r (drop record_size record₀) (read_length text r says) (read_sound text r says))
