-- What a line that was written stores is what the record has, so what was read stays, and what the next line needs is there. Assumes nothing.
use mathlib.Core.Path.{◌≡◌, refl, sym, ap, ◌∙◌}
use mathlib.Core.Bool.{false, cond, false≢true}
use mathlib.Core.List.{List, [], ◌∷◌}
use Prim.Native.Nat.{ℕ, zero, suc, ◌+◌, ◌-◌, ◌≤◌, ◌<◌}
use native.Mathlib.Nat.{add-zero}
use native.Mathlib.Omega.{arith}
use lib.Dec.{ltb}
use lib.ListN.{length, get_or}
use lib.Seq.{length-sets}
use borrow.Author.Tests.{ltb-true, ltb-false}
use Rattle.task_record.specs.Layout.{record_size, at_variables, at_actions, at_patterns, at_budget, at_sizes, at_goal, at_start, at_pattern, at_action, at_precondition, at_outcome, at_cost}
use Rattle.task_record.specs.Numbers.{byte, variable_count, action_count, pattern_count, budget_of, outcome_count}
use Rattle.task_record.specs.Record.{Sound}
use Rattle.task_record.specs.TaskOf.{cells_at}
use Rattle.reader.specs.Grammar.{action_from, pattern_from, next_due, ended, budget_bytes}
use Rattle.reader.specs.declared.order.Due.{Due}
use Rattle.reader.specs.declared.order.Due.TheVariants.{Vars, Size, Moves, Need, Outcomes, Eff, Goal, Start, Patterns, Pattern, Limit, Budget, End, Cost}
use Rattle.planning.proofs.Test.{by_test}
use Rattle.task_record.proofs.Parts.{Bytes}
use Rattle.task_record.proofs.Soundness.{sound_length}
use Rattle.task_record.proofs.SoundTask.{cell_of_part, length_of_part, variables_right, actions_right, patterns_right, outcomes_right}
use Rattle.reader.proofs.StoredCells.{inside_or_outside, outside_sets, inside_sets}
use Rattle.reader.proofs.WrittenLines.{Same, Base, Valid, Known, place_of, row_of, stored}

-- how many cells a line stores
abbrev pub length_of : Due → ℕ
length_of Vars = 1
length_of (Size i) = 1
length_of Moves = 1
length_of (Need m) = 16
length_of (Cost m) = 1
length_of (Outcomes m) = 1
length_of (Eff m k) = 16
length_of Goal = 16
length_of Start = 16
length_of Patterns = 1
length_of (Pattern p) = 16
length_of Limit = 1
length_of Budget = 4
length_of End = 0

-- The cell k is stored by the line.
abbrev pub Covers : ℕ → Due → Type 0
Covers k due = (place_of due ≤ k) × (k < place_of due + length_of due)

-- What is stored as one cell.
pub one_cell : (t : List ℕ) (at j : ℕ) → j < 1 → get_or (byte t at ∷ []) j 0 ≡ byte t (at + j)
one_cell t at zero l = rw add-zero
one_cell t at (suc j) l = absurd (omega arith)

module _ (t : List ℕ) (sound : Sound t) where
  -- A line stores inside of the record.
  pub place_inside : (due : Due) → Valid t due → place_of due + length_of due ≤ record_size
  place_inside Vars v = omega arith
  place_inside (Size i) v = let n = variables_right t sound in omega arith
  place_inside Moves v = omega arith
  place_inside (Need m) v = let n = actions_right t sound in omega arith
  place_inside (Cost m) v = let n = actions_right t sound in omega arith
  place_inside (Outcomes m) v = let n = actions_right t sound in omega arith
  place_inside (Eff m k) v = let n = actions_right t sound in let o = outcomes_right t sound m v.0 in omega arith
  place_inside Goal v = omega arith
  place_inside Start v = omega arith
  place_inside Patterns v = omega arith
  place_inside (Pattern p) v = let n = patterns_right t sound in omega arith
  place_inside Limit v = omega arith
  place_inside Budget v = omega arith
  place_inside End v = omega arith

  part_whole : (at : ℕ) → at + 16 ≤ record_size → length (cells_at t at) ≡ 16
  part_whole at l = let n = sound_length t sound in length_of_part t 16 at (omega arith)

  pub row_whole : (due : Due) → Valid t due → length (row_of t due) ≡ length_of due
  unfolding budget_bytes
  row_whole Vars v = refl
  row_whole (Size i) v = refl
  row_whole Moves v = refl
  row_whole (Need m) v = part_whole (at_precondition m) (place_inside (Need m) v)
  row_whole (Cost m) v = refl
  row_whole (Outcomes m) v = refl
  row_whole (Eff m k) v = part_whole (at_outcome m k) (place_inside (Eff m k) v)
  row_whole Goal v = part_whole at_goal (omega arith)
  row_whole Start v = part_whole at_start (omega arith)
  row_whole Patterns v = refl
  row_whole (Pattern p) v = part_whole (at_pattern p) (place_inside (Pattern p) v)
  row_whole Limit v = refl
  row_whole Budget v = refl
  row_whole End v = refl

  module _ (fit : Bytes t) where
    budget-cell : (j : ℕ) → j < 4 → get_or (budget_bytes (budget_of t)) j 0 ≡ byte t (at_budget + j)
    unfolding budget_bytes budget_of
    budget-cell zero l = let a = fit 4 in let b = fit 5 in let c = fit 6 in let d = fit 7 in omega arith
    budget-cell (suc zero) l = let a = fit 4 in let b = fit 5 in let c = fit 6 in let d = fit 7 in omega arith
    budget-cell (suc (suc zero)) l = let a = fit 4 in let b = fit 5 in let c = fit 6 in let d = fit 7 in omega arith
    budget-cell (suc (suc (suc zero))) l = let a = fit 4 in let b = fit 5 in let c = fit 6 in let d = fit 7 in omega arith
    budget-cell (suc (suc (suc (suc j)))) l = absurd (omega arith)

    -- What a line stores is what the record has there.
    pub row_cell : (due : Due) (j : ℕ) → j < length_of due → get_or (row_of t due) j 0 ≡ byte t (place_of due + j)
    row_cell Vars j l = one_cell t at_variables j l
    row_cell (Size i) j l = one_cell t (at_sizes + i) j l
    row_cell Moves j l = one_cell t at_actions j l
    row_cell (Need m) j l = cell_of_part t 16 (at_precondition m) j l
    row_cell (Cost m) j l = one_cell t (at_cost m) j l
    row_cell (Outcomes m) j l = one_cell t (at_action m) j l
    row_cell (Eff m k) j l = cell_of_part t 16 (at_outcome m k) j l
    row_cell Goal j l = cell_of_part t 16 at_goal j l
    row_cell Start j l = cell_of_part t 16 at_start j l
    row_cell Patterns j l = one_cell t at_patterns j l
    row_cell (Pattern p) j l = cell_of_part t 16 (at_pattern p) j l
    row_cell Limit j l = one_cell t 3 j l
    row_cell Budget j l = budget-cell j l
    row_cell End j l = absurd (omega arith)

    module _ (r : List ℕ) (whole : length r ≡ record_size) (due : Due) (valid : Valid t due) where
      pub stored_whole : length (stored t due r) ≡ record_size
      stored_whole = length-sets r (place_of due) (row_of t due) ∙ whole

      -- what a line stores
      pub new_same : (k : ℕ) → Covers k due → Same t (stored t due r) k
      new_same k c =
          let n = row_whole due valid in
          let p = place_inside due valid in
          let a = c.0 in
          let b = c.1 in
          let e : place_of due + (k - place_of due) ≡ k = omega arith in
          rw e at (inside_sets (row_of t due) r (place_of due) (k - place_of due) (omega arith) (omega arith) ∙ row_cell due (k - place_of due)
          (omega arith))

      -- and what was the same stays
      pub kept_same : (k : ℕ) → Same t r k → Same t (stored t due r) k
      kept_same k s =
          let n = row_whole due valid in
          inside_or_outside (place_of due) (length_of due) k
          (λ a b. new_same k (a, b))
          (λ o. outside_sets (row_of t due) r (place_of due) k (λ l. let h = o l in omega arith) ∙ s)

      pub base_kept : Base t r → Base t (stored t due r)
      base_kept b = record { variables = kept_same at_variables b.variables; sizes = λ v l. kept_same (at_sizes + v) (b.sizes v l) }

    -- what is known when the lines of action m are due, or the goal
    action_known : (r : List ℕ) (m : ℕ) → Base t r → Same t r at_actions → Known t (action_from t m) r
    action_known r m b s = by_test (ltb m (action_count t)) (λ q. rw q (b, s)) (λ q. rw q b)

    pattern_known : (r : List ℕ) (p : ℕ) → Base t r → Same t r at_patterns → Known t (pattern_from t p) r
    pattern_known r p b s = by_test (ltb p (pattern_count t)) (λ q. rw q (b, s)) (λ q. rw q tt)

    -- After a line the same line is due as in t, and what it needs is known.
    module _ (r : List ℕ) (whole : length r ≡ record_size) where
      pub next_known : (due : Due) → ended due ≡ false → Valid t due → Known t due r
          → (next_due (stored t due r) due ≡ next_due t due) × Known t (next_due t due) (stored t due r)
      unfolding next_due
      next_known Vars e v k = (refl, (new_same r whole Vars v 0 (omega arith, omega arith), λ i l. absurd (omega arith)))
      next_known (Size i) e v k =
          let s = kept_same r whole (Size i) v at_variables k.0 in
          let all : (j : ℕ) → j < i + 1 → Same t (stored t (Size i) r) (at_sizes + j) =
          (λ j l. by_test (ltb j i)
          (λ q. kept_same r whole (Size i) v (at_sizes + j) (k.1 j (ltb-true j i q)))
          (λ q. let g = ltb-false j i q in new_same r whole (Size i) v (at_sizes + j) (omega arith, omega arith))) in (
            ap (λ (z : ℕ). cond (ltb (i + 1) z) (Size (i + 1)) Moves) s,
            by_test (ltb (i + 1) (variable_count t))
                (λ q. rw q (s, all))
                (λ q. let g = ltb-false (i + 1) (variable_count t) q in rw q (record { variables = s; sizes = λ j l. all j (omega arith) })),
          )
      next_known Moves e v k =
          let s = new_same r whole Moves v at_actions (omega arith, omega arith) in
          (ap (λ (z : ℕ). cond (ltb 0 z) (Need 0) Goal) s, action_known (stored t Moves r) 0 (base_kept r whole Moves v k) s)
      next_known (Need m) e v k = (refl, (base_kept r whole (Need m) v k.0, kept_same r whole (Need m) v at_actions k.1))
      next_known (Cost m) e v k = (refl, (base_kept r whole (Cost m) v k.0, kept_same r whole (Cost m) v at_actions k.1))
      next_known (Outcomes m) e v k = (
        refl,
        (
          base_kept r whole (Outcomes m) v k.0,
          kept_same r whole (Outcomes m) v at_actions k.1,
          new_same r whole
              (Outcomes m) v (at_action m) (omega arith, omega arith),
        ),
      )
      next_known (Eff m j) e v k =
          let b = base_kept r whole (Eff m j) v k.0 in
          let s = kept_same r whole (Eff m j) v at_actions k.1 in
          let o = kept_same r whole (Eff m j) v (at_action m) k.2 in (
            ap (λ (z : ℕ). cond (ltb (j + 1) z) (Eff m (j + 1)) (action_from (stored t (Eff m j) r) (m + 1))) o
                ∙ ap (λ (z : ℕ). cond (ltb (j + 1) (outcome_count t m)) (Eff m (j + 1)) (cond (ltb (m + 1) z) (Need (m + 1)) Goal)) s,
            by_test (ltb (j + 1) (outcome_count t m)) (λ q. rw q (b, s, o)) (λ q. rw q (action_known (stored t (Eff m j) r) (m + 1) b s)),
          )
      next_known Goal e v k = (refl, base_kept r whole Goal v k)
      next_known Start e v k = (refl, base_kept r whole Start v k)
      next_known Patterns e v k =
          let s = new_same r whole Patterns v at_patterns (omega arith, omega arith) in
          (ap (λ (z : ℕ). cond (ltb 0 z) (Pattern 0) Limit) s, pattern_known (stored t Patterns r) 0 (base_kept r whole Patterns v k) s)
      next_known (Pattern p) e v k =
          let s = kept_same r whole (Pattern p) v at_patterns k.1 in (
            ap (λ (z : ℕ). cond (ltb (p + 1) z) (Pattern (p + 1)) Limit) s,
            pattern_known (stored t (Pattern p) r) (p + 1)
                (base_kept r whole (Pattern p) v k.0) s,
          )
      next_known Limit e v k = (refl, tt)
      next_known Budget e v k = (refl, tt)
      next_known End e v k = absurd (false≢true (sym e))
