-- The rule of the cell at each offset, by the part of the record that it stands in. Assumes nothing.
use Rattle.std.proofs.Common.{◌≡◌, ℕ, ◌+◌, ◌-◌, ◌/◌, ◌%◌, ◌<◌, true, ◌&&◌, ltb, leb, List, ◌∙◌, arith, ltb-false, ltb-true, le-ltb, lt-ltb, ne_eqb, le-leb, leb-true}
use mathlib.Core.Bool.{and-true}
use Rattle.task_record.specs.Layout.{at_sizes, at_goal, at_start, at_pattern, at_action, at_cost, action_size, in_precondition, in_outcomes}
use Rattle.task_record.specs.Numbers.{byte, action_count, outcome_count}
use Rattle.task_record.specs.Record.{cell_ok, size_ok, assignment_ok, state_ok, pattern_ok, count_ok, action_ok, cost_ok}
use Rattle.planning.proofs.Test.{by_test}
use Rattle.task_record.proofs.Tests.{same_test}

module _ (r : List ℕ) (i : ℕ) (l : i < 16) where
  pub size_at : cell_ok r (at_sizes + i) ≡ size_ok r i (byte r (at_sizes + i))
  unfolding cell_ok
  size_at =
      let e : at_sizes + i - at_sizes ≡ i = omega arith in
      rw (le-ltb (at_sizes + i) at_sizes (omega arith), lt-ltb (at_sizes + i) at_goal (omega arith), e)

  pub goal_at : cell_ok r (at_goal + i) ≡ assignment_ok r true i (byte r (at_goal + i))
  unfolding cell_ok
  goal_at =
      let e : at_goal + i - at_goal ≡ i = omega arith in
      rw (le-ltb (at_goal + i) at_sizes (omega arith), le-ltb (at_goal + i) at_goal (omega arith), lt-ltb (at_goal + i) at_start (omega arith), e)

  pub start_at : cell_ok r (at_start + i) ≡ state_ok r i (byte r (at_start + i))
  unfolding cell_ok
  start_at =
      let e : at_start + i - at_start ≡ i = omega arith in
      rw (le-ltb (at_start + i) at_sizes (omega arith), le-ltb (at_start + i) at_goal (omega arith), le-ltb (at_start + i) at_start (omega arith), lt-ltb (at_start + i) (at_pattern 0) (omega arith), e)

pub pattern_at : (r : List ℕ) (i : ℕ) → i < 128 → cell_ok r (at_pattern 0 + i) ≡ pattern_ok r (i / 16) (i % 16) (byte r (at_pattern 0 + i))
unfolding cell_ok
pattern_at r i l =
    let e : at_pattern 0 + i - at_pattern 0 ≡ i = omega arith in
    rw (le-ltb (at_pattern 0 + i) at_sizes (omega arith), le-ltb (at_pattern 0 + i) at_goal (omega arith), le-ltb (at_pattern 0 + i) at_start (omega arith), le-ltb (at_pattern 0 + i) (at_pattern 0) (omega arith), lt-ltb (at_pattern 0 + i) (at_action 0) (omega arith), e)

pub action_at_lem : (r : List ℕ) (m c : ℕ) → m < 64 → c < action_size → cell_ok r (at_action m + c) ≡ action_ok r m c (byte r (at_action m + c))
unfolding cell_ok
action_at_lem r m c few l =
    let e : (at_action m + c - at_action 0) / action_size ≡ m = omega arith in
    let f : (at_action m + c - at_action 0) % action_size ≡ c = omega arith in
    let k = at_action m + c in
    rw (le-ltb k at_sizes (omega arith), le-ltb k at_goal (omega arith), le-ltb k at_start (omega arith), le-ltb k (at_pattern 0) (omega arith), le-ltb k (at_action 0) (omega arith), lt-ltb k (at_cost 0) (omega arith), e, f)

pub count_at : (r : List ℕ) (m : ℕ) → m < 64 → cell_ok r (at_action m) ≡ count_ok r m (outcome_count r m)
unfolding action_ok
count_at r m few =
    let e : at_action m + 0 ≡ at_action m = omega arith in rw e at (action_at_lem r m 0 few (omega arith))

-- Of the nine blocks of 16 of an action, block 0 is the precondition and block k + 1 is outcome k.
pub block_at : (r : List ℕ) (m i : ℕ) → m < 64 → i < 144
    → cell_ok r (at_action m + 1 + i) ≡ assignment_ok r (ltb m (action_count r) && leb (i / 16) (outcome_count r m)) (i % 16) (byte r (at_action m + 1 + i))
unfolding action_ok
block_at r m i few l =
    let a : at_action m + 1 + i ≡ at_action m + (1 + i) = omega arith in
    rw a (action_at_lem r m (1 + i) few (omega arith) ∙ rw (ne_eqb (1 + i) 0 (λ e. omega arith)) (by_test (ltb i 16)
    (λ t.
    let h = ltb-true i 16 t in
    let e : 1 + i - in_precondition ≡ i % 16 = omega arith in
    let q : i / 16 ≡ 0 = omega arith in
    rw (lt-ltb (1 + i) in_outcomes (omega arith), e, q, le-leb 0 (outcome_count r m) (omega arith), and-true))
    (λ t.
    let h = ltb-false i 16 t in
    let e : (1 + i - in_outcomes) % 16 ≡ i % 16 = omega arith in
    let s : ltb ((1 + i - in_outcomes) / 16) (outcome_count r m) ≡ leb (i / 16) (outcome_count r m) =
    same_test _ _ (λ p. let q = ltb-true ((1 + i - in_outcomes) / 16) (outcome_count r m) p in le-leb (i / 16) (outcome_count r m) (omega arith)) (λ p. let q = leb-true (i / 16) (outcome_count r m) p in lt-ltb ((1 + i - in_outcomes) / 16) (outcome_count r m) (omega arith)) in
    rw (le-ltb (1 + i) in_outcomes (omega arith), e, s))))

pub cost_at : (r : List ℕ) (m : ℕ) → cell_ok r (at_cost m) ≡ cost_ok r m (byte r (at_cost m))
unfolding cell_ok
cost_at r m =
    let e : at_cost m - at_cost 0 ≡ m = omega arith in
    let k = at_cost m in
    rw (le-ltb k at_sizes (omega arith), le-ltb k at_goal (omega arith), le-ltb k at_start (omega arith), le-ltb k (at_pattern 0) (omega arith), le-ltb k (at_action 0) (omega arith), le-ltb k (at_cost 0) (omega arith), e)
