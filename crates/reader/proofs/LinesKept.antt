-- Each line that is due keeps what holds of the record, when it is taken. Assumes nothing.
use mathlib.Core.Path.{◌≡◌, refl, ◌∙◌}
use mathlib.Core.List.{List}
use Prim.Native.Nat.{ℕ, ◌+◌, ◌≤◌, ◌<◌}
use native.Mathlib.Omega.{arith}
use lib.Dec.{ltb}
use lib.ListN.{set}
use lib.Seq.{sets}
use borrow.Author.Tests.{ltb-true, ltb-false, eqb-true}
use Rattle.task_record.specs.Layout.{at_limit, at_budget, at_sizes, at_goal, at_start, at_pattern, at_action, at_precondition, at_outcome, at_cost}
use Rattle.task_record.specs.Numbers.{byte, variable_count, action_count, pattern_count, outcome_count}
use Rattle.reader.specs.Lists.{list_of}
use Rattle.reader.specs.Text.{has_key}
use Rattle.reader.specs.Grammar.{action_from, pattern_from, next_due, budget_bytes, key_cost, take_due, take_line}
use Rattle.reader.specs.declared.lists.Kind.TheVariants.{Pairs, Values, Members}
use Rattle.reader.specs.declared.order.Due.{Due}
use Rattle.reader.specs.declared.order.Due.TheVariants.{Vars, Size, Moves, Need, Outcomes, Eff, Goal, Start, Patterns, Pattern, Limit, Budget, End, Cost}
use Rattle.planning.proofs.Test.{by_test}
use Rattle.reader.proofs.ListCells.{pairs_assign, members_mark, values_valued}
use Rattle.reader.proofs.Filling.{Filled, started_kept}
use Rattle.reader.proofs.FillingSteps.{other_cell, this_cell, header_filled, size_filled, count_filled, cost_filled, row_same, goal_filled, start-filled, start-started, pattern_filled, block_filled, beside_budget, budget-filled}
use Rattle.reader.proofs.Begun.{Sized, Settled, Begun, Kept, kept_where, number_line_kept, budget_line_kept, list_line_kept}

-- What holds goes from r to e with what it is made of.
pub sized_kept : (r e : List ℕ) (a b c d : ℕ) → variable_count e ≡ variable_count r → pattern_count e ≡ pattern_count r → Filled e (variable_count r) b d → Sized r a c → Sized e b d
sized_kept r e a b c d variables patterns f h =
    record { filled = rw variables f; some = rw variables h.some; plain = patterns ∙ h.plain }

-- the same N and M, the same sizes and the same start
pub settled_kept : (r e : List ℕ) → ((k : ℕ) → k < 2 → byte e k ≡ byte r k) → ((k : ℕ) → k < 16 → byte e (at_sizes + k) ≡ byte r (at_sizes + k))
    → ((k : ℕ) → k < 16 → byte e (at_start + k) ≡ byte r (at_start + k)) → Filled e (variable_count r) (action_count r) (action_count r) → Settled r → Settled e
settled_kept r e counts sizes starts f h =
    record {
      filled = rw (counts 0 (omega arith), counts 1 (omega arith)) f;
      some = rw (counts 0 (omega arith)) h.some;
      started = started_kept r e (counts 0 (omega arith)) sizes starts h.started;
    }

-- the lines of action m are due, or the goal after the last
pub action_begun : (r : List ℕ) (m : ℕ) → Sized r m m → m ≤ action_count r → Begun (action_from r m) r
action_begun r m h l =
    by_test (ltb m (action_count r))
    (λ t. rw t (h, ltb-true m (action_count r) t))
    (λ t. let g = ltb-false m (action_count r) t in let e : action_count r ≡ m = omega arith in rw t (rw e h))

-- the line of pattern p is due, or the limit after the last
pub pattern_begun : (r : List ℕ) (p : ℕ) → Settled r → Begun (pattern_from r p) r
pattern_begun r p h =
    by_test (ltb p (pattern_count r))
    (λ t. rw t (h, ltb-true p (pattern_count r) t))
    (λ t. rw t h)

-- the cost of action m is stored, and its number of outcomes is due
pub cost_begun : (r : List ℕ) (m n : ℕ) → Begun (Cost m) r → 1 ≤ n → n ≤ 255 → Begun (Outcomes m) (set r (at_cost m) n)
cost_begun r m n h lo hi =
    let s = h.0 in
    let f = s.filled in
    let lt = h.1 in
    let few = f.heads.actions in (
      sized_kept r (set r (at_cost m) n) m m m (m + 1) (other_cell r (at_cost m) n 0 (λ z. omega arith)) (other_cell r (at_cost m) n 2 (λ z. omega arith))
          (cost_filled r (variable_count r) m m n f (omega arith) lo hi) s,
      rw (other_cell r (at_cost m) n 1 (λ z. omega arith)) lt,
    )

-- Each line that is due, when it is taken.
module _ (r l : List ℕ) where
  -- N
  pub vars_kept : Begun Vars r → Kept (take_due r Vars l)
  unfolding take_due next_due
  vars_kept h =
      let f = h.0 in
      let w = f.whole in
      number_line_kept r Vars l _ 1 16 0 (λ n lo hi.
      let e = this_cell r 0 n (omega arith) in
      let zN = h.1 in (
        header_filled r 0 0 0 0 n f (omega arith) (λ z. omega arith) (λ z. omega arith) (λ z. omega arith) (λ z. omega arith) (λ z. omega arith),
        omega arith,
        other_cell r 0 n 1 (λ z. omega arith) ∙ h.2,
        other_cell r 0 n 2 (λ z. omega arith) ∙ h.3,
      ))

  -- the size of variable i; after the last one every size is given
  pub size_kept : (i : ℕ) → Begun (Size i) r → Kept (take_due r (Size i) l)
  unfolding take_due next_due
  size_kept i h =
      let f = h.0 in
      let few = f.heads.variables in
      let lt = h.1 in
      number_line_kept r (Size i) l _ 2 16 (at_sizes + i) (λ n lo hi.
      let g = size_filled r i 0 0 n f (omega arith) lo hi in
      let eN = other_cell r (at_sizes + i) n 0 (λ z. omega arith) in
      let eM = other_cell r (at_sizes + i) n 1 (λ z. omega arith) ∙ h.2 in
      let eP = other_cell r (at_sizes + i) n 2 (λ z. omega arith) ∙ h.3 in
      by_test (ltb (i + 1) (variable_count (set r (at_sizes + i) n)))
      (λ t. rw t (g, ltb-true (i + 1) (variable_count (set r (at_sizes + i) n)) t, eM, eP))
      (λ t.
      let q = ltb-false (i + 1) (variable_count (set r (at_sizes + i) n)) t in
      let all : variable_count (set r (at_sizes + i) n) ≡ i + 1 = omega arith in
      rw t (record { filled = rw all g; some = omega arith; plain = eP }, eM)))

  -- M
  pub moves_kept : Begun Moves r → Kept (take_due r Moves l)
  unfolding take_due next_due
  moves_kept h =
      let s = h.0 in
      let f = s.filled in
      let z = h.1 in
      number_line_kept r Moves l _ 0 64 1 (λ n lo hi.
      action_begun (set r 1 n) 0
      (sized_kept r (set r 1 n) 0 0 0 0 (other_cell r 1 n 0 (λ z. omega arith)) (other_cell r 1 n 2 (λ z. omega arith))
      (header_filled r (variable_count r) 0 0 1 n f (omega arith) (λ z. omega arith) (λ z. omega arith) (λ z. omega arith) (λ z. omega arith) (λ z. omega arith)) s)
      (omega arith))

  -- the precondition of action m
  pub need_kept : (m : ℕ) → Begun (Need m) r → Kept (take_due r (Need m) l)
  unfolding take_due next_due
  need_kept m h =
      let s = h.0 in
      let f = s.filled in
      let w = f.whole in
      let lt = h.1 in
      let few = f.heads.actions in
      list_line_kept r (Need m) l _ Pairs (at_precondition m) (λ text u.
      let c = (list_of r Pairs text).cells in
      let a = pairs_assign r text in
      let e = sets r (at_precondition m) c in
      let same = row_same r c (at_precondition m) w a.whole (omega arith) in
      let g = block_filled r c (variable_count r) m m (at_precondition m) m 0 f (omega arith) lt (omega arith) (omega arith) a in (
        sized_kept r e m m m m (same 0 (λ z. omega arith)) (same 2 (λ z. omega arith)) g s,
        rw (same 1 (λ z. omega arith)) lt,
      ))

  -- its cost
  pub cost_kept : (m : ℕ) → Begun (Cost m) r → Kept (take_due r (Cost m) l)
  unfolding take_due next_due
  cost_kept m h = number_line_kept r (Cost m) l _ 1 255 (at_cost m) (λ n lo hi. cost_begun r m n h lo hi)

  -- its number of outcomes
  pub outcomes_kept : (m : ℕ) → Begun (Outcomes m) r → Kept (take_due r (Outcomes m) l)
  unfolding take_due next_due
  outcomes_kept m h =
      let s = h.0 in
      let f = s.filled in
      let w = f.whole in
      let lt = h.1 in
      let few = f.heads.actions in
      number_line_kept r (Outcomes m) l _ 1 8 (at_action m) (λ n lo hi.
      let same = this_cell r (at_action m) n (omega arith) in (
        sized_kept r (set r (at_action m) n) m (m + 1) (m + 1) (m + 1) (other_cell r (at_action m) n 0 (λ z. omega arith)) (other_cell r (at_action m) n 2 (λ z. omega arith))
            (count_filled r (variable_count r) m (m + 1) n f (omega arith) lo hi) s,
        rw (other_cell r (at_action m) n 1 (λ z. omega arith)) lt,
        omega arith,
      ))

  -- outcome k of action m; after its last one the next action is due
  pub eff_kept : (m k : ℕ) → Begun (Eff m k) r → Kept (take_due r (Eff m k) l)
  unfolding take_due next_due
  eff_kept m k h =
      let s = h.0 in
      let f = s.filled in
      let w = f.whole in
      let lt = h.1 in
      let lk = h.2 in
      let few = f.heads.actions in
      let eight = (f.given.count m (omega arith) (omega arith)).1 in
      list_line_kept r (Eff m k) l _ Pairs (at_outcome m k) (λ text u.
      let c = (list_of r Pairs text).cells in
      let a = pairs_assign r text in
      let e = sets r (at_outcome m k) c in
      let same = row_same r c (at_outcome m k) w a.whole (omega arith) in
      let g = block_filled r c (variable_count r) (m + 1) (m + 1) (at_outcome m k) m (k + 1) f (omega arith) lt (omega arith) (omega arith) a in
      let z = sized_kept r e (m + 1) (m + 1) (m + 1) (m + 1) (same 0 (λ z. omega arith)) (same 2 (λ z. omega arith)) g s in
      let eM = same 1 (λ z. omega arith) in
      by_test (ltb (k + 1) (outcome_count e m))
      (λ t. rw t (z, rw eM lt, ltb-true (k + 1) (outcome_count e m) t))
      (λ t. rw t (action_begun e (m + 1) z (rw eM (omega arith)))))

  -- the goal
  pub goal_kept : Begun Goal r → Kept (take_due r Goal l)
  unfolding take_due next_due
  goal_kept s =
      let f = s.filled in
      let w = f.whole in
      list_line_kept r Goal l _ Pairs at_goal (λ text u.
      let c = (list_of r Pairs text).cells in
      let a = pairs_assign r text in
      let e = sets r at_goal c in
      let same = row_same r c at_goal w a.whole (omega arith) in
      sized_kept r e (action_count r) (action_count e) (action_count r) (action_count e) (same 0 (λ z. omega arith)) (same 2 (λ z. omega arith))
      (rw (same 1 (λ z. omega arith)) (goal_filled r c (variable_count r) (action_count r) (action_count r) f a)) s)

  -- the start: N values
  pub start_kept : Begun Start r → Kept (take_due r Start l)
  unfolding take_due next_due
  start_kept s =
      let f = s.filled in
      let w = f.whole in
      list_line_kept r Start l _ Values at_start (λ text u.
      let c = (list_of r Values text).cells in
      let next = (list_of r Values text).next in
      let a = values_valued r text in
      let same = row_same r c at_start w a.whole (omega arith) in (
        record {
          filled = rw (same 0 (λ z. omega arith), same 1 (λ z. omega arith)) (start-filled r c (variable_count r) (action_count r) (action_count r) f a.whole);
          some = rw (same 0 (λ z. omega arith)) s.some;
          started = start-started r c next w (eqb-true next (variable_count r) u) a;
        },
        same 2 (λ z. omega arith) ∙ s.plain,
      ))

  -- a number of the header, after the start
  pub settled_number : (at n : ℕ) → Settled r → 2 ≤ at → at < at_budget → ((at ≡ at_limit → ⊥) → byte r at ≤ n) → (2 ≡ at → n ≤ 8) → (3 ≡ at → n ≤ 255) → Settled (set r at n)
  settled_number at n s low high grows patterns limit =
      settled_kept r (set r at n) (λ k l. other_cell r at n k (λ z. omega arith)) (λ k l. other_cell r at n (at_sizes + k) (λ z. omega arith)) (λ k l. other_cell r at n (at_start + k) (λ z. omega arith))
      (header_filled r (variable_count r) (action_count r) (action_count r) at n s.filled high grows (λ z. absurd (omega arith)) (λ z. absurd (omega arith)) patterns limit) s

  -- P
  pub patterns_kept : Begun Patterns r → Kept (take_due r Patterns l)
  unfolding take_due next_due
  patterns_kept h =
      let z = h.1 in
      number_line_kept r Patterns l _ 0 8 2 (λ n lo hi.
      pattern_begun (set r 2 n) 0 (settled_number 2 n h.0 (omega arith) (omega arith) (λ z. omega arith) (λ z. omega arith) (λ z. omega arith)))

  -- the members of pattern p
  pub pattern_kept : (p : ℕ) → Begun (Pattern p) r → Kept (take_due r (Pattern p) l)
  unfolding take_due next_due
  pattern_kept p h =
      let s = h.0 in
      let f = s.filled in
      let w = f.whole in
      let lt = h.1 in
      let few = f.heads.patterns in
      list_line_kept r (Pattern p) l _ Members (at_pattern p) (λ text u.
      let c = (list_of r Members text).cells in
      let a = members_mark r text in
      let e = sets r (at_pattern p) c in
      let same = row_same r c (at_pattern p) w a.whole (omega arith) in
      pattern_begun e (p + 1)
      (settled_kept r e (λ k i. same k (λ z. omega arith)) (λ k i. same (at_sizes + k) (λ z. omega arith)) (λ k i. same (at_start + k) (λ z. omega arith))
      (pattern_filled r c (variable_count r) (action_count r) (action_count r) p f lt a) s))

  -- the limit
  pub limit_kept : Begun Limit r → Kept (take_due r Limit l)
  unfolding take_due next_due
  limit_kept s =
      number_line_kept r Limit l _ 0 255 3 (λ n lo hi. settled_number 3 n s (omega arith) (omega arith) (λ z. absurd (z refl)) (λ z. omega arith) (λ z. omega arith))

  -- the budget
  pub budget_due_kept : Begun Budget r → Kept (take_due r Budget l)
  unfolding take_due next_due
  budget_due_kept s =
      let f = s.filled in
      let w = f.whole in
      budget_line_kept r Budget l _ (λ n hi.
      let same = beside_budget r n w in
      settled_kept r (sets r at_budget (budget_bytes n)) (λ k i. same k (λ z. omega arith)) (λ k i. same (at_sizes + k) (λ z. omega arith)) (λ k i. same (at_start + k) (λ z. omega arith))
      (budget-filled r (variable_count r) (action_count r) (action_count r) n f hi) s)

-- Whatever line is due.
pub line_kept : (r l : List ℕ) (due : Due) → Begun due r → Kept (take_line r due l)
unfolding take_line take_due
line_kept r l Vars h = vars_kept r l h
line_kept r l (Size i) h = size_kept r l i h
line_kept r l Moves h = moves_kept r l h
line_kept r l (Need m) h = need_kept r l m h
line_kept r l (Cost m) h =
    kept_where (has_key key_cost l) (take_due r (Cost m) l) (take_due (set r (at_cost m) 1) (Outcomes m) l)
    (λ t. cost_kept r l m h) (outcomes_kept (set r (at_cost m) 1) l m (cost_begun r m 1 h (omega arith) (omega arith)))
line_kept r l (Outcomes m) h = outcomes_kept r l m h
line_kept r l (Eff m k) h = eff_kept r l m k h
line_kept r l Goal h = goal_kept r l h
line_kept r l Start h = start_kept r l h
line_kept r l Patterns h = patterns_kept r l h
line_kept r l (Pattern p) h = pattern_kept r l p h
line_kept r l Limit h = limit_kept r l h
line_kept r l Budget h = budget_due_kept r l h
line_kept r l End h = tt
