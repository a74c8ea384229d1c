-- A record while it is filled: its header is in range, sizes, numbers of outcomes and costs are given up to some variable and some actions and 0
-- from there on, and its rows (goal, patterns, preconditions, outcomes) name only what they may; what a store keeps of this; and that
-- a record that is filled is sound. Assumes nothing.
use mathlib.Core.Path.{◌≡◌, ◌∙◌}
use mathlib.Core.Bool.{Bool, true, ◌&&◌}
use mathlib.Core.List.{List}
use Prim.Native.Nat.{ℕ, suc, ◌+◌, ◌-◌, ◌*◌, ◌/◌, ◌%◌, ◌≤◌, ◌<◌}
use native.Mathlib.Omega.{arith}
use lib.Dec.{ltb, leb, eqb}
use lib.ListN.{length}
use borrow.Author.Tests.{lt-ltb, ltb-true, ltb-false, le-leb, leb-true, eq-eqb}
use Rattle.task_record.specs.Layout.{record_size, at_sizes, at_goal, at_start, at_pattern, at_action, at_cost}
use Rattle.task_record.specs.Numbers.{byte, variable_count, action_count, pattern_count, limit_of, budget_of, size_of, outcome_count, action_cost}
use Rattle.task_record.specs.Record.{head_ok, size_ok, value_ok, assignment_ok, state_ok, pattern_ok, count_ok, cost_ok, cell_ok, Sound}
use Rattle.reader.specs.Grammar.{blank}
use Rattle.planning.proofs.Test.{by_test}
use Rattle.task_record.proofs.Tests.{both, both_left, both_right, either, one_of}
use Rattle.task_record.proofs.Offsets.{size_at, goal_at, start_at, pattern_at, count_at, block_at, cost_at}
use Rattle.task_record.proofs.Soundness.{every-cell_sound}
use Rattle.reader.proofs.StoredCells.{inside_or_outside, blank_whole, blank_front, blank_states, blank_patterns, blank_count, blank_block, blank_cost}

-- The numbers by which rows are judged do not fall from r to e.
pub record Grown (r e : List ℕ) : Type 0 where
  pub variables : variable_count r ≤ variable_count e
  pub actions : action_count r ≤ action_count e
  pub patterns : pattern_count r ≤ pattern_count e
  pub sizes : (v : ℕ) → v < 16 → size_of r v ≤ size_of e v
  pub counts : (m : ℕ) → m < 64 → outcome_count r m ≤ outcome_count e m

-- What a cell may name, it may name still.
pub assignment_grown : (r e : List ℕ) (used still : Bool) (v x : ℕ) → Grown r e → v < 16 → (used ≡ true → still ≡ true)
    → assignment_ok r used v x ≡ true → assignment_ok e still v x ≡ true
unfolding assignment_ok value_ok
assignment_grown r e used still v x g l stays h =
    one_of (eqb x 255) (used && (ltb v (variable_count r) && ltb x (size_of r v))) h
    (λ t. rw t)
    (λ t. either (eqb x 255) (still && (ltb v (variable_count e) && ltb x (size_of e v))) (λ f.
    let a = both_right used (ltb v (variable_count r) && ltb x (size_of r v)) t in
    let n = ltb-true v (variable_count r) (both_left (ltb v (variable_count r)) (ltb x (size_of r v)) a) in
    let s = ltb-true x (size_of r v) (both_right (ltb v (variable_count r)) (ltb x (size_of r v)) a) in
    let gn = g.variables in
    let gs = g.sizes v l in
    both still (ltb v (variable_count e) && ltb x (size_of e v)) (stays (both_left used (ltb v (variable_count r) && ltb x (size_of r v)) t))
    (both (ltb v (variable_count e)) (ltb x (size_of e v)) (lt-ltb v (variable_count e) (omega arith)) (lt-ltb x (size_of e v) (omega arith)))))

-- a variable that may be in a pattern may be in it still
pub pattern_grown : (r e : List ℕ) (p v x : ℕ) → Grown r e → pattern_ok r p v x ≡ true → pattern_ok e p v x ≡ true
unfolding pattern_ok
pattern_grown r e p v x g h =
    let a = ltb p (pattern_count r) in
    let b = ltb v (variable_count r) in
    one_of (eqb x 0) ((a && b) && eqb x 1) h
    (λ t. rw t)
    (λ t. either (eqb x 0) ((ltb p (pattern_count e) && ltb v (variable_count e)) && eqb x 1) (λ f.
    let ab = both_left (a && b) (eqb x 1) t in
    let hp = ltb-true p (pattern_count r) (both_left a b ab) in
    let hv = ltb-true v (variable_count r) (both_right a b ab) in
    let gp = g.patterns in
    let gv = g.variables in
    both (ltb p (pattern_count e) && ltb v (variable_count e)) (eqb x 1)
    (both (ltb p (pattern_count e)) (ltb v (variable_count e)) (lt-ltb p (pattern_count e) (omega arith)) (lt-ltb v (variable_count e) (omega arith)))
    (both_right (a && b) (eqb x 1) t)))

-- block b of action m: its precondition, or outcome b - 1
abbrev pub at_block : ℕ → ℕ → ℕ
at_block m b = 185 + 145 * m + 16 * b

-- whether the record uses that block
abbrev pub used_block : List ℕ → ℕ → ℕ → Bool
used_block r m b = ltb m (action_count r) && leb b (outcome_count r m)

-- Every row is right.
pub record Rows (r : List ℕ) : Type 0 where
  pub goal : (v : ℕ) → v < 16 → assignment_ok r true v (byte r (at_goal + v)) ≡ true
  pub patterns : (p v : ℕ) → p < 8 → v < 16 → pattern_ok r p v (byte r (at_pattern p + v)) ≡ true
  pub blocks : (m b v : ℕ) → m < 64 → b < 9 → v < 16 → assignment_ok r (used_block r m b) v (byte r (at_block m b + v)) ≡ true

-- a block that is used is used still
pub used_grown : (r e : List ℕ) (m b : ℕ) → Grown r e → m < 64 → used_block r m b ≡ true → used_block e m b ≡ true
used_grown r e m b g l h =
    let hm = ltb-true m (action_count r) (both_left (ltb m (action_count r)) (leb b (outcome_count r m)) h) in
    let hb = leb-true b (outcome_count r m) (both_right (ltb m (action_count r)) (leb b (outcome_count r m)) h) in
    let ga = g.actions in
    let gc = g.counts m l in
    both (ltb m (action_count e)) (leb b (outcome_count e m)) (lt-ltb m (action_count e) (omega arith)) (le-leb b (outcome_count e m) (omega arith))

-- From r to e only n cells from an offset on have changed: rows are right where those of the changed cells that stand in rows are.
module _ (r e : List ℕ) (at n : ℕ) (same : (k : ℕ) → (at ≤ k → at + n ≤ k) → byte e k ≡ byte r k) where
  -- the three kinds of row: goal, patterns, blocks of actions
  pub rows_kept : Grown r e → Rows r
      → ((v : ℕ) → v < 16 → at ≤ at_goal + v → at_goal + v < at + n → assignment_ok e true v (byte e (at_goal + v)) ≡ true)
      → ((p v : ℕ) → p < 8 → v < 16 → at ≤ at_pattern p + v → at_pattern p + v < at + n → pattern_ok e p v (byte e (at_pattern p + v)) ≡ true)
      → ((m b v : ℕ) → m < 64 → b < 9 → v < 16 → at ≤ at_block m b + v → at_block m b + v < at + n → assignment_ok e (used_block e m b) v (byte e (at_block m b + v)) ≡ true)
      → Rows e
  rows_kept g h goal patterns blocks =
      record {
        goal = λ v l.
            inside_or_outside at n (at_goal + v) (goal v l)
            (λ out. rw (same (at_goal + v) out) (assignment_grown r e true true v (byte r (at_goal + v)) g l (λ t. t) (h.goal v l)));
        patterns = λ p v k l.
            inside_or_outside at n (at_pattern p + v) (patterns p v k l)
            (λ out. rw (same (at_pattern p + v) out) (pattern_grown r e p v (byte r (at_pattern p + v)) g (h.patterns p v k l)));
        blocks = λ m b v i k l.
            inside_or_outside at n (at_block m b + v) (blocks m b v i k l)
            (λ out. rw (same (at_block m b + v) out) (assignment_grown r e (used_block r m b) (used_block e m b) v (byte r (at_block m b + v)) g l (used_grown r e m b g i) (h.blocks m b v i k l)));
      }

-- The header is in range; that there is a variable is told apart.
pub record Heads (r : List ℕ) : Type 0 where
  pub variables : variable_count r ≤ 16
  pub actions : action_count r ≤ 64
  pub patterns : pattern_count r ≤ 8
  pub limit : limit_of r ≤ 255
  pub budget : budget_of r ≤ 1000000

-- the same first 8 bytes
pub heads_kept : (r e : List ℕ) → ((k : ℕ) → k < 8 → byte e k ≡ byte r k) → Heads r → Heads e
unfolding budget_of
heads_kept r e same h =
    record {
      variables = rw (same 0 (omega arith)) h.variables;
      actions = rw (same 1 (omega arith)) h.actions;
      patterns = rw (same 2 (omega arith)) h.patterns;
      limit = rw (same 3 (omega arith)) h.limit;
      budget = rw (same 4 (omega arith), same 5 (omega arith), same 6 (omega arith), same 7 (omega arith)) h.budget;
    }

-- Of the sizes the first i are given, of the numbers of outcomes the first a, of the costs the first q.
pub record Given (r : List ℕ) (i a q : ℕ) : Type 0 where
  pub size : (v : ℕ) → v < 16 → v < i → (2 ≤ size_of r v) × (size_of r v ≤ 16)
  pub size_due : (v : ℕ) → v < 16 → i ≤ v → size_of r v ≡ 0
  pub count : (m : ℕ) → m < 64 → m < a → (1 ≤ outcome_count r m) × (outcome_count r m ≤ 8)
  pub count_due : (m : ℕ) → m < 64 → a ≤ m → outcome_count r m ≡ 0
  pub cost : (m : ℕ) → m < 64 → m < q → (1 ≤ action_cost r m) × (action_cost r m ≤ 255)
  pub cost_due : (m : ℕ) → m < 64 → q ≤ m → action_cost r m ≡ 0

-- the same sizes, numbers of outcomes and costs
pub given_kept : (r e : List ℕ) (i a q : ℕ) → ((v : ℕ) → v < 16 → size_of e v ≡ size_of r v) → ((m : ℕ) → m < 64 → outcome_count e m ≡ outcome_count r m)
    → ((m : ℕ) → m < 64 → action_cost e m ≡ action_cost r m) → Given r i a q → Given e i a q
given_kept r e i a q sizes counts costs g =
    record {
      size = λ v l h. rw (sizes v l) (g.size v l h);
      size_due = λ v l h. sizes v l ∙ g.size_due v l h;
      count = λ m l h. rw (counts m l) (g.count m l h);
      count_due = λ m l h. counts m l ∙ g.count_due m l h;
      cost = λ m l h. rw (costs m l) (g.cost m l h);
      cost_due = λ m l h. costs m l ∙ g.cost_due m l h;
    }

-- A record that is filled so far.
pub record Filled (r : List ℕ) (i a q : ℕ) : Type 0 where
  pub whole : length r ≡ record_size
  pub heads : Heads r
  pub given : Given r i a q
  pub rows : Rows r

-- The blank record: nothing is given.
pub blank-filled : Filled blank 0 0 0
unfolding budget_of assignment_ok pattern_ok
blank-filled =
    record {
      whole = blank_whole;
      heads = record {
        variables = rw (blank_front 0 (omega arith)) (omega arith);
        actions = rw (blank_front 1 (omega arith)) (omega arith);
        patterns = rw (blank_front 2 (omega arith)) (omega arith);
        limit = rw (blank_front 3 (omega arith)) (omega arith);
        budget = rw (blank_front 4 (omega arith), blank_front 5 (omega arith), blank_front 6 (omega arith), blank_front 7 (omega arith)) (omega arith);
      };
      given = record {
        size = λ v l h. absurd (omega arith);
        size_due = λ v l h. blank_front (at_sizes + v) (omega arith);
        count = λ m l h. absurd (omega arith);
        count_due = λ m l h. blank_count m l;
        cost = λ m l h. absurd (omega arith);
        cost_due = λ m l h. blank_cost m l;
      };
      rows = record {
        goal = λ v l. rw (blank_states v (omega arith));
        patterns = λ p v k l. let e : at_pattern p + v ≡ at_pattern 0 + (16 * p + v) = omega arith in rw (e, blank_patterns (16 * p + v) (omega arith));
        blocks = λ m b v i k l. let e : at_block m b + v ≡ at_action m + suc (16 * b + v) = omega arith in rw (e, blank_block m (16 * b + v) i (omega arith));
      };
    }

-- The start is a state.
abbrev pub Started : List ℕ → Type 0
Started r = (v : ℕ) → v < 16 → state_ok r v (byte r (at_start + v)) ≡ true

-- the same N, the same sizes and the same start
pub started_kept : (r e : List ℕ) → variable_count e ≡ variable_count r → ((v : ℕ) → v < 16 → size_of e v ≡ size_of r v)
    → ((v : ℕ) → v < 16 → byte e (at_start + v) ≡ byte r (at_start + v)) → Started r → Started e
unfolding state_ok
started_kept r e variables sizes cells h v l = rw (variables, sizes v l, cells v l) (h v l)

-- With every size, every number of outcomes, every cost and the start, every cell is inside its rule.
module _ (r : List ℕ) (f : Filled r (variable_count r) (action_count r) (action_count r)) (some : 1 ≤ variable_count r) (start : Started r) where
  -- the header
  pub head_cell_right : (k : ℕ) → k < at_sizes → cell_ok r k ≡ true
  unfolding cell_ok head_ok
  head_cell_right k l =
      let h = f.heads in
      rw (lt-ltb k at_sizes l)
      (by_test (eqb k 0)
      (λ t. rw t (both (leb 1 (variable_count r)) (leb (variable_count r) 16) (le-leb 1 (variable_count r) some) (le-leb (variable_count r) 16 h.variables)))
      (λ t. by_test (eqb k 1)
      (λ u. rw (t, u) (le-leb (action_count r) 64 h.actions))
      (λ u. by_test (eqb k 2)
      (λ w. rw (t, u, w) (le-leb (pattern_count r) 8 h.patterns))
      (λ w. by_test (eqb k 3)
      (λ x. rw (t, u, w, x) (le-leb (limit_of r) 255 h.limit))
      (λ x. by_test (eqb k 4)
      (λ y. rw (t, u, w, x, y) (le-leb (budget_of r) 1000000 h.budget))
      (λ y. rw (t, u, w, x, y)))))))

  -- the sizes: given below N, 0 beyond
  pub size_cell_right : (v : ℕ) → v < 16 → cell_ok r (at_sizes + v) ≡ true
  unfolding size_ok
  size_cell_right v l =
      size_at r v l ∙ by_test (ltb v (variable_count r))
      (λ t.
      let g = f.given.size v l (ltb-true v (variable_count r) t) in
      rw t (both (leb 2 (size_of r v)) (leb (size_of r v) 16) (le-leb 2 (size_of r v) g.0) (le-leb (size_of r v) 16 g.1)))
      (λ t. rw t (eq-eqb (size_of r v) 0 (f.given.size_due v l (ltb-false v (variable_count r) t))))

  -- the start
  pub start-cell_right : (v : ℕ) → v < 16 → cell_ok r (at_start + v) ≡ true
  start-cell_right v l = start_at r v l ∙ start v l

  -- the patterns
  pub pattern_cell_right : (i : ℕ) → i < 128 → cell_ok r (at_pattern 0 + i) ≡ true
  pattern_cell_right i l =
      let e : at_pattern (i / 16) + i % 16 ≡ at_pattern 0 + i = omega arith in
      pattern_at r i l ∙ rw e at (f.rows.patterns (i / 16) (i % 16) (omega arith) (omega arith))

  -- the numbers of outcomes: given below M, 0 beyond
  pub count_cell_right : (m : ℕ) → m < 64 → cell_ok r (at_action m) ≡ true
  unfolding count_ok
  count_cell_right m l =
      count_at r m l ∙ by_test (ltb m (action_count r))
      (λ t.
      let g = f.given.count m l (ltb-true m (action_count r) t) in
      rw t (both (leb 1 (outcome_count r m)) (leb (outcome_count r m) 8) (le-leb 1 (outcome_count r m) g.0) (le-leb (outcome_count r m) 8 g.1)))
      (λ t. rw t (eq-eqb (outcome_count r m) 0 (f.given.count_due m l (ltb-false m (action_count r) t))))

  -- preconditions and outcomes
  pub block_cell_right : (m i : ℕ) → m < 64 → i < 144 → cell_ok r (at_action m + 1 + i) ≡ true
  block_cell_right m i h l =
      let e : at_block m (i / 16) + i % 16 ≡ at_action m + 1 + i = omega arith in
      block_at r m i h l ∙ rw e at (f.rows.blocks m (i / 16) (i % 16) h (omega arith) (omega arith))

  -- every cell of an action
  pub action_cell_right : (m c : ℕ) → m < 64 → c < 145 → cell_ok r (at_action m + c) ≡ true
  action_cell_right m c h l =
      by_test (ltb 0 c)
      (λ t.
      let p = ltb-true 0 c t in
      let e : at_action m + c ≡ at_action m + 1 + (c - 1) = omega arith in
      rw e (block_cell_right m (c - 1) h (omega arith)))
      (λ t.
      let p = ltb-false 0 c t in
      let e : at_action m + c ≡ at_action m = omega arith in
      rw e (count_cell_right m h))

  -- the costs: given below M, 0 beyond
  pub cost_cell_right : (m : ℕ) → m < 64 → cell_ok r (at_cost m) ≡ true
  unfolding cost_ok
  cost_cell_right m l =
      cost_at r m ∙ by_test (ltb m (action_count r))
      (λ t.
      let g = f.given.cost m l (ltb-true m (action_count r) t) in
      rw t (both (leb 1 (action_cost r m)) (leb (action_cost r m) 255) (le-leb 1 (action_cost r m) g.0) (le-leb (action_cost r m) 255 g.1)))
      (λ t. rw t (eq-eqb (action_cost r m) 0 (f.given.cost_due m l (ltb-false m (action_count r) t))))

  -- every cell of the record
  pub every-cell_right : (k : ℕ) → k < record_size → cell_ok r k ≡ true
  every-cell_right k l =
      by_test (ltb k at_sizes)
      (λ t. head_cell_right k (ltb-true k at_sizes t))
      (λ t. let a = ltb-false k at_sizes t in
      by_test (ltb k at_goal)
      (λ u. let b = ltb-true k at_goal u in let e : k ≡ at_sizes + (k - at_sizes) = omega arith in rw e (size_cell_right (k - at_sizes) (omega arith)))
      (λ u. let b = ltb-false k at_goal u in
      by_test (ltb k at_start)
      (λ w.
      let c = ltb-true k at_start w in
      let e : k ≡ at_goal + (k - at_goal) = omega arith in
      rw e (goal_at r (k - at_goal) (omega arith) ∙ f.rows.goal (k - at_goal) (omega arith)))
      (λ w. let c = ltb-false k at_start w in
      by_test (ltb k (at_pattern 0))
      (λ x. let d = ltb-true k (at_pattern 0) x in let e : k ≡ at_start + (k - at_start) = omega arith in rw e (start-cell_right (k - at_start) (omega arith)))
      (λ x. let d = ltb-false k (at_pattern 0) x in
      by_test (ltb k (at_action 0))
      (λ y. let g = ltb-true k (at_action 0) y in let e : k ≡ at_pattern 0 + (k - at_pattern 0) = omega arith in rw e (pattern_cell_right (k - at_pattern 0) (omega arith)))
      (λ y. let g = ltb-false k (at_action 0) y in
      by_test (ltb k (at_cost 0))
      (λ z.
      let n = ltb-true k (at_cost 0) z in
      let e : k ≡ at_action ((k - 184) / 145) + (k - 184) % 145 = omega arith in
      rw e (action_cell_right ((k - 184) / 145) ((k - 184) % 145) (omega arith) (omega arith)))
      (λ z.
      let n = ltb-false k (at_cost 0) z in
      let e : k ≡ at_cost (k - at_cost 0) = omega arith in
      rw e (cost_cell_right (k - at_cost 0) (omega arith))))))))

  -- so it is sound
  pub filled_sound : Sound r
  filled_sound = let w = f.whole in every-cell_sound r (omega arith) every-cell_right
