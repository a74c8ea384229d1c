-- What one line's store does to a record that is filled so far: a number of the header, a size, a number of outcomes, a cost, sixteen cells
-- of a row, the start, the budget. Assumes nothing.
use mathlib.Core.Path.{◌≡◌, refl, sym, ◌∙◌}
use mathlib.Core.Bool.{true, ◌&&◌}
use mathlib.Core.List.{List}
use Prim.Native.Nat.{ℕ, ◌+◌, ◌*◌, ◌/◌, ◌%◌, ◌≤◌, ◌<◌}
use native.Mathlib.Omega.{arith}
use native.Mathlib.Nat.{le_of_eq}
use lib.Dec.{ltb, leb, eqb}
use lib.ListN.{length, get_or, set, length-set}
use lib.Seq.{sets, length-sets, get_or-set_same, get_or-set_other}
use borrow.Author.Tests.{lt-ltb, ltb-true, ltb-false, le-leb, eqb-true, eqb-false, eq-eqb}
use Rattle.task_record.specs.Layout.{record_size, at_limit, at_budget, at_sizes, at_goal, at_start, at_pattern, at_action, at_cost}
use Rattle.task_record.specs.Numbers.{byte, variable_count, action_count, pattern_count, budget_of, size_of, outcome_count, action_cost}
use Rattle.task_record.specs.Record.{value_ok, assignment_ok, state_ok, pattern_ok}
use Rattle.reader.specs.Grammar.{budget_bytes}
use Rattle.planning.proofs.Test.{by_test}
use Rattle.task_record.proofs.Tests.{both, both_left, both_right, either, one_of}
use Rattle.task_record.proofs.SoundTask.{Assigns}
use Rattle.reader.proofs.StoredCells.{outside_sets, inside_sets}
use Rattle.reader.proofs.ListCells.{Marks, Valued}
use Rattle.reader.proofs.Filling.{Grown, assignment_grown, pattern_grown, at_block, used_block, used_grown, Rows, rows_kept, heads_kept, given_kept, Filled, Started}

-- no block holds a number of outcomes
pub count_in_no_block : (m j b v : ℕ) → b < 9 → v < 16 → at_action m ≡ at_block j b + v → ⊥
count_in_no_block m j b v k l e =
    by_test (ltb j m)
    (λ t. let h = ltb-true j m t in omega arith)
    (λ t. let h = ltb-false j m t in omega arith)

-- One cell is stored.
module _ (r : List ℕ) (at n : ℕ) where
  -- any other cell is as it was
  pub other_cell : (k : ℕ) → (k ≡ at → ⊥) → byte (set r at n) k ≡ byte r k
  other_cell k h = get_or-set_other r at k n 0 h

  -- the same, for a cell that is not inside of the one cell stored
  pub apart_cell : (k : ℕ) → (at ≤ k → at + 1 ≤ k) → byte (set r at n) k ≡ byte r k
  apart_cell k h = other_cell k (λ e. let l = h (omega arith) in omega arith)

  module _ (inside : at < length r) where
    -- the cell holds the number
    pub this_cell : byte (set r at n) at ≡ n
    this_cell = get_or-set_same r at n 0 inside

    -- a bound that the cell kept and the number keeps
    pub set_bound : (k b : ℕ) → byte r k ≤ b → (k ≡ at → n ≤ b) → byte (set r at n) k ≤ b
    set_bound k b old new =
        by_test (eqb k at)
        (λ t. let e = eqb-true k at t in let l = new e in let h = this_cell in rw e (rw h l))
        (λ t. rw (other_cell k (eqb-false k at t)) old)

    -- only the limit may fall
    pub cell_grown : ((at ≡ at_limit → ⊥) → byte r at ≤ n) → (k : ℕ) → (k ≡ at_limit → ⊥) → byte r k ≤ byte (set r at n) k
    cell_grown grows k h =
        by_test (eqb k at)
        (λ t. let e = eqb-true k at t in rw (e, this_cell) (grows (λ z. h (e ∙ z))))
        (λ t. le_of_eq (sym (other_cell k (eqb-false k at t))))

    -- no number by which rows are judged falls
    pub number_grown : ((at ≡ at_limit → ⊥) → byte r at ≤ n) → Grown r (set r at n)
    number_grown grows =
        record {
          variables = cell_grown grows 0 (λ e. omega arith);
          actions = cell_grown grows 1 (λ e. omega arith);
          patterns = cell_grown grows 2 (λ e. omega arith);
          sizes = λ v l. cell_grown grows (at_sizes + v) (λ e. omega arith);
          counts = λ m l. cell_grown grows (at_action m) (λ e. omega arith);
        }

    -- a number of the header or a size stands in no row, nor does a number of outcomes
    pub low_rows : at < at_goal → ((at ≡ at_limit → ⊥) → byte r at ≤ n) → Rows r → Rows (set r at n)
    low_rows low grows h =
        rows_kept r (set r at n) at 1 apart_cell (number_grown grows) h
        (λ v l a b. absurd (omega arith)) (λ p v k l a b. absurd (omega arith)) (λ m j v i k l a b. absurd (omega arith))

    -- a number of outcomes
    pub count_rows : (m : ℕ) → at ≡ at_action m → byte r at ≤ n → Rows r → Rows (set r at n)
    count_rows m e grows h =
        rows_kept r (set r at n) at 1 apart_cell (number_grown (λ z. grows)) h
        (λ v l a b. absurd (omega arith)) (λ p v k l a b. absurd (omega arith)) (λ j c v i k l a b. absurd (count_in_no_block m j c v k l (omega arith)))

    -- a cost
    pub cost_rows : (m : ℕ) → at ≡ at_cost m → byte r at ≤ n → Rows r → Rows (set r at n)
    cost_rows m e grows h =
        rows_kept r (set r at n) at 1 apart_cell (number_grown (λ z. grows)) h
        (λ v l a b. absurd (omega arith)) (λ p v k l a b. absurd (omega arith)) (λ j c v i k l a b. absurd (omega arith))

-- A number of the header.
pub header_filled : (r : List ℕ) (i a q at n : ℕ) → Filled r i a q → at < at_budget → ((at ≡ at_limit → ⊥) → byte r at ≤ n)
    → (0 ≡ at → n ≤ 16) → (1 ≡ at → n ≤ 64) → (2 ≡ at → n ≤ 8) → (3 ≡ at → n ≤ 255) → Filled (set r at n) i a q
unfolding budget_of
header_filled r i a q at n f low grows variables actions patterns limit =
    let w = f.whole in
    let h = f.heads in
    let inside : at < length r = omega arith in
    record {
      whole = length-set r at n ∙ w;
      heads = record {
        variables = set_bound r at n inside 0 16 h.variables variables;
        actions = set_bound r at n inside 1 64 h.actions actions;
        patterns = set_bound r at n inside 2 8 h.patterns patterns;
        limit = set_bound r at n inside 3 255 h.limit limit;
        budget = rw (other_cell r at n 4 (λ e. omega arith), other_cell r at n 5 (λ e. omega arith), other_cell r at n 6 (λ e. omega arith), other_cell r at n 7 (λ e. omega arith)) h.budget;
      };
      given = given_kept r (set r at n) i a q (λ v l. other_cell r at n (at_sizes + v) (λ e. omega arith)) (λ m l. other_cell r at n (at_action m) (λ e. omega arith)) (λ m l. other_cell r at n (at_cost m) (λ e. omega arith)) f.given;
      rows = low_rows r at n inside (omega arith) grows f.rows;
    }

-- The size of the variable that is due.
pub size_filled : (r : List ℕ) (i a q n : ℕ) → Filled r i a q → i < 16 → 2 ≤ n → n ≤ 16 → Filled (set r (at_sizes + i) n) (i + 1) a q
size_filled r i a q n f few lo hi =
    let w = f.whole in
    let g = f.given in
    let inside : at_sizes + i < length r = omega arith in
    let was = g.size_due i few (omega arith) in
    record {
      whole = length-set r (at_sizes + i) n ∙ w;
      heads = heads_kept r (set r (at_sizes + i) n) (λ k l. other_cell r (at_sizes + i) n k (λ e. omega arith)) f.heads;
      given = record {
        size = λ v l h.
            by_test (eqb v i)
            (λ t. let e = eqb-true v i t in rw (e, this_cell r (at_sizes + i) n inside) (lo, hi))
            (λ t. let d = eqb-false v i t in rw (other_cell r (at_sizes + i) n (at_sizes + v) (λ e. d (omega arith))) (g.size v l (omega arith)));
        size_due = λ v l h. other_cell r (at_sizes + i) n (at_sizes + v) (λ e. omega arith) ∙ g.size_due v l (omega arith);
        count = λ m l h. rw (other_cell r (at_sizes + i) n (at_action m) (λ e. omega arith)) (g.count m l h);
        count_due = λ m l h. other_cell r (at_sizes + i) n (at_action m) (λ e. omega arith) ∙ g.count_due m l h;
        cost = λ m l h. rw (other_cell r (at_sizes + i) n (at_cost m) (λ e. omega arith)) (g.cost m l h);
        cost_due = λ m l h. other_cell r (at_sizes + i) n (at_cost m) (λ e. omega arith) ∙ g.cost_due m l h;
      };
      rows = low_rows r (at_sizes + i) n inside (omega arith) (λ z. omega arith) f.rows;
    }

-- The number of outcomes of the action that is due.
pub count_filled : (r : List ℕ) (i a q n : ℕ) → Filled r i a q → a < 64 → 1 ≤ n → n ≤ 8 → Filled (set r (at_action a) n) i (a + 1) q
count_filled r i a q n f few lo hi =
    let w = f.whole in
    let g = f.given in
    let inside : at_action a < length r = omega arith in
    let was = g.count_due a few (omega arith) in
    record {
      whole = length-set r (at_action a) n ∙ w;
      heads = heads_kept r (set r (at_action a) n) (λ k l. other_cell r (at_action a) n k (λ e. omega arith)) f.heads;
      given = record {
        size = λ v l h. rw (other_cell r (at_action a) n (at_sizes + v) (λ e. omega arith)) (g.size v l h);
        size_due = λ v l h. other_cell r (at_action a) n (at_sizes + v) (λ e. omega arith) ∙ g.size_due v l h;
        count = λ m l h.
            by_test (eqb m a)
            (λ t. let e = eqb-true m a t in rw (e, this_cell r (at_action a) n inside) (lo, hi))
            (λ t. let d = eqb-false m a t in rw (other_cell r (at_action a) n (at_action m) (λ e. d (omega arith))) (g.count m l (omega arith)));
        count_due = λ m l h. other_cell r (at_action a) n (at_action m) (λ e. omega arith) ∙ g.count_due m l (omega arith);
        cost = λ m l h. rw (other_cell r (at_action a) n (at_cost m) (λ e. omega arith)) (g.cost m l h);
        cost_due = λ m l h. other_cell r (at_action a) n (at_cost m) (λ e. omega arith) ∙ g.cost_due m l h;
      };
      rows = count_rows r (at_action a) n inside a refl (omega arith) f.rows;
    }

-- The cost of the action that is due.
pub cost_filled : (r : List ℕ) (i a q n : ℕ) → Filled r i a q → q < 64 → 1 ≤ n → n ≤ 255 → Filled (set r (at_cost q) n) i a (q + 1)
cost_filled r i a q n f few lo hi =
    let w = f.whole in
    let g = f.given in
    let inside : at_cost q < length r = omega arith in
    let was = g.cost_due q few (omega arith) in
    record {
      whole = length-set r (at_cost q) n ∙ w;
      heads = heads_kept r (set r (at_cost q) n) (λ k l. other_cell r (at_cost q) n k (λ e. omega arith)) f.heads;
      given = record {
        size = λ v l h. rw (other_cell r (at_cost q) n (at_sizes + v) (λ e. omega arith)) (g.size v l h);
        size_due = λ v l h. other_cell r (at_cost q) n (at_sizes + v) (λ e. omega arith) ∙ g.size_due v l h;
        count = λ m l h. rw (other_cell r (at_cost q) n (at_action m) (λ e. omega arith)) (g.count m l h);
        count_due = λ m l h. other_cell r (at_cost q) n (at_action m) (λ e. omega arith) ∙ g.count_due m l h;
        cost = λ m l h.
            by_test (eqb m q)
            (λ t. let e = eqb-true m q t in rw (e, this_cell r (at_cost q) n inside) (lo, hi))
            (λ t. let d = eqb-false m q t in rw (other_cell r (at_cost q) n (at_cost m) (λ e. d (omega arith))) (g.cost m l (omega arith)));
        cost_due = λ m l h. other_cell r (at_cost q) n (at_cost m) (λ e. omega arith) ∙ g.cost_due m l (omega arith);
      };
      rows = cost_rows r (at_cost q) n inside q refl (omega arith) f.rows;
    }

-- Cells are stored that are no number by which others are judged.
module _ (r e : List ℕ) (at n : ℕ) (same : (k : ℕ) → (at ≤ k → at + n ≤ k) → byte e k ≡ byte r k) (whole : length e ≡ length r)
    (far : at_goal ≤ at) (below : at + n ≤ at_cost 0) (apart : (m : ℕ) → m < 64 → at ≤ at_action m → at + n ≤ at_action m) where
  -- header and sizes are as they were
  pub front_same : (k : ℕ) → k < at_goal → byte e k ≡ byte r k
  front_same k l = same k (λ h. absurd (omega arith))

  -- the numbers of outcomes are as they were
  pub count_same : (m : ℕ) → m < 64 → outcome_count e m ≡ outcome_count r m
  count_same m l = same (at_action m) (apart m l)

  -- and so are the costs
  pub cost_same : (m : ℕ) → action_cost e m ≡ action_cost r m
  cost_same m = same (at_cost m) (λ h. omega arith)

  -- so no number by which rows are judged falls
  pub row_grown : Grown r e
  row_grown =
      record {
        variables = le_of_eq (sym (front_same 0 (omega arith)));
        actions = le_of_eq (sym (front_same 1 (omega arith)));
        patterns = le_of_eq (sym (front_same 2 (omega arith)));
        sizes = λ v l. le_of_eq (sym (front_same (at_sizes + v) (omega arith)));
        counts = λ m l. le_of_eq (sym (count_same m l));
      }

  -- the record is filled as far as it was, where the stored cells that stand in rows are right
  pub row_filled : (i a q : ℕ) → Filled r i a q
      → ((v : ℕ) → v < 16 → at ≤ at_goal + v → at_goal + v < at + n → assignment_ok e true v (byte e (at_goal + v)) ≡ true)
      → ((p v : ℕ) → p < 8 → v < 16 → at ≤ at_pattern p + v → at_pattern p + v < at + n → pattern_ok e p v (byte e (at_pattern p + v)) ≡ true)
      → ((m b v : ℕ) → m < 64 → b < 9 → v < 16 → at ≤ at_block m b + v → at_block m b + v < at + n → assignment_ok e (used_block e m b) v (byte e (at_block m b + v)) ≡ true)
      → Filled e i a q
  row_filled i a q f goal patterns blocks =
      record {
        whole = whole ∙ f.whole;
        heads = heads_kept r e (λ k l. front_same k (omega arith)) f.heads;
        given = given_kept r e i a q (λ v l. front_same (at_sizes + v) (omega arith)) count_same (λ m l. cost_same m) f.given;
        rows = rows_kept r e at n same row_grown f.rows goal patterns blocks;
      }

-- Sixteen cells are stored in a row.
module _ (r c : List ℕ) (at : ℕ) (whole : length r ≡ record_size) (sixteen : length c ≡ 16) (fits : at + 16 ≤ record_size) where
  -- a cell outside of the sixteen is as it was
  pub row_same : (k : ℕ) → (at ≤ k → at + 16 ≤ k) → byte (sets r at c) k ≡ byte r k
  row_same k h = outside_sets c r at k (λ l. let o = h l in omega arith)

  -- a cell inside is the one given
  pub row_new : (v : ℕ) → v < 16 → byte (sets r at c) (at + v) ≡ get_or c v 0
  row_new v l = inside_sets c r at v (omega arith) (omega arith)

-- the goal
pub goal_filled : (r c : List ℕ) (i a q : ℕ) → Filled r i a q → Assigns r c → Filled (sets r at_goal c) i a q
goal_filled r c i a q f cells =
    let w = f.whole in
    let same = row_same r c at_goal w cells.whole (omega arith) in
    let far : (m : ℕ) → m < 64 → at_goal ≤ at_action m → at_goal + 16 ≤ at_action m = λ m l h. omega arith in
    row_filled r (sets r at_goal c) at_goal 16 same (length-sets r at_goal c) (omega arith) (omega arith) far i a q f
    (λ v l x y. rw (row_new r c at_goal w cells.whole (omega arith) v l)
    (assignment_grown r (sets r at_goal c) true true v (get_or c v 0) (row_grown r (sets r at_goal c) at_goal 16 same (length-sets r at_goal c) (omega arith) (omega arith) far) l (λ t. t) (cells.cell v l)))
    (λ p v k l x y. absurd (omega arith))
    (λ m b v h k l x y. absurd (omega arith))

-- the start
pub start-filled : (r c : List ℕ) (i a q : ℕ) → Filled r i a q → length c ≡ 16 → Filled (sets r at_start c) i a q
start-filled r c i a q f sixteen =
    let w = f.whole in
    row_filled r (sets r at_start c) at_start 16 (row_same r c at_start w sixteen (omega arith)) (length-sets r at_start c) (omega arith) (omega arith) (λ m l h. omega arith) i a q f
    (λ v l x y. absurd (omega arith))
    (λ p v k l x y. absurd (omega arith))
    (λ m b v h k l x y. absurd (omega arith))

-- N values make a state
pub start-started : (r c : List ℕ) (next : ℕ) → length r ≡ record_size → next ≡ variable_count r → Valued r c next → Started (sets r at_start c)
unfolding state_ok value_ok
start-started r c next w e cells v l =
    let same = row_same r c at_start w cells.whole (omega arith) in
    rw (row_new r c at_start w cells.whole (omega arith) v l, same 0 (λ h. omega arith), same (at_sizes + v) (λ h. omega arith))
    (by_test (ltb v (variable_count r))
    (λ t. let h = ltb-true v (variable_count r) t in rw t (both_right (ltb v (variable_count r)) (ltb (get_or c v 0) (size_of r v)) (cells.given v l (omega arith))))
    (λ t. let h = ltb-false v (variable_count r) t in rw t (eq-eqb (get_or c v 0) 255 (cells.rest v l (omega arith)))))

-- a pattern
pub marks_pattern : (r c : List ℕ) (p v : ℕ) → p < pattern_count r → v < 16 → Marks r c → pattern_ok r p v (get_or c v 0) ≡ true
unfolding pattern_ok
marks_pattern r c p v k l cells =
    let x = get_or c v 0 in
    one_of (eqb x 0) (ltb v (variable_count r) && eqb x 1) (cells.cell v l)
    (λ t. rw t)
    (λ t. either (eqb x 0) ((ltb p (pattern_count r) && ltb v (variable_count r)) && eqb x 1) (λ z.
    both (ltb p (pattern_count r) && ltb v (variable_count r)) (eqb x 1)
    (both (ltb p (pattern_count r)) (ltb v (variable_count r)) (lt-ltb p (pattern_count r) k) (both_left (ltb v (variable_count r)) (eqb x 1) t))
    (both_right (ltb v (variable_count r)) (eqb x 1) t)))

-- the members of pattern p are stored
pub pattern_filled : (r c : List ℕ) (i a q p : ℕ) → Filled r i a q → p < pattern_count r → Marks r c → Filled (sets r (at_pattern p) c) i a q
pattern_filled r c i a q p f few cells =
    let w = f.whole in
    let n = f.heads.patterns in
    let same = row_same r c (at_pattern p) w cells.whole (omega arith) in
    let far : (m : ℕ) → m < 64 → at_pattern p ≤ at_action m → at_pattern p + 16 ≤ at_action m = λ m l h. omega arith in
    let grown = row_grown r (sets r (at_pattern p) c) (at_pattern p) 16 same (length-sets r (at_pattern p) c) (omega arith) (omega arith) far in
    row_filled r (sets r (at_pattern p) c) (at_pattern p) 16 same (length-sets r (at_pattern p) c) (omega arith) (omega arith) far i a q f
    (λ v l x y. absurd (omega arith))
    (λ q v k l x y.
    let e : q ≡ p = omega arith in
    rw (e, row_new r c (at_pattern p) w cells.whole (omega arith) v l)
    (pattern_grown r (sets r (at_pattern p) c) p v (get_or c v 0) grown (marks_pattern r c p v few l cells)))
    (λ m b v h k l x y. absurd (omega arith))

-- a precondition or an outcome
pub block_filled : (r c : List ℕ) (i a q at m b : ℕ) → Filled r i a q → at ≡ at_block m b → m < action_count r → b < 9 → b ≤ outcome_count r m → Assigns r c → Filled (sets r at c) i a q
block_filled r c i a q at m b f here few nine used cells =
    let w = f.whole in
    let n = f.heads.actions in
    let same = row_same r c at w cells.whole (omega arith) in
    let far : (j : ℕ) → j < 64 → at ≤ at_action j → at + 16 ≤ at_action j = λ j l h. by_test (ltb m j) (λ t. let q = ltb-true m j t in omega arith) (λ t. let q = ltb-false m j t in omega arith) in
    let grown = row_grown r (sets r at c) at 16 same (length-sets r at c) (omega arith) (omega arith) far in
    row_filled r (sets r at c) at 16 same (length-sets r at c) (omega arith) (omega arith) far i a q f
    (λ v l x y. absurd (omega arith))
    (λ p v k l x y. absurd (omega arith))
    (λ j d v h k l x y.
    let ej : j ≡ m = omega arith in
    let ed : d ≡ b = omega arith in
    let ek : at_block m b + v ≡ at + v = omega arith in
    rw (ej, ed, ek, row_new r c at w cells.whole (omega arith) v l)
    (assignment_grown r (sets r at c) true (used_block (sets r at c) m b) v (get_or c v 0) grown l
    (λ t. used_grown r (sets r at c) m b grown (omega arith) (both (ltb m (action_count r)) (leb b (outcome_count r m)) (lt-ltb m (action_count r) few) (le-leb b (outcome_count r m) used)))
    (cells.cell v l)))

-- the budget, lowest byte first
pub budget_parts : (n : ℕ) → n ≤ 1000000 → n % 256 + 256 * (n / 256 % 256) + 65536 * (n / 65536 % 256) + 16777216 * (n / 16777216 % 256) ≤ 1000000
budget_parts n h =
    let a : n / 16777216 ≡ 0 = omega arith in
    let b : n / 65536 % 256 ≡ n / 65536 = omega arith in
    omega arith

module _ (r : List ℕ) (n : ℕ) (whole : length r ≡ record_size) where
  -- a cell beside the four bytes is as it was
  pub beside_budget : (k : ℕ) → (4 ≤ k → 8 ≤ k) → byte (sets r at_budget (budget_bytes n)) k ≡ byte r k
  unfolding budget_bytes
  beside_budget k h = outside_sets (budget_bytes n) r at_budget k h

  -- the four bytes
  pub budget-byte : (j : ℕ) → j < 4 → byte (sets r at_budget (budget_bytes n)) (4 + j) ≡ get_or (budget_bytes n) j 0
  unfolding budget_bytes
  budget-byte j l = inside_sets (budget_bytes n) r at_budget j l (omega arith)

  -- the budget in range
  pub budget_stored : n ≤ 1000000 → budget_of (sets r at_budget (budget_bytes n)) ≤ 1000000
  unfolding budget_of budget_bytes
  budget_stored h = rw (budget-byte 0 (omega arith), budget-byte 1 (omega arith), budget-byte 2 (omega arith), budget-byte 3 (omega arith)) (budget_parts n h)

-- the record is filled as far as it was
pub budget-filled : (r : List ℕ) (i a q n : ℕ) → Filled r i a q → n ≤ 1000000 → Filled (sets r at_budget (budget_bytes n)) i a q
budget-filled r i a q n f h =
    let w = f.whole in
    let same = beside_budget r n w in
    let grown : Grown r (sets r at_budget (budget_bytes n)) = record {
      variables = le_of_eq (sym (same 0 (λ l. omega arith)));
      actions = le_of_eq (sym (same 1 (λ l. omega arith)));
      patterns = le_of_eq (sym (same 2 (λ l. omega arith)));
      sizes = λ v l. le_of_eq (sym (same (at_sizes + v) (λ l. omega arith)));
      counts = λ m l. le_of_eq (sym (same (at_action m) (λ l. omega arith)));
    } in
    record {
      whole = length-sets r at_budget (budget_bytes n) ∙ w;
      heads = record {
        variables = rw (same 0 (λ l. omega arith)) f.heads.variables;
        actions = rw (same 1 (λ l. omega arith)) f.heads.actions;
        patterns = rw (same 2 (λ l. omega arith)) f.heads.patterns;
        limit = rw (same 3 (λ l. omega arith)) f.heads.limit;
        budget = budget_stored r n w h;
      };
      given = given_kept r (sets r at_budget (budget_bytes n)) i a q (λ v l. same (at_sizes + v) (λ l. omega arith)) (λ m l. same (at_action m) (λ l. omega arith)) (λ m l. same (at_cost m) (λ l. omega arith)) f.given;
      rows = rows_kept r (sets r at_budget (budget_bytes n)) 4 4 same grown f.rows (λ v l x y. absurd (omega arith)) (λ p v k l x y. absurd (omega arith)) (λ m b v j k l x y. absurd (omega arith));
    }
