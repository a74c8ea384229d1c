-- What the columns (specs/Columns.antt) say of the scan of a record: a part whose columns are right is passed whole. Assumes nothing.
use Rattle.std.proofs.Common.{◌≡◌, ℕ, ◌+◌, ◌-◌, ◌*◌, ◌/◌, ◌%◌, ◌<◌, ◌≤◌, true, cond, ◌&&◌, eqb, ltb, List, get_or, sym, ◌∙◌, arith, ltb-false, ltb-true, le-ltb, lt-ltb, eq-eqb, eqb-true, leb, le-leb, leb-true, ◌++◌, replicate, refl}
use lib.ListN.{get_or-replicate, get_or-append}
use Rattle.std.proofs.Math.Seq.{get_or-append_right}
use Rattle.task_record.proofs.Sixteens.{zeros}
use lib.Bits.{bit_or, bit_and, or_add_and, and_le_l, and_le_r}
use borrow.Author.Tests.{eqb-false}
use Rattle.task_record.specs.Layout.{record_size, at_sizes, at_goal, at_start, at_pattern, at_action, at_cost, action_size}
use Rattle.task_record.specs.Numbers.{variable_count, action_count, pattern_count, size_of, outcome_count}
use Rattle.task_record.specs.Scan.{first_from}
use Rattle.task_record.specs.Window.{fits}
use Rattle.task_record.specs.Record.{cell_ok, size_ok, count_ok, cost_ok, state_ok}
use Rattle.task_record.specs.State.{first_bad_value}
use Rattle.task_record.specs.Parts.{SizesPassed}
use Rattle.task_record.specs.Columns.{ActionColumn, MemberColumn, FrontPassed, Ramp}
use Rattle.planning.proofs.Test.{by_test}
use Rattle.task_record.proofs.Tests.{same_test, both_left}
use Rattle.task_record.proofs.Scanning.{first_suc, first_none}
use Rattle.task_record.proofs.Offsets.{size_at, goal_at, start_at, pattern_at, count_at, block_at, cost_at}
use Rattle.task_record.proofs.Windows.{size_window, assignment_window, unused_assignment_window, state_window, pattern_window, unused_pattern_window}
use Rattle.task_record.proofs.Parts.{Bytes, size_right}

-- What was gathered by `|` is 0 only where each part is.
pub or_zero_left : (a b : ℕ) → bit_or a b ≡ 0 → a ≡ 0
or_zero_left a b h = let s = or_add_and a b in let l = and_le_r a b in omega arith

pub or_zero_right : (a b : ℕ) → bit_or a b ≡ 0 → b ≡ 0
or_zero_right a b h = let s = or_add_and a b in let l = and_le_l a b in omega arith

pub or_ge_left : (a b : ℕ) → a ≤ bit_or a b
or_ge_left a b = let s = or_add_and a b in let l = and_le_r a b in omega arith

pub or_ge_right : (a b : ℕ) → b ≤ bit_or a b
or_ge_right a b = let s = or_add_and a b in let l = and_le_l a b in omega arith

-- One number more, of a statement on all those below.
pub below_next : (P : ℕ → Type 0) (i : ℕ) → P i → ((v : ℕ) → v < i → P v) → (v : ℕ) → v < i + 1 → P v
below_next P i here earlier v l =
    by_test (eqb v i)
    (λ t. let q = eqb-true v i t in rw q here)
    (λ t. let q = eqb-false v i t in earlier v (omega (arith, q)))

-- A loop that raises a bound, and one that lowers it.
pub raised : (f : ℕ → ℕ) (from i high new : ℕ) → high ≤ new → f i ≤ new → ((k : ℕ) → from ≤ k → k < i → f k ≤ high) → (k : ℕ) → from ≤ k → k < i + 1 → f k ≤ new
raised f from i high new up here earlier k g l =
    below_next (λ (k : ℕ). from ≤ k → f k ≤ new) i (λ h. here) (λ v w h. let q = earlier v h w in omega arith) k l g

pub lowered : (f : ℕ → ℕ) (from i low new : ℕ) → new ≤ low → new ≤ f i → ((k : ℕ) → from ≤ k → k < i → low ≤ f k) → (k : ℕ) → from ≤ k → k < i + 1 → new ≤ f k
lowered f from i low new down here earlier k g l =
    below_next (λ (k : ℕ). from ≤ k → new ≤ f k) i (λ h. here) (λ v w h. let q = earlier v h w in omega arith) k l g

-- A loop that gathers the faults of columns.
pub faults_next : (P : ℕ → Type 0) (i bad b : ℕ) → (b ≡ 0 → P i) → (bad ≡ 0 → (v : ℕ) → v < i → P v) → bit_or bad b ≡ 0 → (v : ℕ) → v < i + 1 → P v
faults_next P i bad b here earlier h = below_next P i (here (or_zero_right bad b h)) (earlier (or_zero_left bad b h))

-- The number of outcomes of action m is right, and of its nine rows of 16, the precondition and eight outcomes, the first ones are used.
pub record UsedRows (r : List ℕ) (m used : ℕ) : Type 0 where
  pub counted : cell_ok r (at_action m) ≡ true
  pub few : used ≤ 9
  pub row : (j : ℕ) → (ltb m (action_count r) && leb j (outcome_count r m)) ≡ ltb j used

module _ (r : List ℕ) (m : ℕ) where
  pub used_rows : m < 64 → m < action_count r → 1 ≤ outcome_count r m → outcome_count r m ≤ 8 → UsedRows r m (1 + outcome_count r m)
  unfolding count_ok
  used_rows near h a b =
      record {
        counted = count_at r m near ∙ rw (lt-ltb m (action_count r) h, le-leb 1 (outcome_count r m) a, le-leb (outcome_count r m) 8 b);
        few = omega arith;
        row = λ j. rw (lt-ltb m (action_count r) h) (same_test (leb j (outcome_count r m)) (ltb j (1 + outcome_count r m))
            (λ p. let q = leb-true j (outcome_count r m) p in lt-ltb j (1 + outcome_count r m) (omega arith))
            (λ p. let q = ltb-true j (1 + outcome_count r m) p in le-leb j (outcome_count r m) (omega arith)));
      }

  pub no_rows : m < 64 → action_count r ≤ m → outcome_count r m ≡ 0 → UsedRows r m 0
  unfolding count_ok
  no_rows near h z =
      record {
        counted = count_at r m near ∙ rw (le-ltb m (action_count r) h, eq-eqb (outcome_count r m) 0 z);
        few = omega arith;
        row = λ j. rw (le-ltb m (action_count r) h, le-ltb j 0 (omega arith));
      }

-- What the size of a variable says once it is right.
module _ (r : List ℕ) (v : ℕ) (right : size_ok r v (size_of r v) ≡ true) where
  pub vacant : 1 - size_of r v ≡ cond (ltb v (variable_count r)) 0 1
  unfolding size_ok
  vacant =
      by_test (ltb v (variable_count r))
      (λ t. let l = leb-true 2 (size_of r v) (both_left _ _ (rw t at right)) in rw t (omega arith))
      (λ t. let z = eqb-true (size_of r v) 0 (rw t at right) in rw (t, z))

  pub member_fits : (x : ℕ) → x < 256 → x ≤ 1 - (1 - size_of r v) → fits x 0 (cond (ltb v (variable_count r)) 1 0) ≡ true
  unfolding fits
  member_fits x byte h =
      by_test (ltb v (variable_count r))
      (λ t. rw t (le-leb ((x + 0) % 256) 1 (omega arith)))
      (λ t. let z : 1 - size_of r v ≡ 1 = rw t at vacant in rw t (le-leb ((x + 0) % 256) 0 (omega arith)))

module _ (r : List ℕ) (bytes : Bytes r) where
  -- Sizes, goal and start of each variable.
  pub front_passes : ((v : ℕ) → v < 16 → (fits (size_of r v) (cond (ltb v (variable_count r)) 254 0) (cond (ltb v (variable_count r)) 14 0) ≡ true)
      × (fits (get_or r (at_goal + v) 0) 1 (size_of r v) ≡ true) × (fits (get_or r (at_start + v) 0) (1 - size_of r v) (size_of r v - 1) ≡ true)) → FrontPassed r
  front_passes each =
      let right : (v : ℕ) → v < 16 → size_ok r v (size_of r v) ≡ true = (λ v l. sym (size_window (size_of r v) (bytes (at_sizes + v)) r v) ∙ (each v l).0) in
      record {
        sizes = first_none (cell_ok r) at_sizes 16 (λ v l. size_at r v l ∙ right v l);
        goal = first_none (cell_ok r) at_goal 16 (λ v l. goal_at r v l ∙ sym (assignment_window (get_or r (at_goal + v) 0) (bytes (at_goal + v)) r v (right v l)) ∙ (each v l).1);
        start = first_none (cell_ok r) at_start 16 (λ v l. start_at r v l ∙ sym (state_window (get_or r (at_start + v) 0) (bytes (at_start + v)) r v (right v l)) ∙ rw (vacant r v (right v l)) at (each v l).2);
      }

  module _ (right : first_from (cell_ok r) at_sizes 16 ≡ at_goal) where
    -- Every value of a state.
    pub state_passes : (s : List ℕ) → Bytes s → ((v : ℕ) → v < 16 → fits (get_or s v 0) (1 - size_of r v) (size_of r v - 1) ≡ true) → first_bad_value r s ≡ 16
    unfolding first_bad_value
    state_passes s fit each =
        first_none (λ v. state_ok r v (get_or s v 0)) 0 16 (λ v l.
        let z : 0 + v ≡ v = omega arith in
        let q = size_right r right v l in
        rw z (sym (state_window (get_or s v 0) (fit v) r v q) ∙ rw (vacant r v q) at (each v l)))

    -- The cells of a variable in the eight patterns.
    pub patterns_pass : (used : ℕ) → used ≡ pattern_count r → used ≤ 8 → ((v : ℕ) → v < 16 → MemberColumn r (size_of r v) (at_pattern 0 + v) used)
        → first_from (cell_ok r) (at_pattern 0) 128 ≡ at_action 0
    unfolding fits
    patterns_pass used e few each =
        first_none (cell_ok r) (at_pattern 0) 128 (λ i l.
        let x = get_or r (at_pattern 0 + i) 0 in
        let b = bytes (at_pattern 0 + i) in
        let col = each (i % 16) (omega arith) in
        let p : at_pattern 0 + i % 16 + 16 * (i / 16) ≡ at_pattern 0 + i = omega arith in
        pattern_at r i l
        ∙ by_test (ltb (i / 16) (pattern_count r))
        (λ w.
        let u = rw p at (col.used_cell (i / 16) (omega arith)) in
        sym (pattern_window x b r (i % 16) (i / 16) w) ∙ member_fits r (i % 16) (size_right r right (i % 16) (omega arith)) x b u)
        (λ w.
        let g = ltb-false (i / 16) (pattern_count r) w in
        let u = rw p at (col.unused_cell (i / 16) (omega arith) (omega arith)) in
        sym (unused_pattern_window x b r (i % 16) (i / 16) w) ∙ le-leb ((x + 0) % 256) 0 (omega arith)))

    -- The cells of a variable in the nine rows of an action.
    pub action_passes : (m used : ℕ) → m < 64 → UsedRows r m used → ((v : ℕ) → v < 16 → ActionColumn r (size_of r v) (at_action m + 1 + v) used)
        → first_from (cell_ok r) (at_action m) action_size ≡ at_action (m + 1)
    unfolding fits
    action_passes m used near rows each =
        let few = rows.few in
        let all : (i : ℕ) → i < 144 → cell_ok r (at_action m + 1 + i) ≡ true =
        (λ i l.
        let x = get_or r (at_action m + 1 + i) 0 in
        let b = bytes (at_action m + 1 + i) in
        let col = each (i % 16) (omega arith) in
        let p : at_action m + 1 + i % 16 + 16 * (i / 16) ≡ at_action m + 1 + i = omega arith in
        block_at r m i near l
        ∙ rw (rows.row (i / 16)) (by_test (ltb (i / 16) used)
        (λ w.
        let g = ltb-true (i / 16) used w in
        let u = rw p at (col.named (i / 16) (omega arith)) in
        rw w (sym (assignment_window x b r (i % 16) (size_right r right (i % 16) (omega arith))) ∙ u))
        (λ w.
        let g = ltb-false (i / 16) used w in
        let u = rw p at (col.unnamed (i / 16) (omega arith) (omega arith)) in
        rw w (sym (unused_assignment_window x b r (i % 16)) ∙ le-leb ((x + 1) % 256) 0 (omega arith))))) in
        let e : at_action m + 1 + 144 ≡ at_action (m + 1) = omega arith in
        first_suc (cell_ok r) (at_action m) 144 rows.counted ∙ first_none (cell_ok r) (at_action m + 1) 144 all ∙ e

-- The same of sizes that were read once.
module _ (r sizes : List ℕ) (bytes : Bytes r) (passed : SizesPassed r sizes) where
  pub patterns_told : (used : ℕ) → used ≡ pattern_count r → used ≤ 8 → ((v : ℕ) → v < 16 → MemberColumn r (get_or sizes v 0) (at_pattern 0 + v) used)
      → first_from (cell_ok r) (at_pattern 0) 128 ≡ at_action 0
  patterns_told used e few each = patterns_pass r bytes passed.right used e few (λ v l. rw (passed.read.cell v l) at (each v l))

  pub action_told : (m : ℕ) → m < 64 → m < action_count r → 1 ≤ outcome_count r m → outcome_count r m ≤ 8
      → ((v : ℕ) → v < 16 → ActionColumn r (get_or sizes v 0) (at_action m + 1 + v) (1 + outcome_count r m)) → first_from (cell_ok r) (at_action m) action_size ≡ at_action (m + 1)
  action_told m near h a b each = action_passes r bytes passed.right m (1 + outcome_count r m) near (used_rows r m near h a b) (λ v l. rw (passed.read.cell v l) at (each v l))

-- The costs, each there exactly where its action is used.
pub costs_pass : (r : List ℕ) → Bytes r → ((m : ℕ) → m < 64 → ltb 0 (get_or r (at_cost m) 0) ≡ ltb m (action_count r)) → first_from (cell_ok r) (at_cost 0) (record_size - at_cost 0) ≡ record_size
unfolding cost_ok
costs_pass r bytes each = first_none (cell_ok r) (at_cost 0) (record_size - at_cost 0)
    (λ m l. let x = get_or r (at_cost m) 0 in
    cost_at r m ∙ by_test (ltb m (action_count r))
    (λ w. let g = ltb-true 0 x (each m l ∙ w) in let b = bytes (at_cost m) in rw (w, le-leb 1 x (omega arith), le-leb x 255 (omega arith)))
    (λ w. let g = ltb-false 0 x (each m l ∙ w) in rw w (eq-eqb x 0 (omega arith))))

pub is_ramp : Ramp (replicate 16 255 ++ replicate 16 0)
is_ramp = record { whole = refl; high = λ k h. get_or-append (replicate {A = ℕ} 16 255) (replicate {A = ℕ} 16 0) 0 k h ∙ get_or-replicate 16 k 255 0 h; low = λ k h. get_or-append_right (replicate {A = ℕ} 16 255) (replicate {A = ℕ} 16 0) k 0 h ∙ zeros 16 (k - 16) }

-- The place of variable v in a ramp of which n cells from the left are used.
pub ramp_cell : (ramp : List ℕ) → Ramp ramp → (n v : ℕ) → n ≤ 16 → v < 16 → get_or ramp (16 - n + v) 0 ≡ cond (ltb v n) 255 0
ramp_cell ramp t n v few l =
    by_test (ltb v n)
    (λ w. let g = ltb-true v n w in rw w (t.high (16 - n + v) (omega arith)))
    (λ w. let g = ltb-false v n w in rw w (t.low (16 - n + v) (omega arith)))

pub ramp_window : (x v n : ℕ) → fits x (bit_and (cond (ltb v n) 255 0) 254) (bit_and (cond (ltb v n) 255 0) 14) ≡ fits x (cond (ltb v n) 254 0) (cond (ltb v n) 14 0)
ramp_window x v n = by_test (ltb v n) (λ w. rw w) (λ w. rw w)
