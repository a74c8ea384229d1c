-- The task of a sound record is well formed, its start is one of its states, and its assignments name nothing beyond its variables.
-- Assumes nothing.
use Rattle.std.proofs.Common.{◌≡◌, ℕ, zero, suc, ◌+◌, ◌*◌, ◌/◌, ◌%◌, ◌<◌, ◌≤◌, true, false, ◌||◌, T, eqb, ltb, leb, List, [], ◌∷◌, length, get_or, take, drop, sym, ◌∙◌, add-zero, arith, length-drop, length-take-le, get_or-drop, get_or-take, ltb-false, ltb-true, le-ltb, lt-ltb, eqb-true, le-leb, leb-true}
use Rattle.std.proofs.lemmas.Bool.{lt-leb}
use mathlib.Core.Bool.{or-false}
use lib.ListN.{get_or-eq_default}
use Rattle.planning.specs.Finite.{All, tabulate}
use Rattle.planning.specs.Task.{State, in_sizes, fits_sizes, WellFormedAction, WellFormed}
use Rattle.planning.proofs.Finite.{some_tabulate, some_imp}
use Rattle.task_record.specs.Layout.{record_size, at_variables, at_actions, at_patterns, at_sizes, at_goal, at_start, at_action, at_precondition, at_outcome, at_cost}
use Rattle.task_record.specs.Numbers.{byte, variable_count, action_count, pattern_count, size_of, outcome_count, action_cost}
use Rattle.task_record.specs.Record.{cell_ok, head_ok, size_ok, value_ok, assignment_ok, state_ok, count_ok, cost_ok, Sound}
use Rattle.task_record.specs.TaskOf.{cells_at, action_of, task_of, start_of}
use Rattle.planning.proofs.Test.{by_test}
use Rattle.task_record.proofs.Tests.{both_left, both_right, one_of, false_true}
use Rattle.task_record.proofs.Offsets.{size_at, goal_at, start_at, count_at, block_at, cost_at}
use Rattle.task_record.proofs.Soundness.{sound_length, sound_cell}
use Rattle.task_record.proofs.Sixteens.{any_default}
use Rattle.task_record.proofs.Fronts.{Unnamed}

pub all_tabulate : {A : Type 0} (P : A → Type 0) (f : ℕ → A) (k n : ℕ) → ((i : ℕ) → i < n → P (f (k + i))) → All P (tabulate f k n)
unfolding tabulate
all_tabulate P f k zero each = tt
all_tabulate P f k (suc n) each =
    (rw add-zero at (each 0 (omega arith)), all_tabulate P f (suc k) n (λ i l. let e : suc k + i ≡ k + (i + 1) = omega arith in rw e (each (i + 1) (omega arith))))

-- Lists beside sizes, place by place.
pub in_sizes_lem : (zs s : List ℕ) → length s ≡ length zs → ((i : ℕ) → i < length zs → get_or s i 0 < get_or zs i 0) → T (in_sizes zs s)
unfolding in_sizes
in_sizes_lem [] [] e each = tt
in_sizes_lem [] (x ∷ s) e each = absurd (omega arith)
in_sizes_lem (z ∷ zs) [] e each = absurd (omega arith)
in_sizes_lem (z ∷ zs) (x ∷ s) e each =
    rw (lt-ltb x z (each 0 (omega arith))) (in_sizes_lem zs s (omega arith) (λ i l. each (suc i) (omega arith)))

fits_sizes_lem : (zs o : List ℕ) → ((i : ℕ) → i < length zs → i < length o → (eqb (get_or o i 0) 255 || ltb (get_or o i 0) (get_or zs i 0)) ≡ true) → T (fits_sizes zs o)
unfolding fits_sizes
fits_sizes_lem [] [] each = tt
fits_sizes_lem (z ∷ zs) [] each = tt
fits_sizes_lem [] (y ∷ o) each = tt
fits_sizes_lem (z ∷ zs) (y ∷ o) each =
    rw (each 0 (omega arith) (omega arith)) (fits_sizes_lem zs o (λ i l k. each (suc i) (omega arith) (omega arith)))

all_from_cells : (P : ℕ → Type 0) (l : List ℕ) → ((i : ℕ) → i < length l → P (get_or l i 0)) → All P l
all_from_cells P [] each = tt
all_from_cells P (x ∷ l) each = (each 0 (omega arith), all_from_cells P l (λ i h. each (suc i) (omega arith)))

pub cell_of_part : (r : List ℕ) (n k v : ℕ) → v < n → get_or (take n (drop k r)) v 0 ≡ byte r (k + v)
cell_of_part r n k v l = get_or-take n (drop k r) v 0 l ∙ get_or-drop k r v 0

pub length_of_part : (r : List ℕ) (n k : ℕ) → k + n ≤ length r → length (take n (drop k r)) ≡ n
length_of_part r n k l = let d = length-drop k r in length-take-le n (drop k r) (omega arith)

-- Sixteen cells that name values of variables that are used, and nothing else.
pub record Assigns (r c : List ℕ) : Type 0 where
  pub whole : length c ≡ 16
  pub cell : (v : ℕ) → v < 16 → assignment_ok r true v (get_or c v 0) ≡ true

module _ (r : List ℕ) (sound : Sound r) where
  pub variables_right : (1 ≤ variable_count r) × (variable_count r ≤ 16)
  unfolding cell_ok head_ok
  variables_right =
      let h = sound_cell r sound at_variables (omega arith) in
      (leb-true 1 (variable_count r) (both_left _ _ h), leb-true (variable_count r) 16 (both_right (leb 1 (variable_count r)) _ h))

  pub actions_right : action_count r ≤ 64
  unfolding cell_ok head_ok
  actions_right = leb-true (action_count r) 64 (sound_cell r sound at_actions (omega arith))

  pub patterns_right : pattern_count r ≤ 8
  unfolding cell_ok head_ok
  patterns_right = leb-true (pattern_count r) 8 (sound_cell r sound at_patterns (omega arith))

  pub size_right : (v : ℕ) → v < variable_count r → (2 ≤ size_of r v) × (size_of r v ≤ 16)
  unfolding size_ok
  size_right v l =
      let n = variables_right in
      let h = rw (lt-ltb v (variable_count r) l) at (sym (size_at r v (omega arith)) ∙ sound_cell r sound (at_sizes + v) (omega arith)) in
      (leb-true 2 (size_of r v) (both_left _ _ h), leb-true (size_of r v) 16 (both_right (leb 2 (size_of r v)) _ h))

  pub outcomes_right : (m : ℕ) → m < action_count r → (1 ≤ outcome_count r m) × (outcome_count r m ≤ 8)
  unfolding count_ok
  outcomes_right m l =
      let n = actions_right in
      let h = rw (lt-ltb m (action_count r) l) at (sym (count_at r m (omega arith)) ∙ sound_cell r sound (at_action m) (omega arith)) in
      (leb-true 1 (outcome_count r m) (both_left _ _ h), leb-true (outcome_count r m) 8 (both_right (leb 1 (outcome_count r m)) _ h))

  pub costs_right : (m : ℕ) → m < action_count r → (1 ≤ action_cost r m) × (action_cost r m ≤ 255)
  unfolding cost_ok
  costs_right m l =
      let n = actions_right in
      let h = rw (lt-ltb m (action_count r) l) at (sym (cost_at r m) ∙ sound_cell r sound (at_cost m) (omega arith)) in
      (leb-true 1 (action_cost r m) (both_left _ _ h), leb-true (action_cost r m) 255 (both_right (leb 1 (action_cost r m)) _ h))

  part_assigns : (k : ℕ) → k + 16 ≤ record_size → ((v : ℕ) → v < 16 → cell_ok r (k + v) ≡ assignment_ok r true v (byte r (k + v))) → Assigns r (cells_at r k)
  part_assigns k l rule =
      let n = sound_length r sound in
      record {
        whole = length_of_part r 16 k (omega arith);
        cell = λ v h. rw (cell_of_part r 16 k v h) (sym (rule v h) ∙ sound_cell r sound (k + v) (omega arith));
      }

  pub goal_assigns : Assigns r (cells_at r at_goal)
  goal_assigns = part_assigns at_goal (omega arith) (λ v h. goal_at r v h)

  -- Block j of an action, of those that are used.
  block_assigns : (m j k : ℕ) → m < action_count r → j ≤ outcome_count r m → k ≡ at_precondition m + 16 * j → Assigns r (cells_at r k)
  block_assigns m j k l u e =
      let n = actions_right in
      let c = outcomes_right m l in
      part_assigns k (omega arith)
      (λ v h.
      let i = 16 * j + v in
      let a : k + v ≡ at_action m + 1 + i = omega arith in
      let q : i / 16 ≡ j = omega arith in
      let w : i % 16 ≡ v = omega arith in
      rw a (block_at r m i (omega arith) (omega arith) ∙ rw (q, w, lt-ltb m (action_count r) l, le-leb j (outcome_count r m) u)))

  pub precondition_assigns : (m : ℕ) → m < action_count r → Assigns r (cells_at r (at_precondition m))
  precondition_assigns m l = block_assigns m 0 (at_precondition m) l (omega arith) (omega arith)

  pub outcome_assigns : (m k : ℕ) → m < action_count r → k < outcome_count r m → Assigns r (cells_at r (at_outcome m k))
  outcome_assigns m k l u = block_assigns m (k + 1) (at_outcome m k) l (omega arith) (omega arith)

  -- An outcome that is not used names nothing.
  pub outcome_unused : (m k : ℕ) → m < action_count r → outcome_count r m ≤ k → k < 8 → (v : ℕ) → v < 16 → byte r (at_outcome m k + v) ≡ 255
  unfolding assignment_ok
  outcome_unused m k l u b v h =
      let n = actions_right in
      let i = 16 * (k + 1) + v in
      let a : at_outcome m k + v ≡ at_action m + 1 + i = omega arith in
      let q : i / 16 ≡ k + 1 = omega arith in
      let o = rw (q, lt-ltb m (action_count r) l, lt-leb (k + 1) (outcome_count r m) (omega arith)) at (sym (block_at r m i (omega arith) (omega arith)) ∙ sound_cell r sound (at_action m + 1 + i) (omega arith)) in
      rw a (one_of (eqb (byte r (at_action m + 1 + i)) 255) false o (λ e. eqb-true (byte r (at_action m + 1 + i)) 255 e) (λ e. false_true e))

  pub sizes_length : length (take (variable_count r) (drop at_sizes r)) ≡ variable_count r
  sizes_length = let n = sound_length r sound in let v = variables_right in length_of_part r (variable_count r) at_sizes (omega arith)

  pub assigns_fits : (c : List ℕ) → Assigns r c → T (fits_sizes (task_of r).sizes c)
  unfolding task_of assignment_ok value_ok
  assigns_fits c a =
      let n = sizes_length in
      fits_sizes_lem (take (variable_count r) (drop at_sizes r)) c
      (λ i l k.
      let w = a.whole in
      let h : i < variable_count r = omega arith in
      rw (cell_of_part r (variable_count r) at_sizes i h) (rw (lt-ltb i (variable_count r) h) at (a.cell i (omega arith))))

  pub assigns_unnamed : (c : List ℕ) → Assigns r c → Unnamed (variable_count r) c
  unfolding assignment_ok value_ok
  assigns_unnamed c a =
      record {
        free = λ v l.
            let w = a.whole in
            by_test (ltb v 16)
            (λ t.
            let h = ltb-true v 16 t in
            let x = rw (le-ltb v (variable_count r) l, or-false) at (a.cell v h) in
            any_default c v 255 0 (omega arith) ∙ eqb-true (get_or c v 0) 255 x)
            (λ t. let h = ltb-false v 16 t in get_or-eq_default c 255 {n = v} (omega arith));
      }

  pub sound_well_formed : WellFormed (task_of r)
  unfolding task_of action_of
  sound_well_formed =
      record {
        sizes_positive =
            all_from_cells (λ z. 1 ≤ z) (take (variable_count r) (drop at_sizes r))
            (λ i l.
            let n = sizes_length in
            let h : i < variable_count r = omega arith in
            let z = size_right i h in rw (cell_of_part r (variable_count r) at_sizes i h) (omega arith));
        actions_well_formed =
            all_tabulate (WellFormedAction (task_of r).sizes) (action_of r) 0 (action_count r)
            (λ m l.
            let e : 0 + m ≡ m = omega arith in
            let c = outcomes_right m l in
            let w = costs_right m l in
            rw e (record {
              weight_positive = w.0;
              some_outcome = some_imp (λ x h. tt) (action_of r m).outcomes (some_tabulate (λ k. cells_at r (at_outcome m k)) 0 (outcome_count r m) 0 (omega arith));
              outcomes_fit =
                  all_tabulate (λ o. T (fits_sizes (task_of r).sizes o)) (λ k. cells_at r (at_outcome m k)) 0 (outcome_count r m)
                  (λ k u. let f : 0 + k ≡ k = omega arith in rw f (assigns_fits (cells_at r (at_outcome m k)) (outcome_assigns m k l u)));
            }));
      }

  pub sound_start : State (task_of r) (start_of r)
  unfolding task_of start_of state_ok
  sound_start =
      let n = sizes_length in
      let w = sound_length r sound in
      let v = variables_right in
      let m = length_of_part r (variable_count r) at_start (omega arith) in
      in_sizes_lem (take (variable_count r) (drop at_sizes r)) (take (variable_count r) (drop at_start r)) (omega arith)
      (λ i l.
      let h : i < variable_count r = omega arith in
      let x = rw (lt-ltb i (variable_count r) h) at (sym (start_at r i (omega arith)) ∙ sound_cell r sound (at_start + i) (omega arith)) in
      rw (cell_of_part r (variable_count r) at_sizes i h, cell_of_part r (variable_count r) at_start i h) (ltb-true (byte r (at_start + i)) (size_of r i) x))
