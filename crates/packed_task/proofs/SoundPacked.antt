-- The task of a sound record fits the packed form, and its compiled words can be read. Assumes nothing.
use Rattle.std.proofs.Common.{◌≡◌, ℕ, suc, ◌<◌, ◌≤◌, ◌||◌, T, eqb, ltb, List, [], ◌∷◌, length, take, drop, sym, ap, ◌∙◌, zero-add, arith, ext_get_or, eq-eqb}
use Rattle.planning.specs.Finite.{tabulate}
use Rattle.planning.specs.Task.{fits_sizes}
use Rattle.planning.proofs.Finite.{length-tabulate, get_or_tabulate}
use Rattle.planning.proofs.Test.{and_in, and_l, and_r}
use Rattle.task_record.specs.Layout.{at_sizes, at_goal, at_precondition, at_outcome}
use Rattle.task_record.specs.Numbers.{variable_count, action_count, size_of}
use Rattle.task_record.specs.Numbers as rec
use Rattle.task_record.specs.Record.{Sound}
use Rattle.task_record.specs.TaskOf.{cells_at, action_of, task_of}
use Rattle.task_record.proofs.Fronts.{Unnamed}
use Rattle.task_record.proofs.SoundTask.{Assigns, all_tabulate, actions_right, size_right, outcomes_right, costs_right, goal_assigns, precondition_assigns, outcome_assigns, cell_of_part, sizes_length, assigns_fits, assigns_unnamed}
use Rattle.packed_task.specs.Packable.{all_cells_fit, PackableOutcome, PackableAction, Packable}
use Rattle.packed_task.specs.Packed.{outcome_count, action_weight, compiled, Readable}
use Rattle.packed_task.proofs.Compiled.{outcome_count_is, action_weight_is}
use Rattle.patterns.proofs.Reading.{actions_length, action_at_lem}
use Rattle.patterns.proofs.Sizes.{sizes_few}

-- Cells that fit the sizes as far as these go, and name nothing beyond.
beyond_fits : (o : List ℕ) → Unnamed 0 o → T (all_cells_fit [] o)
unfolding all_cells_fit
beyond_fits [] u = tt
beyond_fits (y ∷ o) u = and_in (eqb y 255) _ (rw (eq-eqb y 255 (u.free 0 (omega arith))) tt) (beyond_fits o (record { free = λ v l. u.free (suc v) (omega arith) }))

cells_fit : (zs o : List ℕ) → T (fits_sizes zs o) → Unnamed (length zs) o → T (all_cells_fit zs o)
unfolding all_cells_fit fits_sizes
cells_fit zs [] f u = tt
cells_fit [] (y ∷ o) f u = beyond_fits (y ∷ o) u
cells_fit (z ∷ zs) (y ∷ o) f u = and_in (eqb y 255 || ltb y z) _ (and_l (eqb y 255 || ltb y z) _ f)
    (cells_fit zs o (and_r (eqb y 255 || ltb y z) _ f) (record { free = λ v l. u.free (suc v) (omega arith) }))

module _ (r : List ℕ) (sound : Sound r) where
  assigned_fits : (c : List ℕ) → Assigns r c → T (all_cells_fit (task_of r).sizes c)
  unfolding task_of
  assigned_fits c a = cells_fit (task_of r).sizes c (assigns_fits r sound c a) (rw (sizes_length r sound) (assigns_unnamed r sound c a))

  sizes_listed : tabulate (size_of r) 0 (variable_count r) ≡ (task_of r).sizes
  unfolding task_of
  sizes_listed = let n = length-tabulate (size_of r) 0 (variable_count r) in
      ext_get_or 0 (tabulate (size_of r) 0 (variable_count r)) (take (variable_count r) (drop at_sizes r)) (n ∙ sym (sizes_length r sound))
      (λ i l. let k : i < variable_count r = rw n at l in
      get_or_tabulate (size_of r) 0 (variable_count r) i 0 k ∙ ap (size_of r) (zero-add i) ∙ sym (cell_of_part r (variable_count r) at_sizes i k))

  action_packable : (m : ℕ) → m < action_count r → PackableAction (task_of r).sizes (action_of r m)
  unfolding action_of
  action_packable m l = record {
    precondition_fits = assigned_fits (cells_at r (at_precondition m)) (precondition_assigns r sound m l);
    outcomes_few = rw (length-tabulate (λ k. cells_at r (at_outcome m k)) 0 (rec.outcome_count r m)) (outcomes_right r sound m l).1;
    outcomes_fit = all_tabulate (PackableOutcome (task_of r).sizes) (λ k. cells_at r (at_outcome m k)) 0 (rec.outcome_count r m)
        (λ k u. rw (zero-add k) (let a = outcome_assigns r sound m k l u in record {
          cells_fit = assigned_fits (cells_at r (at_outcome m k)) a;
          whole = let w = a.whole in let n = sizes_few r sound in omega arith;
        }));
  }

  pub sound_packable : Packable (task_of r)
  unfolding task_of
  sound_packable = record {
    variables_few = sizes_few r sound;
    values_few = rw sizes_listed at (all_tabulate (λ z. z ≤ 16) (size_of r) 0 (variable_count r) (λ v l. rw (zero-add v) (size_right r sound v l).1));
    goal_fits = assigned_fits (cells_at r at_goal) (goal_assigns r sound);
    actions_few = rw (actions_length r) (actions_right r sound);
    actions_fit_lem = all_tabulate (PackableAction (task_of r).sizes) (action_of r) 0 (action_count r) (λ m l. rw (zero-add m) (action_packable m l));
  }

  module _ (m : ℕ) (l : m < action_count r) where
    -- What the words of an action say: its number of outcomes, and its cost for its weight.
    pub compiled_outcomes : outcome_count (compiled (task_of r)) m ≡ rec.outcome_count r m
    unfolding action_of
    compiled_outcomes = outcome_count_is (task_of r) sound_packable.actions_few m (rw (actions_length r) l)
        ∙ ap (λ a. length a.outcomes) (action_at_lem r m l) ∙ length-tabulate (λ k. cells_at r (at_outcome m k)) 0 (rec.outcome_count r m)

    pub compiled_outcomes_few : outcome_count (compiled (task_of r)) m ≤ 8
    compiled_outcomes_few = rw compiled_outcomes (outcomes_right r sound m l).1

    pub compiled_weight : action_weight (compiled (task_of r)) m ≡ rec.action_cost r m
    unfolding action_of
    compiled_weight = action_weight_is (task_of r) sound_packable.actions_few m (rw (actions_length r) l) ∙ ap (λ a. a.weight) (action_at_lem r m l)

  pub sound_readable : Readable (compiled (task_of r)) (action_count r)
  sound_readable = record {
    actions_few = actions_right r sound;
    outcomes_few = compiled_outcomes_few;
    outcomes_some = λ m l. rw (compiled_outcomes m l) (outcomes_right r sound m l).0;
    weights_some = λ m l. rw (compiled_weight m l) (costs_right r sound m l).0;
    weights_few = λ m l. rw (compiled_weight m l) (costs_right r sound m l).1;
  }
