-- The value call on tables as a build of the same task leaves them: it answers the summed estimate, so a finite value is at most the cost of
-- every strong plan from the state, and an infinite one means that there is none. Assumes nothing.
use mathlib.Core.Path.{◌≡◌, refl, ap, ◌∙◌}
use mathlib.Core.List.{List, [], ◌∷◌, ◌++◌, map}
use Prim.Native.Nat.{ℕ, ◌≤◌}
use native.Mathlib.Omega.{arith}
use lib.Dec.{leb→le}
use lib.ListN.{length, length-append, length-map}
use Rattle.planning.specs.Finite.{All, chain}
use Rattle.planning.specs.Plan.{Plan, Strong, cost}
use Rattle.planning.specs.Task.{Task, State, system}
use Rattle.planning.specs.Pattern.{Additive}
use Rattle.planning.specs.Table.{table, tables, entry_of, estimate, Small, most_weight}
use Rattle.planning.proofs.Table.{table-length, value_of_built}
use Rattle.planning.proofs.Verdict.{verdict-additive}
use Rattle.planning.proofs.Estimate.{built_value_admissible, built_value_infinite}
use Rattle.task_record.specs.Numbers.{action_count}
use Rattle.task_record.specs.Record.{Sound}
use Rattle.task_record.specs.State.{state_check}
use Rattle.task_record.specs.TaskOf.{action_of, task_of, patterns_of, values_of}
use Rattle.std.proofs.Common.{Ok, Some, None, zero-add}
use Rattle.task_record.proofs.SoundTask.{all_tabulate, costs_right, sound_well_formed}
use Rattle.task_record.proofs.States.{checked_good, good_values}
use Rattle.patterns.specs.Space.{entries_needed}
use Rattle.patterns.specs.Additivity.{additivity_of}
use Rattle.patterns.specs.Estimate.{judge_estimate}
use Rattle.patterns.specs.Value.{value_of, read_value, state_value}
use Rattle.patterns.proofs.Refusals.{verdict_decides, ready_means, value_of_good, answered_means, read_finite, read_infinite}
use Rattle.patterns.proofs.Room.{fits_small, small_fits}

-- What a build leaves has as many entries as are needed.
pub built_length : (t : Task) (ps : List (List ℕ)) → length (tables t ps) ≡ entries_needed t.sizes ps
unfolding tables table chain entries_needed
built_length t [] = refl
built_length t (p ∷ ps) = length-append (map entry_of (table t p)) (tables t ps)
    ∙ rw (length-map (table t p) entry_of, table-length t p (λ a. a.weight), built_length t ps)

-- No action of a sound record weighs more than the largest cost.
pub light_weights : (r : List ℕ) → Sound r → All (λ a. a.weight ≤ most_weight) (task_of r).actions
unfolding task_of action_of
light_weights r sound = all_tabulate (λ a. a.weight ≤ most_weight) (action_of r) 0 (action_count r)
    (λ m l. rw (zero-add m) (costs_right r sound m l).1)

module _ (r s rest : List ℕ) where
  -- The task, its patterns, and the tables that a build of them leaves, whatever follows.
  abbrev pub built : List ℕ
  built = tables (task_of r) (patterns_of r) ++ rest

  -- On these tables the call refuses nothing but the record, the state, and patterns that are too large or not additive.
  pub built_ready : Small (task_of r) (patterns_of r) → Additive (task_of r) (patterns_of r) → judge_estimate r (length built) ≡ Ok tt
  unfolding Small additivity_of
  built_ready small add =
      let l = length-append (tables (task_of r) (patterns_of r)) rest in let e = built_length (task_of r) (patterns_of r) in
      let f = small_fits (task_of r).sizes (patterns_of r) (length built) small (omega arith) in
      verdict_decides r (length built) f (ap additivity_of ((verdict-additive (task_of r) (patterns_of r)).1 add))

  module _ (good : state_check r s ≡ Ok tt) where
    sound : Sound r
    sound = (checked_good r s good).0

    state : State (task_of r) (values_of r s)
    unfolding values_of
    state = good_values r sound s (checked_good r s good).1

    module _ (small : Small (task_of r) (patterns_of r)) where
      read_of_built : read_value r s built ≡ estimate (task_of r) (patterns_of r) (values_of r s)
      unfolding read_value
      read_of_built = value_of_built (task_of r) (values_of r s) state (light_weights r sound) (patterns_of r) small rest

      -- The call answers the summed estimate.
      pub call_on_built : Additive (task_of r) (patterns_of r) → state_value r s built ≡ Ok (value_of (estimate (task_of r) (patterns_of r) (values_of r s)))
      call_on_built add = value_of_good r s built good ∙ rw (built_ready small add, read_of_built)

  -- What a call that refuses nothing has found out.
  module _ (good : state_check r s ≡ Ok tt) (ready : judge_estimate r (length built) ≡ Ok tt) where
    ready_small : Small (task_of r) (patterns_of r)
    unfolding Small
    ready_small = let k = ready_means r (length built) ready in fits_small (task_of r).sizes (patterns_of r) (length built) k.0.0 k.0.1

    ready_additive : Additive (task_of r) (patterns_of r)
    ready_additive = (verdict-additive (task_of r) (patterns_of r)).0 (ready_means r (length built) ready).1

  -- A finite answer is at most the cost of every strong plan from the state.
  pub finite_answer_admissible : (n : ℕ) → state_value r s built ≡ Ok (Some n) → (p : Plan) → Strong (system (task_of r)) p (values_of r s) → n ≤ cost (system (task_of r)) p
  unfolding read_value
  finite_answer_admissible n h p q =
      let k = answered_means r s built (Some n) h in
      let e = read_finite (read_value r s built) n k.2 in
      let a = built_value_admissible (task_of r) (sound_well_formed r (sound k.0)) (patterns_of r) (ready_additive k.0 k.1) (ready_small k.0 k.1) (light_weights r (sound k.0)) rest p (values_of r s) (state k.0) q in
      leb→le n (cost (system (task_of r)) p) (rw e at a)

  -- An infinite answer means that there is no strong plan from the state.
  pub infinite_answer_no_plan : state_value r s built ≡ Ok None → (p : Plan) → Strong (system (task_of r)) p (values_of r s) → ⊥
  unfolding read_value
  infinite_answer_no_plan h p q =
      let k = answered_means r s built None h in
      let e = read_infinite (read_value r s built) k.2 in
      built_value_infinite (task_of r) (sound_well_formed r (sound k.0)) (patterns_of r) (ready_additive k.0 k.1) (ready_small k.0 k.1) (light_weights r (sound k.0)) rest (values_of r s) (state k.0) e p q
