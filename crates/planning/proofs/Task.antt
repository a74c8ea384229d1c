-- Laws of tasks: actions lead from states to states, so a well-formed task is a system as the laws ask; and an empty goal is met by every
-- state. Assumes nothing.
use mathlib.Core.Path.{◌≡◌}
use mathlib.Core.Bool.{◌||◌}
use mathlib.Core.List.{List, [], ◌∷◌}
use Prim.Native.Nat.{ℕ, ◌<◌}
use lib.Dec.{T, eqb, ltb}
use lib.ListN.{length}
use Rattle.planning.specs.Finite.{All, Some}
use Rattle.planning.specs.System.{Invariant}
use Rattle.planning.specs.Task.{Task, meets, apply_cell, apply, action_at, no_action, system, in_sizes, fits_sizes, State, WellFormedAction, WellFormed}
use Rattle.planning.proofs.Test.{and_in, and_l, and_r, by_test}
use Rattle.planning.proofs.Finite.{all_imp, all_map, all_at, some_map}

apply_cell-fits : (y x z : ℕ) → T (eqb y 255 || ltb y z) → T (ltb x z) → T (ltb (apply_cell y x) z)
apply_cell-fits y x z a b = by_test (eqb y 255) (λ e. rw e b) (λ e. rw e (rw e at a))

-- An outcome that fits the sizes leads from a state to a state.
pub apply_keeps_sizes : (zs o s : List ℕ) → T (fits_sizes zs o) → T (in_sizes zs s) → T (in_sizes zs (apply o s))
unfolding fits_sizes in_sizes apply
apply_keeps_sizes [] o [] a b = tt
apply_keeps_sizes [] o (x ∷ s) a b = absurd b
apply_keeps_sizes (z ∷ zs) o [] a b = absurd b
apply_keeps_sizes (z ∷ zs) [] (x ∷ s) a b = b
apply_keeps_sizes (z ∷ zs) (y ∷ o) (x ∷ s) a b = and_in (ltb (apply_cell y x) z) _ (apply_cell-fits y x z (and_l (eqb y 255 || ltb y z) _ a) (and_l (ltb x z) _ b))
    (apply_keeps_sizes zs o s (and_r (eqb y 255 || ltb y z) _ a) (and_r (ltb x z) _ b))

-- What a number below the number of actions names is well formed.
pub action_well_formed : (t : Task) → WellFormed t → (m : ℕ) → m < length t.actions → WellFormedAction t.sizes (action_at t m)
action_well_formed t w m l = all_at (WellFormedAction t.sizes) t.actions no_action w.actions_well_formed m l

pub task_invariant : (t : Task) → WellFormed t → Invariant (system t) (State t)
unfolding system
task_invariant t w = record {
  weight_positive = λ m l. (action_well_formed t w m l).weight_positive;
  closed = λ m s l o c. all_map (State t) (λ o. apply o s) (action_at t m).outcomes
      (all_imp (λ e f. apply_keeps_sizes t.sizes e s f o) (action_at t m).outcomes (action_well_formed t w m l).outcomes_fit);
}

-- Every action leads somewhere.
pub task_filled : (t : Task) → WellFormed t → (m : ℕ) (s : List ℕ) → m < length t.actions → Some (λ x. Unit {0}) ((system t).successors m s)
unfolding system
task_filled t w m s l = some_map (λ x. Unit {0}) (λ o. apply o s) (action_at t m).outcomes (action_well_formed t w m l).some_outcome

-- "An empty goal makes every state a goal": cells that name no variable are met by every state.
pub nothing_named-met : (cells s : List ℕ) → All (λ y. y ≡ 255) cells → T (meets cells s)
unfolding meets
nothing_named-met [] s h = tt
nothing_named-met (y ∷ cells) [] h = tt
nothing_named-met (y ∷ cells) (x ∷ s) h = rw h.0 (nothing_named-met cells s h.1)

pub empty_goal_met : (t : Task) → All (λ y. y ≡ 255) t.goal → (s : List ℕ) → T ((system t).goal s)
unfolding system
empty_goal_met t h s = nothing_named-met t.goal s h
