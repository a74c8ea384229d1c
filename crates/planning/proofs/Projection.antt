-- A map from the states of one system to those of another that keeps goals, preconditions and outcomes: what the costs of the second say
-- about the first. Over any two systems. Assumes nothing.
use mathlib.Core.Path.{◌≡◌, ◌∙◌}
use mathlib.Core.List.{map}
use Prim.Native.Nat.{ℕ, ◌<◌}
use lib.Dec.{T}
use Rattle.planning.specs.Finite.{Some}
use Rattle.planning.specs.Extended.{ℕ∞, fin, ◌≤∞◌, add∞}
use Rattle.planning.specs.System.{System, applies, bellman}
use Rattle.planning.proofs.Test.{and_in, and_l, by_test}
use Rattle.planning.proofs.Finite.{some_imp, some_map, some_unmap}
use Rattle.planning.proofs.Extended.{zero_le∞}
use Rattle.planning.proofs.System.{bellman_goal, bellman_step}

pub record Projection {S R : Type 0} (Y : System S) (Z : System R) (π : S → R) : Type 0 where
  pub actions_same : Z.actions ≡ Y.actions
  pub goal_kept : (s : S) → T (Y.goal s) → T (Z.goal (π s))
  pub enabled_kept : (m : ℕ) (s : S) → m < Y.actions → T (Y.enabled m s) → T (Z.enabled m (π s))
  pub successors_kept : (m : ℕ) (s : S) → m < Y.actions → Z.successors m (π s) ≡ map π (Y.successors m s)

-- f is a fixed point of the second system's Bellman operator, so its cost.
module _ {S R : Type 0} (Y : System S) (Z : System R) (π : S → R) (H : Projection Y Z π) (Ok : R → Type 0) (f : R → ℕ∞) (fixed : (r : R) → Ok r → f r ≡ bellman Z f r) where
  pub projection_goal : (s : S) → Ok (π s) → T (Y.goal s) → f (π s) ≡ fin 0
  projection_goal s o g = fixed (π s) o ∙ bellman_goal Z f (π s) (H.goal_kept s g)

  -- Under an action that applies, some outcome lowers f by at most the weight that the action has in the second system. Where π s is a
  -- goal of the second the action does not apply there, but f is 0.
  pub projection_step : (m : ℕ) (s : S) → m < Y.actions → Ok (π s) → T (applies Y m s) → Some (λ x. Unit {0}) (Y.successors m s) →
      Some (λ x. f (π s) ≤∞ add∞ (fin (Z.weight m)) (f (π x))) (Y.successors m s)
  unfolding applies
  projection_step m s l o a e = rw (fixed (π s) o) (by_test (Z.goal (π s))
      (λ g. some_imp (λ x u. rw (bellman_goal Z f (π s) (rw g tt)) (zero_le∞ _)) (Y.successors m s) e)
      (λ g. some_unmap (λ y. bellman Z f (π s) ≤∞ add∞ (fin (Z.weight m)) (f y)) π (Y.successors m s)
      (rw (← H.successors_kept m s l) (bellman_step Z f m (π s) (rw H.actions_same l)
      (and_in (Z.enabled m (π s)) _ (H.enabled_kept m s l (and_l (Y.enabled m s) _ a)) (rw g tt))
      (rw (H.successors_kept m s l) (some_map (λ x. Unit {0}) π (Y.successors m s) e))))))
