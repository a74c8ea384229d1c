-- Estimates of the cost of a state: when they are consistent, and when they are admissible. Assumes nothing.
use Rattle.std.specs.Prelude.{◌≡◌, ℕ, ◌<◌, T}
use Rattle.planning.specs.Finite.{Some}
use Rattle.planning.specs.Extended.{ℕ∞, fin, ◌≤?◌, add∞, ◌≤∞◌}
use Rattle.planning.specs.System.{System, applies}
use Rattle.planning.specs.Plan.{Plan, Strong, cost}

-- Consistent: 0 at a goal, and under every action that applies some outcome lowers the estimate by at most the action's weight.
pub record Consistent {S : Type 0} (Y : System S) (Ok : S → Type 0) (h : S → ℕ∞) : Type 0 where
  pub at_goal_lem : (s : S) → Ok s → T (Y.goal s) → h s ≡ fin 0
  pub step : (m : ℕ) (s : S) → m < Y.actions → Ok s → T (applies Y m s) → Some (λ x. h s ≤∞ add∞ (fin (Y.weight m)) (h x)) (Y.successors m s)

-- Admissible: "for every state and every strong plan from it, .. the .. estimate is at most that plan's cost" (demand 3).
abbrev pub Admissible : {S : Type 0} → System S → (S → Type 0) → (S → ℕ∞) → Type 0
Admissible {S} Y Ok h = (p : Plan) (s : S) → Ok s → Strong Y p s → T (h s ≤? cost Y p)
