-- The tasks that fit the packed form: at most 16 variables of at most 16 values, 64 actions, 8 outcomes each. Assumes nothing.
use Rattle.std.specs.Prelude.{ℕ, ◌≤◌, Bool, true, ◌&&◌, ◌||◌, T, List, [], ◌∷◌, length, ◌==◌, nat_lt}
use Rattle.planning.specs.Finite.{All}
use Rattle.planning.specs.Task.{Action, Task}

-- A partial assignment names values below the sizes, and nothing beyond the last variable.
unfoldable pub all_cells_fit : List ℕ → List ℕ → Bool
all_cells_fit zs [] = true
all_cells_fit [] (y ∷ o) = y == 255 && all_cells_fit [] o
all_cells_fit (z ∷ zs) (y ∷ o) = (y == 255 || nat_lt y z) && all_cells_fit zs o

-- An outcome has a cell for each variable: where there is none the packed form keeps nothing.
pub record PackableOutcome (zs o : List ℕ) : Type 0 where
  pub cells_fit : T (all_cells_fit zs o)
  pub whole : length zs ≤ length o

pub record PackableAction (zs : List ℕ) (a : Action) : Type 0 where
  pub precondition_fits : T (all_cells_fit zs a.precondition)
  pub outcomes_few : length a.outcomes ≤ 8
  pub outcomes_fit : All (PackableOutcome zs) a.outcomes

pub record Packable (t : Task) : Type 0 where
  pub variables_few : length t.sizes ≤ 16
  pub values_few : All (λ z. z ≤ 16) t.sizes
  pub goal_fits : T (all_cells_fit t.sizes t.goal)
  pub actions_few : length t.actions ≤ 64
  pub actions_fit_lem : All (PackableAction t.sizes) t.actions
