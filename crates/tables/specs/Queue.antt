-- The waiting states: a mark for each, and their number. What was put in and not taken out is in; nothing is said of the order.
-- Assumes nothing.
use Rattle.std.specs.Prelude.{◌≡◌, ℕ, ◌+◌, ◌-◌, ◌<◌, ◌≤◌, Bool, cond, List, [], ◌∷◌, length, ◌≢◌}
use Rattle.tables.specs.Waiting.{Waits}

-- How many states wait.
unfoldable pub waiting : List Bool → ℕ
waiting [] = 0
waiting (b ∷ marks) = cond b 1 0 + waiting marks

-- c of n states wait.
pub record Queue (n : ℕ) (marks : List Bool) (c : ℕ) : Type 0 where
  pub room : n ≤ length marks
  pub states_few : n ≤ 4096
  pub inside : (j : ℕ) → Waits marks j → j < n
  pub counted : waiting marks ≡ c

-- State j was put in.
pub record Put (n : ℕ) (marks : List Bool) (c j : ℕ) (marks₁ : List Bool) (d : ℕ) : Type 0 where
  pub queue : Queue n marks₁ d
  pub here : Waits marks₁ j
  pub still : (k : ℕ) → Waits marks k → Waits marks₁ k
  pub few : d ≤ c + 1

-- State j was taken out.
pub record Taken (n : ℕ) (marks : List Bool) (c : ℕ) (marks₁ : List Bool) (j : ℕ) : Type 0 where
  pub known : j < n
  pub queue : Queue n marks₁ (c - 1)
  pub others : (k : ℕ) → (k ≢ j) → Waits marks k → Waits marks₁ k
