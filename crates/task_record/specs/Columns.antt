-- What the test by columns (src/columns.rt) finds of a record: the cells of one variable in several rows of 16, the first at offset a.
-- Assumes nothing.
use Rattle.std.specs.Prelude.{◌≡◌, ℕ, ◌+◌, ◌-◌, ◌*◌, ◌<◌, ◌≤◌, true, List, length, slice_index}
use Rattle.task_record.specs.Layout.{at_sizes, at_goal, at_start, at_pattern}
use Rattle.task_record.specs.Scan.{first_from}
use Rattle.task_record.specs.Window.{fits}
use Rattle.task_record.specs.Record.{cell_ok}

-- An action's nine rows, of which the first ones are used: a used cell is 255 or below the size, an unused one is 255.
pub record ActionColumn (r : List ℕ) (size a used : ℕ) : Type 0 where
  pub named : (j : ℕ) → j < used → fits (slice_index r (a + 16 * j)) 1 size ≡ true
  pub unnamed : (j : ℕ) → used ≤ j → j < 9 → 255 ≤ slice_index r (a + 16 * j)

-- The eight patterns, of which the first ones are used: each cell is at most 1, and 0 where the size or the pattern is not used.
pub record MemberColumn (r : List ℕ) (size a used : ℕ) : Type 0 where
  pub used_cell : (j : ℕ) → j < 8 → slice_index r (a + 16 * j) ≤ 1 - (1 - size)
  pub unused_cell : (j : ℕ) → used ≤ j → j < 8 → slice_index r (a + 16 * j) ≡ 0

-- Sizes, goal and start are right.
pub record FrontPassed (r : List ℕ) : Type 0 where
  pub sizes : first_from (cell_ok r) at_sizes 16 ≡ at_goal
  pub goal : first_from (cell_ok r) at_goal 16 ≡ at_start
  pub start : first_from (cell_ok r) at_start 16 ≡ at_pattern 0

-- Sixteen times 255, then sixteen times 0.
pub record Ramp (r : List ℕ) : Type 0 where
  pub whole : length r ≡ 32
  pub high : (k : ℕ) → k < 16 → slice_index r k ≡ 255
  pub low : (k : ℕ) → 16 ≤ k → slice_index r k ≡ 0
