-- What a build ensures: for every task that the compiled words stand for, the entries are the pattern's table. Assumes nothing.
use Rattle.std.specs.Prelude.{◌≡◌, ℕ, ◌<◌, List, map, length, take, slice_index_or}
use Rattle.planning.specs.Extended.{fin, inf}
use Rattle.planning.specs.Task.{Task, WellFormed}
use Rattle.planning.specs.Table.{table, entry_of, infinite_entry}
use Rattle.packed_task.specs.Packed.{compiled}
use Rattle.packed_task.specs.Packable.{Packable}

-- Finite entries are below the infinite one: where no action weighs more than 255, at most 1,044,225 (light_entries_bounded of planning).
pub record Built (words : List ℕ) (actions n : ℕ) (sizes p entries : List ℕ) : Type 0 where
  pub is_table : (t : Task) → WellFormed t → Packable t → take n sizes ≡ t.sizes → words ≡ compiled t → actions ≡ length t.actions →
      ((i k : ℕ) → slice_index_or (table t p) i inf ≡ fin k → k < infinite_entry) → entries ≡ map entry_of (table t p)
