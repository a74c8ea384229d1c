-- What the parts of the record check rest on once the sizes have passed. Assumes nothing.
use Rattle.std.specs.Prelude.{◌≡◌, ℕ, ◌<◌, ◌≤◌, List, length, slice_index}
use Rattle.task_record.specs.Layout.{record_size, at_sizes, at_goal}
use Rattle.task_record.specs.Numbers.{size_of}
use Rattle.task_record.specs.Scan.{first_from}
use Rattle.task_record.specs.Window.{Sixteen}
use Rattle.task_record.specs.Record.{cell_ok}

-- The record is long enough, its cells are bytes, its sizes are right, and these are they.
pub record SizesPassed (r sizes : List ℕ) : Type 0 where
  pub long : record_size ≤ length r
  pub byte : (k : ℕ) → slice_index r k < 256
  pub right : first_from (cell_ok r) at_sizes 16 ≡ at_goal
  pub read : Sixteen (size_of r) sizes
