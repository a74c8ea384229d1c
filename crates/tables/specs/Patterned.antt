-- A pattern of a compiled task, and what the build of its table rests on. Assumes nothing.
use Rattle.std.specs.Prelude.{◌≡◌, ℕ, ◌<◌, ◌≤◌, not, List, map, take}
use Rattle.planning.specs.Table.{state_count, table, entry_of}
use Rattle.task_record.specs.Layout.{at_pattern}
use Rattle.task_record.specs.Numbers.{pattern_count, size_of}
use Rattle.task_record.specs.TaskOf.{cells_at, task_of}
use Rattle.task_record.specs.Window.{Sixteen}
use Rattle.packed_task.specs.Packed.{pack_by, picking, compiled, Readable}
use Rattle.planning.specs.Sets.{set_from}
use Rattle.packed_task.specs.Within.{idles}
use Rattle.tables.specs.Steps.{Bounded}
use Rattle.tables.specs.Edges.{Walkable}
use Rattle.tables.specs.Built.{Built}

-- The task's words and its number of actions; its number of variables and their sizes; the pattern, its mask, and its effective actions: those of
-- which no outcome leaves every state as it is.
pub record Patterned : Type 0 where
  pub task : List ℕ
  pub actions : ℕ
  pub variables : ℕ
  pub sizes : List ℕ
  pub picked : List ℕ
  pub mask : ℕ
  pub effective : ℕ

-- The compiled words can be read, each state of the pattern stands at its index and has the states after it among them, sizes and pattern are
-- within their bounds, and mask and actions are those of task and pattern.
pub record Ready (p : Patterned) : Type 0 where
  pub readable : Readable p.task p.actions
  pub walkable : Walkable p.task p.mask p.actions p.variables p.sizes p.picked
  pub bounded : Bounded p.sizes p.picked p.variables
  pub masked : p.mask ≡ pack_by picking p.picked
  pub effective_is : p.effective ≡ set_from (λ m. not (idles p.task p.mask m)) 0 p.actions

-- How many abstract states it has, and that entries are its table.
abbrev pub states_of : Patterned → ℕ
states_of p = state_count (take p.variables p.sizes) p.picked

abbrev pub TableOf : Patterned → List ℕ → Type 0
TableOf p entries = Built p.task p.actions p.variables p.sizes p.picked entries

-- How many abstract states pattern number p of a record has, and the entries of its table as it is defined.
abbrev pub states_at : List ℕ → ℕ → ℕ
states_at r p = state_count (task_of r).sizes (cells_at r (at_pattern p))

abbrev pub entries_at : List ℕ → ℕ → List ℕ
entries_at r p = map entry_of (table (task_of r) (cells_at r (at_pattern p)))

-- The words are the record's compiled task, the sizes are the record's, and the number names a pattern of few states.
pub record Chosen (r task sizes : List ℕ) (p : ℕ) : Type 0 where
  pub task_is : task ≡ compiled (task_of r)
  pub sixteen : Sixteen (size_of r) sizes
  pub known : p < pattern_count r
  pub few : states_at r p ≤ 4096

-- It is pattern number p of the record: it has as many states, and its table is the one that is defined.
pub record PatternOf (r : List ℕ) (p : ℕ) (x : Patterned) : Type 0 where
  pub states : states_of x ≡ states_at r p
  pub table_is : (entries : List ℕ) → TableOf x entries → entries ≡ entries_at r p
