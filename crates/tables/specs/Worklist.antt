-- A step of a worklist: what it keeps, and what it does to the entries and the states that wait. Assumes nothing.
use Rattle.std.specs.Prelude.{◌≡◌, ℕ, Bool, List}
use Rattle.tables.specs.Graph.{Graphed}
use Rattle.tables.specs.declared.worklist.visits.Worklist.{Worklist}

-- The worklist went from old to new: graph, entries and queue are the same ones, and P is what was done to entries, marks and number of waiting ones.
pub record Goes {N L : ℕ} (P : Graphed → List ℕ → List Bool → ℕ → List ℕ → List Bool → ℕ → Type 0) (old new : Worklist N L) : Type 0 where
  pub same_entries : new.entries.ghost_name ≡ old.entries.ghost_name
  pub same_queue : new.queue.ghost_name ≡ old.queue.ghost_name
  pub same_graph : new.graph ≡ old.graph
  pub done : P old.graph.now old.entries.now old.queue.now.marks old.queue.now.count new.entries.now new.queue.now.marks new.queue.now.count
