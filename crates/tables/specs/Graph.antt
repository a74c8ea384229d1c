-- The graph of a pattern's abstract states, and what is known of it before a worklist goes along its edges. Assumes nothing.
use Rattle.std.specs.Prelude.{ℕ, ◌<◌, ◌≤◌, List, length}
use Rattle.tables.specs.Steps.{Space}
use Rattle.packed_task.specs.Packed.{Readable}
use Rattle.tables.specs.Edges.{EdgesOf}
use Rattle.tables.specs.Incoming.{Tests, Incoming}
use Rattle.tables.specs.declared.worklist.edge.Edge.{Edge}

-- What the build works on, with the sizes of the variables and the number of states; the edges, and their number; the
-- sets of the edges that lead into a state, by the lower and the upper part of its index.
pub record Graphed : Type 0 where
  pub space : Space
  pub sizes : List ℕ
  pub number : ℕ
  pub edges : List Edge
  pub edge_number : ℕ
  pub sets : List ℕ
  pub lower : ℕ
  pub upper : ℕ
  pub inverse : ℕ

-- The task can be read, the edges are those of the pattern, and the sets miss none.
pub record Walked (g : Graphed) : Type 0 where
  pub readable : Readable g.space.task g.space.actions
  pub edges_of : EdgesOf g.space g.sizes g.number g.edges g.edge_number
  pub room : g.number ≤ length g.space.states
  pub few : g.number ≤ 4096
  pub weights_few : length g.space.weights ≤ 16
  pub plain : Tests g.edges g.edge_number
  pub incoming : Incoming g.space.states g.edges g.number g.edge_number g.lower g.upper g.sets
  pub lower_few : g.lower ≤ 64
  pub upper_few : g.upper ≤ 1024
  pub inverse_few : g.inverse < 4294967296
