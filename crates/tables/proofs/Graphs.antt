-- What a graph of so many states gives where the table has as many entries. Assumes nothing.
use Rattle.std.proofs.Common.{◌≡◌, ℕ, ◌≤◌, arith}
use Rattle.tables.specs.Edges.{EdgesOf}
use Rattle.tables.specs.Graph.{Graphed, Walked}

module _ {g : Graphed} {n : ℕ} (w : Walked g) (e : g.number ≡ n) where
  pub edges_here : EdgesOf g.space g.sizes n g.edges g.edge_number
  edges_here = rw e at w.edges_of

  pub few_here : n ≤ 4096
  few_here = omega (arith, w.few, e)
