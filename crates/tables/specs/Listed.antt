-- The abstract states of a pattern as they are listed before a worklist goes through them, and the room that it needs. Assumes nothing.
use Rattle.std.specs.Prelude.{◌≡◌, ℕ, ◌-◌, ◌<◌, ◌≤◌, List, ◌++◌, length, take, replicate, slice_index}
use Rattle.planning.specs.Table.{state_at}
use Rattle.packed_task.specs.Packed.{pack_by, low}
use Rattle.tables.specs.Steps.{weights_from, Space, space}
use Rattle.tables.specs.Edges.{outcomes_from}
use Rattle.tables.specs.Incoming.{Split, SetsRoom}
use Rattle.tables.specs.Patterned.{Patterned, states_of}
use Rattle.tables.specs.declared.worklist.edge.Edge.{Edge}

-- The weights of the variables, and the word of each state at its index.
abbrev pub WeightsOf : Patterned → List ℕ → Type 0
WeightsOf p weights = weights ≡ weights_from 1 (take p.variables p.sizes) p.picked ++ replicate (16 - p.variables) 0

abbrev pub WordsOf : Patterned → List ℕ → Type 0
WordsOf p words = (i : ℕ) → i < states_of p → slice_index words i ≡ pack_by low (state_at (take p.variables p.sizes) p.picked i)

pub record Listed (p : Patterned) (weights words : List ℕ) : Type 0 where
  pub weights_are : WeightsOf p weights
  pub words_are : WordsOf p words
  pub long : states_of p ≤ length words

-- What a build works on.
abbrev pub space_in : Patterned → List ℕ → List ℕ → Space
space_in p weights words = space p.task p.mask weights words p.actions

-- How many edges there are at most.
abbrev pub edges_most : Patterned → ℕ
edges_most p = outcomes_from p.task p.mask 0 p.actions

-- How the index is split.
abbrev pub SplitAt : Patterned → ℕ → ℕ → Type 0
SplitAt p lower low = Split p.sizes p.picked p.variables p.mask lower low

-- Arrays with room for the edges, and for their sets.
pub record Roomy (p : Patterned) (edges : List Edge) (sets : List ℕ) : Type 0 where
  pub few : edges_most p ≤ 512
  pub edges_room : edges_most p ≤ length edges
  pub sets_room : SetsRoom (states_of p) (edges_most p) (length sets)

-- Room for so many states, so many edges, and so many words of their sets is enough.
pub record RoomFor (p : Patterned) (states edges sets : ℕ) : Type 0 where
  pub states_room : states_of p ≤ states
  pub states_some : 1 ≤ states
  pub states_few : states ≤ 4096
  pub edges_room : edges_most p ≤ edges
  pub edges_few : edges ≤ 512
  pub sets_room : SetsRoom (states_of p) edges sets
  pub sets_few : sets ≤ 7072
