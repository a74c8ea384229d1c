-- What asking actions about the states before a state leaves behind. Assumes nothing.
use Rattle.std.specs.Prelude.{◌≡◌, ℕ, ◌+◌, ◌-◌, ◌*◌, ◌/◌, ◌%◌, ◌^◌, ◌<◌, ◌≤◌, Bool, true, false, ◌&&◌, List, length, drop, ◌≢◌, bit_and, nat_lt, slice_index}
use Rattle.planning.specs.Table.{infinite_entry}
use Rattle.packed_task.specs.Packed.{action_weight}
use Rattle.packed_task.specs.Within.{idles}
use Rattle.tables.specs.Steps.{weigh, Space, bellman_value_at, permitted_at}
use Rattle.tables.specs.Waiting.{Waits, Heard, Leads, Asks, Moved}
use Rattle.tables.specs.Queue.{Queue}
use Rattle.tables.specs.Edges.{edge_back, edge_weight, edge_action, edge_lanes, edge_free, edge_first, edge_end, lane_after, lane_sum, Before}
use Rattle.tables.specs.declared.worklist.edge.Edge.{Edge}

-- Entry i is there and above this value.
unfoldable pub above : List ℕ → ℕ → ℕ → Bool
above t i value = nat_lt i (length t) && nat_lt value (slice_index t i)

-- The index after edge e from state i, whose word is s: the way back, gone forward.
unfoldable pub way_forward : List Edge → List ℕ → ℕ → ℕ → ℕ → ℕ
way_forward es ws e i s =
    (i + 65536 - (lane_sum (edge_lanes es e) s + lane_sum (lane_after (edge_lanes es e)) s + weigh ws (bit_and s (edge_free es e))) % 65536 + 65536 - edge_back es e) % 65536

-- Entries t and c waiting states became `new` and d waiting ones while state j was visited: the queue is in order, what was heard is, and the entry of j
-- is the same.
pub record Going (x : Space) (j : ℕ) (t : List ℕ) (marks : List Bool) (c : ℕ) (new : List ℕ) (marks₁ : List Bool) (d : ℕ) : Type 0 where
  pub moved : Moved x t marks c new marks₁ d
  pub queue : Queue (length new) marks₁ d
  pub stays : slice_index new j ≡ slice_index t j

-- r is the Bellman value of action m in state i; where r is infinite, the action was heard.
pub record BellmanValue (x : Space) (t : List ℕ) (marks : List Bool) (m i r : ℕ) : Type 0 where
  pub finite : r < infinite_entry → r ≡ bellman_value_at x t m i
  pub infinite : infinite_entry ≤ r → Heard x t marks m i

-- The value along edge e, which leads from i to j, is its weight and the entry of j, and entry i is above it.
pub record Lowers (es : List Edge) (t : List ℕ) (e i j value : ℕ) : Type 0 where
  pub near : j < length t
  pub value_is : value ≡ slice_index t j + edge_weight es e
  pub less : value < slice_index t i
  pub small : slice_index t i ≤ infinite_entry

-- The same of an edge that leads from i to j and is the only one of its action.
pub record Only (x : Space) (es : List Edge) (t : List ℕ) (e i value : ℕ) : Type 0 where
  pub after : ℕ
  pub lowers : Lowers es t e i after value
  pub there : way_forward es x.weights e i (slice_index x.states i) ≡ after
  pub alone : edge_end es e ≡ edge_first es e + 1

-- Action m was asked about state i.
pub record Asked (x : Space) (m i : ℕ) (t : List ℕ) (marks : List Bool) (c : ℕ) (new : List ℕ) (marks₁ : List Bool) (d : ℕ) : Type 0 where
  pub going : (j : ℕ) → (j ≢ i) → Going x j t marks c new marks₁ d
  pub heard : permitted_at x m i ≡ true → Heard x new marks₁ m i

-- The same of the action of edge e, where that leads from i to j.
pub record AskedFrom (x : Space) (es : List Edge) (e j i : ℕ) (t : List ℕ) (marks : List Bool) (c : ℕ) (new : List ℕ) (marks₁ : List Bool) (d : ℕ) : Type 0 where
  pub going : Going x j t marks c new marks₁ d
  pub heard : permitted_at x (edge_action es e) i ≡ true → Before x es e i j → Heard x new marks₁ (edge_action es e) i

-- The action of edge e was asked about every state before j whose index is `at` and what the two lanes of its own word add.
pub record Laned (x : Space) (es : List Edge) (e j at : ℕ) (t : List ℕ) (marks : List Bool) (c : ℕ) (new : List ℕ) (marks₁ : List Bool) (d : ℕ) : Type 0 where
  pub going : Going x j t marks c new marks₁ d
  pub heard : (i : ℕ) → i < length new → permitted_at x (edge_action es e) i ≡ true → Leads x (edge_action es e) i j →
      Before x es e i j →
      i ≡ at + lane_sum (edge_lanes es e) (slice_index x.states i) + lane_sum (lane_after (edge_lanes es e)) (slice_index x.states i) → Heard x new marks₁ (edge_action es e) i

-- The same, where the free digits of its word from v on add something too.
pub record Freed (x : Space) (es : List Edge) (e j v free at : ℕ) (t : List ℕ) (marks : List Bool) (c : ℕ) (new : List ℕ) (marks₁ : List Bool) (d : ℕ) : Type 0 where
  pub going : Going x j t marks c new marks₁ d
  pub heard : (i : ℕ) → i < length new → permitted_at x (edge_action es e) i ≡ true → Leads x (edge_action es e) i j →
      Before x es e i j →
      i ≡ at + lane_sum (edge_lanes es e) (slice_index x.states i) + lane_sum (lane_after (edge_lanes es e)) (slice_index x.states i)
      + weigh (drop v x.weights) (bit_and (slice_index x.states i / 16 ^ v) free) → Heard x new marks₁ (edge_action es e) i

-- The action of edge e was asked about every state from which that edge leads to j.
pub record Passed (x : Space) (es : List Edge) (e j : ℕ) (t : List ℕ) (marks : List Bool) (c : ℕ) (new : List ℕ) (marks₁ : List Bool) (d : ℕ) : Type 0 where
  pub going : Going x j t marks c new marks₁ d
  pub heard : (i : ℕ) → i < length new → permitted_at x (edge_action es e) i ≡ true → Leads x (edge_action es e) i j → Before x es e i j → Heard x new marks₁ (edge_action es e) i

-- The edges of row c were gone through, from number `from` of the row on.
pub record RowDone (x : Space) (es : List Edge) (k j c from : ℕ) (t : List ℕ) (marks : List Bool) (a : ℕ) (new : List ℕ) (marks₁ : List Bool) (d : ℕ) : Type 0 where
  pub going : Going x j t marks a new marks₁ d
  pub heard : (q i : ℕ) → from ≤ q → q < 64 → 64 * c + q < k → i < length new → permitted_at x (edge_action es (64 * c + q)) i ≡ true →
      Leads x (edge_action es (64 * c + q)) i j → Before x es (64 * c + q) i j → Heard x new marks₁ (edge_action es (64 * c + q)) i

-- Every action that leads to j was asked.
pub record Visited (x : Space) (j : ℕ) (t : List ℕ) (marks : List Bool) (c : ℕ) (new : List ℕ) (marks₁ : List Bool) (d : ℕ) : Type 0 where
  pub going : Going x j t marks c new marks₁ d
  pub heard : (m i : ℕ) → Asks x m i → i < length new → Leads x m i j → Heard x new marks₁ m i

-- Every state whose entry is 0 waits.
pub record GoalsWait (t : List ℕ) (marks₁ : List Bool) (d : ℕ) : Type 0 where
  pub queue : Queue (length t) marks₁ d
  pub zeros : (j : ℕ) → j < length t → slice_index t j ≡ 0 → Waits marks₁ j

-- Every action that is asked weighs at least w.
abbrev pub Weighing : Space → ℕ → Type 0
Weighing x w = (m : ℕ) → m < x.actions → idles x.task x.mask m ≡ false → w ≤ action_weight x.task m

-- No entry is more than w above that of a state that waits, and none above the infinite one.
pub record Level (t : List ℕ) (marks : List Bool) (w : ℕ) : Type 0 where
  pub near : (i j : ℕ) → i < length t → Waits marks j → j < length t → slice_index t i ≤ slice_index t j + w
  pub small : (i : ℕ) → i < length t → slice_index t i ≤ infinite_entry
