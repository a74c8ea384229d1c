-- The edges of a pattern: for an outcome of an action what a state after it has, and how the index of a state before it comes from that of
-- the state after it. Two lanes of 32 bits stand in one word, a free digit each: its weight (16 bits), its position in a word (8 bits), how many
-- values it has (8 bits). A digit is free if the outcome sets it and the precondition does not ask for it. Assumes nothing.
use Rattle.std.specs.Prelude.{◌≡◌, ℕ, zero, suc, ◌+◌, ◌-◌, ◌*◌, ◌/◌, ◌%◌, ◌^◌, ◌<◌, ◌≤◌, true, false, cond, ◌⊎◌, List, ◌++◌, length, take, replicate, ◌==◌, ◌≢◌, bit_and, bit_or, slice_index, slice_index_or}
use Rattle.planning.specs.Table.{state_count, state_at}
use Rattle.packed_task.specs.Packed.{pack_by, low, pre_mask, pre_value, outcome_count, action_weight, keep_mask, set_value, goal_mask, goal_value}
use Rattle.tables.specs.Steps.{weigh, weights_from, Space, space, permitted_at}
use Rattle.packed_task.specs.Within.{after, idles}
use Rattle.tables.specs.Waiting.{index_after}
use Rattle.tables.specs.declared.worklist.edge.Edge.{Edge}

-- No edge, and edge e.
abbrev pub no_edge : Edge
no_edge = record { mask = 0; value = 0; lanes = 0; free = 0; back = 0; weight = 0; first = 0; action = 0; many = 0 }

abbrev pub edge_at : List Edge → ℕ → Edge
edge_at es e = slice_index_or es e no_edge

-- The test of a state after edge e.
abbrev pub edge_mask : List Edge → ℕ → ℕ
edge_mask es e = (edge_at es e).mask

abbrev pub edge_value : List Edge → ℕ → ℕ
edge_value es e = (edge_at es e).value

-- The way back.
abbrev pub edge_back : List Edge → ℕ → ℕ
edge_back es e = (edge_at es e).back

abbrev pub edge_weight : List Edge → ℕ → ℕ
edge_weight es e = (edge_at es e).weight

abbrev pub edge_action : List Edge → ℕ → ℕ
edge_action es e = (edge_at es e).action

abbrev pub edge_lanes : List Edge → ℕ → ℕ
edge_lanes es e = (edge_at es e).lanes

abbrev pub edge_free : List Edge → ℕ → ℕ
edge_free es e = (edge_at es e).free

abbrev pub edge_first : List Edge → ℕ → ℕ
edge_first es e = (edge_at es e).first

abbrev pub edge_end : List Edge → ℕ → ℕ
edge_end es e = (edge_at es e).first + (edge_at es e).many

-- A lane: weight, values, and the digit of a word that it stands for.
abbrev pub lane_weight : ℕ → ℕ
lane_weight lane = lane % 65536

abbrev pub lane_values : ℕ → ℕ
lane_values lane = lane / 16777216 % 256

unfoldable pub lane_digit : ℕ → ℕ → ℕ
lane_digit lane s = s / 2 ^ (lane / 65536 % 64) % 16

-- The value of a lane's digit in a word; a lane without weight has only 0.
unfoldable pub lane_value : ℕ → ℕ → ℕ
lane_value lane s = cond (lane_weight lane == 0) 0 (lane_digit lane s)

-- What a lane adds to the index of a word; the second lane of two.
unfoldable pub lane_sum : ℕ → ℕ → ℕ
lane_sum lane s = lane_digit lane s * lane_weight lane

abbrev pub lane_after : ℕ → ℕ
lane_after lanes = lanes / 4294967296

-- Where the way back of edge e begins, from state j on: the index of a state before it whose free digits are all 0.
unfoldable pub way_back : List Edge → ℕ → ℕ → ℕ
way_back es e j = (j + edge_back es e) % 65536

-- Edge e leaves no digit free.
pub record Plain (es : List Edge) (e : ℕ) : Type 0 where
  pub one : lane_weight (edge_lanes es e) ≡ 0
  pub two : lane_weight (lane_after (edge_lanes es e)) ≡ 0
  pub free : edge_free es e ≡ 0

-- Edge e leaves no digit free but that of its first lane.
pub record Single (es : List Edge) (e : ℕ) : Type 0 where
  pub two : lane_weight (lane_after (edge_lanes es e)) ≡ 0
  pub free : edge_free es e ≡ 0

-- Edge e leads from state i to state j: j passes the test, and i comes from j by the way back and the free digits of i.
pub record Before (x : Space) (es : List Edge) (e i j : ℕ) : Type 0 where
  pub near : j < 65536
  pub passes : bit_and (slice_index x.states j) (edge_mask es e) ≡ edge_value es e
  pub sum : i ≡ way_back es e j + lane_sum (edge_lanes es e) (slice_index x.states i) + lane_sum (lane_after (edge_lanes es e)) (slice_index x.states i)
      + weigh x.weights (bit_and (slice_index x.states i) (edge_free es e))
  pub first : lane_value (edge_lanes es e) (slice_index x.states i) < lane_values (edge_lanes es e)
  pub second : lane_value (lane_after (edge_lanes es e)) (slice_index x.states i) < lane_values (lane_after (edge_lanes es e))

-- The digits of a word from v on that are free: where one is not 0 the states have values below the size.
pub record Choices (states sizes : List ℕ) (n v free : ℕ) : Type 0 where
  pub bound : (u i : ℕ) → i < n → (free / 16 ^ u % 16 ≢ 0) → slice_index states i / 16 ^ (v + u) % 16 < slice_index sizes (v + u)

-- Edge e stands for outcome o of action m.
pub record StandsFor (x : Space) (n : ℕ) (es : List Edge) (e m o : ℕ) : Type 0 where
  pub action : edge_action es e ≡ m
  pub back : (i : ℕ) → i < n → permitted_at x m i ≡ true → Before x es e i (index_after x m i o)

-- Edge f is one of the edges of the action of edge e.
pub record Beside (es : List Edge) (e f : ℕ) : Type 0 where
  pub after : edge_first es e ≤ f
  pub before : f < edge_end es e

-- The first k edges: each stands for an outcome of its action and knows all edges of that, of which it is one; every outcome of every
-- action that leaves no state as it is has one among them.
pub record EdgesOf (x : Space) (sizes : List ℕ) (n : ℕ) (es : List Edge) (k : ℕ) : Type 0 where
  pub few : k ≤ 512
  pub room : k ≤ length es
  pub known : (e : ℕ) → e < k → edge_action es e < x.actions
  pub back : (e : ℕ) → e < k → edge_back es e < 65536
  pub weight : (e : ℕ) → e < k → edge_weight es e ≡ action_weight x.task (edge_action es e)
  pub free : (e : ℕ) → e < k → Choices x.states sizes n 0 (edge_free es e)
  pub span : (e : ℕ) → e < k → edge_end es e ≤ k
  pub own : (e : ℕ) → e < k → Beside es e e
  pub each : (e f : ℕ) → e < k → Beside es e f → (o : ℕ) × (o < outcome_count x.task (edge_action es e)) × StandsFor x n es f (edge_action es e) o
  pub all : (e o : ℕ) → e < k → o < outcome_count x.task (edge_action es e) → (f : ℕ) × Beside es e f × StandsFor x n es f (edge_action es e) o
  pub covers : (m o : ℕ) → m < x.actions → idles x.task x.mask m ≡ false → o < outcome_count x.task m → (e : ℕ) × (e < k) × StandsFor x n es e m o

-- How many outcomes the actions m, m + 1, .., n of them, have that leave no state as it is.
unfoldable pub outcomes_from : List ℕ → ℕ → ℕ → ℕ → ℕ
outcomes_from a k m zero = 0
outcomes_from a k m (suc n) = cond (idles a k m) 0 (outcome_count a m) + outcomes_from a k (suc m) n

-- An outcome within mask k that keeps `keeps` and sets `sets`, of an action whose precondition is `need` and `value`: the digits that it
-- names; those of them that the precondition leaves free; and the test of a state after it.
unfoldable pub named : ℕ → ℕ → ℕ
named k keeps = k - bit_and keeps k

unfoldable pub freed : ℕ → ℕ → ℕ → ℕ
freed k keeps need = named k keeps - bit_and need (named k keeps)

unfoldable pub test_mask : ℕ → ℕ → ℕ → ℕ
test_mask k keeps need = bit_or (named k keeps) (bit_and need (bit_and keeps k))

unfoldable pub test_value : ℕ → ℕ → ℕ → ℕ → ℕ
test_value k keeps value sets = bit_or (bit_and sets k) (bit_and value (bit_and keeps k))

-- Words as a compiled task has them, digit by digit: a mask's are 0 or 15; a precondition names a digit or not; an outcome keeps a digit or
-- sets it.
abbrev pub digit : ℕ → ℕ → ℕ
digit x u = x / 16 ^ u % 16

abbrev pub PlainMask : ℕ → Type 0
PlainMask k = (u : ℕ) → (digit k u ≡ 0) ⊎ (digit k u ≡ 15)

abbrev pub PlainNeed : ℕ → ℕ → Type 0
PlainNeed need value = (u : ℕ) → ((digit need u ≡ 0) × (digit value u ≡ 0)) ⊎ (digit need u ≡ 15)

abbrev pub PlainOut : ℕ → ℕ → Type 0
PlainOut keeps sets = (u : ℕ) → ((digit keeps u ≡ 15) × (digit sets u ≡ 0)) ⊎ (digit keeps u ≡ 0)

-- The space is one of a compiled task that is well formed, with n states: the words are plain, each state stands at its index and has 0
-- outside the mask and values below the sizes, and so does the state after an outcome; and each word that is so is a state's.
pub record Regular (x : Space) (sizes : List ℕ) (n : ℕ) : Type 0 where
  pub states_few : n ≤ 4096
  pub room : x.mask < 16 ^ 16
  pub mask_plain : PlainMask x.mask
  pub need_plain : (m : ℕ) → m < x.actions → PlainNeed (pre_mask x.task m) (pre_value x.task m)
  pub out_plain : (m o : ℕ) → m < x.actions → o < outcome_count x.task m → PlainOut (keep_mask x.task m o) (set_value x.task m o)
  pub index_is : (i : ℕ) → i < n → weigh x.weights (slice_index x.states i) ≡ i
  pub inside : (i u : ℕ) → i < n → digit x.mask u ≡ 0 → digit (slice_index x.states i) u ≡ 0
  pub below : (i u : ℕ) → i < n → digit x.mask u ≡ 15 → digit (slice_index x.states i) u < slice_index sizes u
  pub closed : (m o i : ℕ) → m < x.actions → o < outcome_count x.task m → i < n → permitted_at x m i ≡ true →
      (index_after x m i o < n) × (slice_index x.states (index_after x m i o) ≡ after x.task x.mask m o (slice_index x.states i))
  pub goal_plain : PlainNeed (goal_mask x.task) (goal_value x.task)
  pub goal_below : (u : ℕ) → digit x.mask u ≡ 15 → digit (goal_mask x.task) u ≡ 15 → digit (goal_value x.task) u < slice_index sizes u
  pub there : (s : ℕ) → ((u : ℕ) → digit x.mask u ≡ 0 → digit s u ≡ 0) → ((u : ℕ) → digit x.mask u ≡ 15 → digit s u < slice_index sizes u) →
      (weigh x.weights s < n) × (slice_index x.states (weigh x.weights s) ≡ s)

-- The words of the states and the weights of the variables make such a space.
pub record Walkable (task : List ℕ) (mask actions n : ℕ) (sizes p : List ℕ) : Type 0 where
  pub regular : (weights states : List ℕ) → weights ≡ weights_from 1 (take n sizes) p ++ replicate (16 - n) 0 → ((i : ℕ) → i < state_count (take n sizes) p → slice_index states i ≡ pack_by low (state_at (take n sizes) p i)) →
      Regular (space task mask weights states actions) sizes (state_count (take n sizes) p)
