-- What making the edges of a pattern leaves behind: the words of an edge, of the edges of one action, and of all. Assumes nothing.
use Rattle.std.specs.Prelude.{◌≡◌, ℕ, ◌+◌, ◌-◌, ◌*◌, ◌%◌, ◌^◌, ◌<◌, ◌≤◌, List, length, bit_and, slice_index, slice_index_or}
use Rattle.packed_task.specs.Packed.{pre_mask, pre_value, outcome_count, action_weight, keep_mask, set_value}
use Rattle.tables.specs.Steps.{weigh}
use Rattle.tables.specs.Edges.{edge_at, edge_first, edge_end, named, freed, test_mask, test_value, digit}
use Rattle.tables.specs.declared.worklist.edge.Edge.{Edge}

-- Digit u of the free ones is the lane.
pub record LaneAt (ws sizes : List ℕ) (free lane rest u : ℕ) : Type 0 where
  pub near : u < 16
  pub free_there : digit free u ≡ 15
  pub light : slice_index_or ws u 0 < 65536
  pub small : slice_index_or sizes u 0 < 256
  pub is : lane ≡ slice_index ws u + 65536 * (4 * u) + 16777216 * slice_index sizes u
  pub others : rest ≡ free - 15 * 16 ^ u

-- One of the free digits is the lane and the others are the rest, or the lane adds nothing.
pub data LaneOf (ws sizes : List ℕ) (free lane rest : ℕ) : Type 0 where
  one : (u : ℕ) → LaneAt ws sizes free lane rest u → LaneOf ws sizes free lane rest
  none : lane ≡ 16777216 → rest ≡ free → LaneOf ws sizes free lane rest

-- Outcomes p and o of action m keep and set the same within mask k.
pub record Same (a : List ℕ) (k m p o : ℕ) : Type 0 where
  pub keeps : bit_and (keep_mask a m p) k ≡ bit_and (keep_mask a m o) k
  pub sets : bit_and (set_value a m p) k ≡ bit_and (set_value a m o) k

-- How the index changes on the way back, modulo 65,536.
unfoldable pub back_of : ℕ → ℕ → ℕ
back_of gain loss = (gain % 65536 + 65536 - loss % 65536) % 65536

-- An edge is that of outcome o of action m.
pub record EdgeFor (a : List ℕ) (k : ℕ) (ws sizes : List ℕ) (m o : ℕ) (w : Edge) : Type 0 where
  pub mask : w.mask ≡ test_mask k (keep_mask a m o) (pre_mask a m)
  pub value : w.value ≡ test_value k (keep_mask a m o) (pre_value a m) (set_value a m o)
  pub back : w.back ≡ back_of (weigh ws (bit_and (pre_value a m) (named k (keep_mask a m o)))) (weigh ws (bit_and (set_value a m o) k))
  pub weight : w.weight ≡ action_weight a m
  pub action : w.action ≡ m
  pub lane₁ : ℕ
  pub lane₂ : ℕ
  pub rest : ℕ
  pub lanes : w.lanes ≡ lane₁ + 4294967296 * lane₂
  pub first : LaneOf ws sizes (freed k (keep_mask a m o) (pre_mask a m)) lane₁ rest
  pub second : LaneOf ws sizes rest lane₂ w.free

-- An edge without the edges of its action.
abbrev pub bare : Edge → Edge
bare w = record w { first = 0; many = 0 }

abbrev pub EdgeIs : List ℕ → ℕ → List ℕ → List ℕ → List Edge → ℕ → ℕ → ℕ → Type 0
EdgeIs a k ws sizes es e m o = EdgeFor a k ws sizes m o (bare (edge_at es e))

-- The first e edges are as they were.
pub record Untouched (es es₁ : List Edge) (e : ℕ) : Type 0 where
  pub long : length es₁ ≡ length es
  pub same : (f : ℕ) → f < e → edge_at es₁ f ≡ edge_at es f

-- Edge f is that of an outcome, one of n of action m, that does the same as outcome o.
pub record Served (a : List ℕ) (k : ℕ) (ws sizes : List ℕ) (es : List Edge) (f m n o : ℕ) : Type 0 where
  pub outcome : ℕ
  pub known : outcome < n
  pub same : Same a k m outcome o
  pub is : EdgeIs a k ws sizes es f m outcome

-- The edges from `first` to `end` are those of the first n outcomes of action m.
pub record Group (a : List ℕ) (k : ℕ) (ws sizes : List ℕ) (es : List Edge) (first end m n : ℕ) : Type 0 where
  pub each : (f : ℕ) → first ≤ f → f < end → (o : ℕ) × (o < n) × EdgeIs a k ws sizes es f m o
  pub all : (o : ℕ) → o < n → (f : ℕ) × (first ≤ f) × (f < end) × Served a k ws sizes es f m n o

-- Edge f knows that the edges of its action are those from `first` to `end`.
pub record SpanIs (es : List Edge) (f first end : ℕ) : Type 0 where
  pub begins : edge_first es f ≡ first
  pub ends : edge_end es f ≡ end

-- The edges from `first` to e know that they end at `end`, and nothing else is changed.
pub record Spanned (es es₁ : List Edge) (first e end : ℕ) : Type 0 where
  pub long : length es₁ ≡ length es
  pub others : (f : ℕ) → bare (edge_at es₁ f) ≡ bare (edge_at es f)
  pub before : (f : ℕ) → f < first → edge_at es₁ f ≡ edge_at es f
  pub span : (f : ℕ) → first ≤ f → f < e → SpanIs es₁ f first end

-- The edges from `first` to `end` are those of action m, no more than it has outcomes, and each knows it.
pub record ActionPut (a : List ℕ) (k : ℕ) (ws sizes : List ℕ) (es es₁ : List Edge) (first m end : ℕ) : Type 0 where
  pub untouched : Untouched es es₁ first
  pub grows : first ≤ end
  pub most : end ≤ first + outcome_count a m
  pub span : (f : ℕ) → first ≤ f → f < end → SpanIs es₁ f first end
  pub group : Group a k ws sizes es₁ first end m (outcome_count a m)
