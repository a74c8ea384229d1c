-- A memory of results, of any length: a slot says of a state and a depth that examining it fails, or succeeds, after how many
-- examinations, and of a success how long the plan is and its first byte. What is stored is true at every count. Assumes nothing.
use Rattle.std.specs.Prelude.{◌≡◌, ℕ, ◌+◌, ◌*◌, ◌/◌, ◌%◌, ◌<◌, ◌≤◌, ◌⊎◌, List, Option, Some, None, length, slice_index_or}
use Rattle.planning.specs.Plan.{Plan}
use Rattle.planning.specs.Search.{Result, succeeded, failed}
use Rattle.search.specs.Examination.{plan_size, plan_head}
use Rattle.search.specs.declared.memory.Recalled.{Recalled}
use Rattle.search.specs.declared.memory.Slot.{Slot}

-- What a slot stores: the state, the depth, the number of examinations, the plan's size (0: it fails) and its first byte.
pub record Stored : Type 0 where
  pub state : ℕ
  pub depth : ℕ
  pub made : ℕ
  pub size : ℕ
  pub first : ℕ

abbrev pub stored : ℕ → ℕ → ℕ → ℕ → ℕ → Stored
stored s d k n b = record { state = s; depth = d; made = k; size = n; first = b }

-- A slot that holds nothing.
abbrev pub empty : Slot
empty = record { state = 0; word = 0 }

unfoldable pub stored_by : Slot → Stored
stored_by s = stored s.state (s.word % 256) (s.word / 256 % 1048576) (s.word / 268435456 % 1048576) (s.word / 281474976710656 % 256)

-- The second word of a slot.
unfoldable pub result_word : ℕ → ℕ → ℕ → ℕ → ℕ
result_word d k n b = d + 256 * k + 268435456 * n + 281474976710656 * b

-- Some slot stores w; one with no examinations stores nothing.
pub record Stores (memory : List Slot) (w : Stored) : Type 0 where
  pub slot : ℕ
  pub inside : slot < length memory
  pub stores : stored_by (slice_index_or memory slot empty) ≡ w
  pub some : 1 ≤ w.made

-- What is recalled of a state and a depth, some slot stores, and it takes at most `room` examinations.
abbrev pub Recalls : List Slot → (s d room : ℕ) → Option Recalled → Type 0
Recalls memory s d room (Some w) = Stores memory (stored s d w.made w.size w.first) × (w.made ≤ room)
Recalls memory s d room None = Unit {0}

-- Examinations by r succeed as w says, from whatever count the budget lets them be made.
pub record Wins (r : ℕ → ℕ → ℕ → Result Plan) (budget : ℕ) (w : Stored) : Type 0 where
  pub plan : Plan
  pub succeeds : (c : ℕ) → c + w.made ≤ budget → r w.depth w.state c ≡ succeeded plan (c + w.made)
  pub sized : plan_size plan ≡ w.size
  pub headed : plan_head plan ≡ w.first
  pub short : w.size ≤ w.made

-- What w says is so.
pub record Correct (r : ℕ → ℕ → ℕ → Result Plan) (budget : ℕ) (w : Stored) : Type 0 where
  pub fails : w.size ≡ 0 → (c : ℕ) → c + w.made ≤ budget → r w.depth w.state c ≡ failed (c + w.made)
  pub wins : 1 ≤ w.size → Wins r budget w

-- The memory has a slot at least, and all that it stores is so.
pub record Remembers (r : ℕ → ℕ → ℕ → Result Plan) (budget : ℕ) (memory : List Slot) : Type 0 where
  pub long : 1 ≤ length memory
  pub correct : (w : Stored) → Stores memory w → Correct r budget w

-- Nothing but w is stored besides.
pub record Noted (old new : List Slot) (w : Stored) : Type 0 where
  pub long : length new ≡ length old
  pub besides : (v : Stored) → Stores new v → Stores old v ⊎ (v ≡ w)
