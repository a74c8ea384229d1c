-- A plan's bytes as they are written: which plans stand in the buffer already, copying one of them, and what writing a plan asks and leaves.
-- Assumes nothing.
use Rattle.std.specs.Prelude.{◌≡◌, ℕ, ◌+◌, ◌<◌, ◌≤◌, List, Option, Some, None, length, slice_index, ◌≢◌}
use Rattle.planning.specs.Plan.{Plan, encode}
use Rattle.planning.specs.Search.{Result, succeeded}
use Rattle.search.specs.Buffer.{Keeps, Holds}
use Rattle.search.specs.Examination.{plan_size, plan_head}
use Rattle.search.specs.Memory.{Stored, stored, Stores, Remembers}
use Rattle.search.specs.Packed.{instance_examination}
use Rattle.search.specs.declared.instance.Instance.{Instance}
use Rattle.search.specs.declared.written.Passage.{Passage}
use Rattle.search.specs.declared.memory.Slot.{Slot}

-- Slots as those of the memory of results say of a state and a depth how many bytes its plan has (in place of the examinations) and where the
-- first of them stands (in place of the size). They are right about every plan that r finds from the count 0, and speak of bytes before `at`.
pub record Stands (r : ℕ → ℕ → ℕ → Result Plan) (written : List Slot) (plan : List ℕ) (at : ℕ) : Type 0 where
  -- There is a slot at least.
  pub long : 1 ≤ length written
  -- The bytes stand before `at`, where nothing is written over.
  pub before : (w : Stored) → Stores written w → w.size + w.made ≤ at
  pub sized : (w : Stored) → Stores written w → (p : Plan) (k : ℕ) → r w.depth w.state 0 ≡ succeeded p k → plan_size p ≡ w.made
  pub holds : (w : Stored) → Stores written w → (p : Plan) (k : ℕ) → r w.depth w.state 0 ≡ succeeded p k → Holds (encode p) w.size plan

-- n bytes from `from` on stand from `to` on too; those before `to` are as they were.
pub record Copied (from to n : ℕ) (old new : List ℕ) : Type 0 where
  pub keeps : Keeps to old new
  pub copies : (i : ℕ) → i < n → slice_index new (to + i) ≡ slice_index old (from + i)

-- The action that a plan's first byte names; a goal's plan has 254 there.
abbrev pub Names : ℕ → Option ℕ → Type 0
Names b (Some m) = (m ≡ b) × (b ≢ 254)
Names b None = b ≡ 254

-- What is found of a state and a depth, some slot says.
abbrev pub Finds : List Slot → (s d : ℕ) → Option Passage → Type 0
Finds written s d (Some p) = (b : ℕ) × Stores written (stored s d p.size p.from b)
Finds written s d None = Unit {0}

-- What is known of a state whose plan is to be written: with depth d it succeeds from the count 0, from which all that the writer examines is examined.
pub record Succeeding (i : Instance) (memory : List Slot) (s d : ℕ) : Type 0 where
  -- What the memory says is so.
  pub remembers : Remembers (instance_examination i) i.constants.budget memory
  -- The depth fits a byte of a slot.
  pub shallow : d < 256
  -- It succeeds, with this plan.
  pub found : Plan
  pub made : ℕ
  pub is : instance_examination i d s 0 ≡ succeeded found made

-- How its plan begins: with byte b, of n bytes; and it is found within the budget. The memory is still true.
pub record Starts (r : ℕ → ℕ → ℕ → Result Plan) (budget d s : ℕ) (memory : List Slot) (n b : ℕ) : Type 0 where
  pub begins : (p : Plan) (k : ℕ) → r d s 0 ≡ succeeded p k → (plan_size p ≡ n) × (plan_head p ≡ b) × (k ≤ budget)
  pub remembers : Remembers r budget memory

-- What writing the plan of state s with depth d at `at` asks.
pub record Writable (i : Instance) (memory written : List Slot) (plan : List ℕ) (s d at : ℕ) : Type 0 where
  pub succeeding : Succeeding i memory s d
  -- The plan fits the buffer, and its places fit a slot.
  pub fits : at + plan_size succeeding.found ≤ length plan
  pub near : at + plan_size succeeding.found ≤ 1000000
  -- What was written before is known rightly.
  pub stands : Stands (instance_examination i) written plan at

-- What writing plan p at `at` leaves: its bytes from there on, and the place after them.
pub record Written (r : ℕ → ℕ → ℕ → Result Plan) (budget : ℕ) (p : Plan) (at : ℕ) (memory written : List Slot) (old new : List ℕ) (end : ℕ) : Type 0 where
  pub after : end ≡ at + plan_size p
  -- The bytes before are as they were.
  pub keeps : Keeps at old new
  pub holds : Holds (encode p) at new
  -- The memory is still true, and so is what is known of plans that stand in the buffer.
  pub remembers : Remembers r budget memory
  pub stands : Stands r written new end

-- The same of the plan that state s succeeds with, with depth d.
abbrev pub Writes : Instance → (d s at : ℕ) (memory written : List Slot) (old new : List ℕ) (end : ℕ) → Type 0
Writes i d s at memory written old new end = (p : Plan) (k : ℕ) → instance_examination i d s 0 ≡ succeeded p k →
    Written (instance_examination i) i.constants.budget p at memory written old new end
