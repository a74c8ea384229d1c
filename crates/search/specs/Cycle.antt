-- The premises and the conclusion of the two functions that examine, written once. Assumes nothing.
use Rattle.std.specs.Prelude.{◌≡◌, ℕ, ◌-◌, ◌<◌, ◌≤◌, List, Option, Some, None}
use Rattle.planning.specs.Plan.{Plan}
use Rattle.planning.specs.Search.{Result}
use Rattle.search.specs.Examination.{plan_size, plan_head, visit_count, size_by, ending_of}
use Rattle.search.specs.Memory.{Remembers}
use Rattle.search.specs.Packed.{instance_examination, instance_opening, instance_value}
use Rattle.search.specs.Value.{Estimated}
use Rattle.search.specs.declared.examine.Opening.{Opening}
use Rattle.search.specs.declared.examine.Ending.{Ending}
use Rattle.search.specs.declared.instance.Instance.{Instance}
use Rattle.search.specs.declared.memory.Slot.{Slot}

-- What an examination asks, of state s with its value, depth d and count c.
pub record Examinable (i : Instance) (memory : List Slot) (s value d c : ℕ) : Type 0 where
  -- What the memory says is so.
  pub remembers : Remembers (instance_examination i) i.constants.budget memory
  -- The count has not passed the budget.
  pub within : c ≤ i.constants.budget
  -- The depth fits a byte of a slot.
  pub shallow : d < 256
  -- The number carried along stands for the value of s.
  pub valued : Estimated (instance_value i s) value

-- What it asks where the leaf decided nothing: the state opens besides, so that its actions are to be tried.
pub record Openable (i : Instance) (memory : List Slot) (s value d c : ℕ) : Type 0 where
  pub examinable : Examinable i memory s value d c
  pub opens : instance_opening i d s c ≡ Opening.Expand

-- What an examination from count c leaves, where x is its result by the definition: over plans, or over the plans of an action's outcomes.
pub record Examines {A : Type 0} (size head : A → ℕ) (r : ℕ → ℕ → ℕ → Result Plan) (budget : ℕ) (x : Result A) (c : ℕ) (memory : List Slot) (a : Ending) : Type 0 where
  -- The answer is the definition's: count, size of the plan and its first byte.
  pub ending : a ≡ ending_of size head x
  -- The count never falls, and stays within the budget.
  pub counted : c ≤ visit_count x
  pub budgeted : visit_count x ≤ budget
  -- A plan has no more bytes than examinations were made.
  pub short : size_by size x ≤ visit_count x - c
  -- The memory is still true.
  pub remembers : Remembers r budget memory

-- The same for what is decided of a state without examining another; else the state opens.
abbrev pub Glanced : Instance → (d s c : ℕ) → List Slot → Option Ending → Type 0
Glanced i d s c memory (Some a) = Examines plan_size plan_head (instance_examination i) i.constants.budget (instance_examination i d s c) c memory a
Glanced i d s c memory None = instance_opening i d s c ≡ Opening.Expand
