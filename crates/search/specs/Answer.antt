-- What the code answers for the rounds of planning, and what it leaves in a plan's buffer of n bytes. Assumes nothing.
use Rattle.std.specs.Prelude.{◌≡◌, ℕ, ◌+◌, ◌-◌, ◌<◌, ◌≤◌, cond, List, Result, Ok, Err, replicate, nat_le}
use Rattle.planning.specs.Plan.{Plan}
use Rattle.planning.specs.Search.{succeeded, found, over, spent, none, plan_buffer, rounds, search}
use Rattle.planning.specs.Search as planning
use Rattle.packed_task.specs.Packed.{packed_system}
use Rattle.search.specs.Examination.{plan_size}
use Rattle.search.specs.Value.{packed_value, Estimated}
use Rattle.search.specs.Packed.{instance_examination, instance_value}
use Rattle.search.specs.Memory.{Remembers}
use Rattle.search.specs.declared.entry.SearchAnswer.{SearchAnswer}
use Rattle.search.specs.declared.entry.SearchAnswer.TheVariants as outcome
use Rattle.search.specs.declared.rounds.TooLong.{TooLong}
use Rattle.search.specs.declared.rounds.Unfinished.{Unfinished}
use Rattle.search.specs.declared.instance.Instance.{Instance}
use Rattle.search.specs.declared.memory.Slot.{Slot}

-- The search of a compiled task from the packed state s with the estimate from weights.
abbrev pub packed_search : (task : List ℕ) (weights : List (List ℕ)) (offsets tables : List ℕ) (actions patterns budget limit s : ℕ) → planning.Answer
packed_search task weights offsets tables actions patterns budget limit s = search (packed_system task actions) (packed_value weights offsets tables patterns) budget limit s

-- The same of an instance, and its rounds from round d on with the count c.
abbrev pub instance_search : Instance → ℕ → planning.Answer
instance_search i s = packed_search i.task.now i.weights.now i.constants.offsets i.tables.now i.constants.actions i.constants.patterns i.constants.budget i.constants.limit s

abbrev pub instance_rounds : Instance → (s d c : ℕ) → planning.Answer
instance_rounds i s d c = rounds (packed_system i.task.now i.constants.actions) (instance_value i) i.constants.budget i.constants.limit s (i.constants.limit + 1 - d) d c

-- What rounds from state s with its value ask, where d is the depth of the first and c the count.
pub record Startable (i : Instance) (s value d c : ℕ) : Type 0 where
  -- The count has not passed the budget.
  pub within : c ≤ i.constants.budget
  -- The depths of all rounds fit a byte of a slot.
  pub shallow : d < 256
  pub limited : i.constants.limit < 256
  -- The number stands for the value of s.
  pub valued : Estimated (instance_value i s) value

-- The same with a memory.
pub record Begun (i : Instance) (memory : List Slot) (s value d c : ℕ) : Type 0 where
  pub startable : Startable i s value d c
  pub remembers : Remembers (instance_examination i) i.constants.budget memory

-- The answer with a buffer of n bytes: a plan that is longer is refused with the count and the bytes that it needs, and the buffer holds 255 alone.
unfoldable pub answer_of : ℕ → planning.Answer → Result SearchAnswer TooLong
answer_of n (found p d c) = cond (nat_le (plan_size p) n) (Ok (outcome.Found d c (plan_size p))) (Err (record { count = c; bytes = plan_size p }))
answer_of n (over c) = Ok (outcome.Over c)
answer_of n (spent d c) = Ok (outcome.Spent d c)
answer_of n (none c) = Ok (outcome.None c)

unfoldable pub buffer_of : ℕ → planning.Answer → List ℕ
buffer_of n (found p d c) = cond (nat_le (plan_size p) n) (plan_buffer n (found p d c)) (replicate n 255)
buffer_of n (over c) = plan_buffer n (over c)
buffer_of n (spent d c) = plan_buffer n (spent d c)
buffer_of n (none c) = plan_buffer n (none c)

-- The answer a is given, and a buffer of n bytes is left as it wants it.
pub record Replied (n : ℕ) (x : planning.Answer) (new : List ℕ) (a : Result SearchAnswer TooLong) : Type 0 where
  pub answer : a ≡ answer_of n x
  pub buffer : new ≡ buffer_of n x

-- What is known of rounds from state s whose answer is x.
module _ (i : Instance) (s : ℕ) (x : planning.Answer) where
  -- Round d has found a plan of n bytes after c examinations.
  pub record FoundBy (d c n : ℕ) : Type 0 where
    pub plan : Plan
    pub is : x ≡ found plan d c
    -- The same plan is found again when it is written, from the count 0.
    pub made : ℕ
    pub again : instance_examination i d s 0 ≡ succeeded plan made
    pub sized : plan_size plan ≡ n
    pub short : n ≤ 1000000
    pub within : d ≤ i.constants.limit

  -- The rounds left, from d on with the count c, are the whole; more than `most` examinations were made.
  pub record Left (most d c : ℕ) : Type 0 where
    pub same : x ≡ instance_rounds i s d c
    pub within : d ≤ i.constants.limit
    pub counted : c ≤ i.constants.budget
    pub many : most < c

  -- How the rounds end, with a buffer of n bytes.
  abbrev pub Replies : ℕ → ℕ → List ℕ → Result (Result SearchAnswer TooLong) Unfinished → Type 0
  Replies most n new (Ok a) = Replied n x new a
  Replies most n new (Err u) = Left most u.round u.count
