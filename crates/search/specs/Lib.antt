-- What the contracts of this crate cite, in reading order; at the end what demand 3 says of a found plan.

-- The estimate of a packed state, from weights.
pub mod Value
-- The owner of an action: the one pattern in which it may move a word.
pub mod Owned
-- The constants of a search are a record's numbers, and a budget.
pub mod Constants
-- The weights of each pattern's variables, and where its table begins.
pub mod Weights
-- The index of a state, by the bytes of its word.
pub mod ByteRows
-- What a buffer of bytes holds around a place.
pub mod Buffer
-- How an examination by the code begins and ends, and what it asks of the task.
pub mod Examination
-- A memory of results: what a slot says of a state and a depth.
pub mod Memory
-- The examination of packed states.
pub mod Packed
-- What the two functions that examine ask and give.
pub mod Cycle
-- Which plans stand in the buffer, and what writing one asks and leaves.
pub mod Written
-- A step of writing a plan.
pub mod Writer
-- What the code answers for the rounds, and what it leaves in the plan's buffer.
pub mod Answer
-- What the search of a record answers and leaves; its examinations.
pub mod Entry
-- What demand 3 says of a found plan.
pub mod Optimal
