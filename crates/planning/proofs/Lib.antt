-- The laws about the definitions of specs/. First what holds of any system, then tasks, patterns and tables, then the two together.

-- Tests (Booleans) as facts.
pub mod Test
-- Finite lists and runs of numbers.
pub mod Finite
-- Sets as words: two of them met or joined, and how large one is.
pub mod Sets
-- Numbers with infinity.
pub mod Extended
-- A sum of components under one action.
pub mod Sum
-- The cost of a state and the test `solvable`, to which rounds, limits, fixed points and plans are tied.
pub mod System
-- The canonical plan within a depth: at each state the lowest action that leads to a plan.
pub mod Canonical
-- The cost of a state is the least cost of a strong plan from it.
pub mod Plan
-- How large a finite cost can be, so how many rounds of Definition 2.9 are enough.
pub mod Bound
-- What the costs of a system say about one that projects on it.
pub mod Projection
-- What an examination and a search mean, for any admissible estimate.
pub mod Search
-- The fuel of an examination does not matter.
pub mod Fuel
-- A run with a smaller budget is the run with a larger one, cut off.
pub mod Budget
-- An examination begun at another count ends alike, its count moved by as much.
pub mod Shift
-- The count of every answer is the number of examinations that the search makes.
pub mod Examinations
-- The same system over other states makes the same examinations.
pub mod Simulation
-- Reading a plan's bytes undoes writing them, and writing undoes reading.
pub mod PlanBytes
-- What each byte does in the plan check, and which plans pass.
pub mod PlanCheck
-- A well-formed task is a system as the laws ask.
pub mod Task
-- A task projects on its abstraction by a pattern.
pub mod Pattern
-- The verdict is yes exactly for additive patterns, else the lowest conflict.
pub mod Verdict
-- The verdict is yes exactly where the assignments that remain keep the owner rule.
pub mod Owners
-- The table of a pattern holds the costs of its abstract states.
pub mod Table
-- A count of a spread is the number of states that have the cost.
pub mod Spread
-- Lowering the entries of a table in place, in any order.
pub mod Build
-- Consistent estimates are admissible; the sum of additive patterns is consistent.
pub mod Estimate
-- Demand 3 over the definitions: what the answers of a task's search mean.
pub mod Answer
-- The starred examples hold, by computation.
pub mod Sample
