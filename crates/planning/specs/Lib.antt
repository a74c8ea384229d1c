-- The definitions that everything is stated with, in reading order.

-- Finite lists and runs of numbers.
pub mod Finite
-- Sets of small numbers as words.
pub mod Sets
-- Numbers with infinity.
pub mod Extended
-- Transition systems, Definition 2.9 and its limit: the cost of a state.
pub mod System
-- Plans: trees, when a tree is strong, its cost, depth and bytes.
pub mod Plan
-- Estimates: consistent, admissible.
pub mod Estimate
-- Tasks: variables, states, actions, goal.
pub mod Task
-- Patterns, the abstraction by a pattern, when patterns are additive.
pub mod Pattern
-- Tables of patterns, and the value of a state.
pub mod Table
-- The spread of a table: how many states have each cost.
pub mod Spread
-- The search: examination, rounds, answers.
pub mod Search
-- The list of the examinations that a search makes.
pub mod Examinations
-- The plan check, byte by byte.
pub mod PlanCheck
-- An answer as numbers: the refusal's number, the kind and three values.
pub mod Numbers
-- The sample tower and its starred examples.
pub mod Sample
