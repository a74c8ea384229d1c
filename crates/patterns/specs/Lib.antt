-- What the contracts of this crate cite, in reading order.

-- Which tables can hold the tables of patterns: refusals 7 and 8.
pub mod Space
-- What the additivity call answers.
pub mod Additivity
-- When values can be read from lent tables: refusals 5 to 9.
pub mod Estimate
-- What the value call answers.
pub mod Value
-- Each answer as the document's numbers, by case and by the lines of "Where a call can say no".
pub mod Answers
-- Sets of patterns as words: a set of at most one, and the patterns of a variable.
pub mod Sets
