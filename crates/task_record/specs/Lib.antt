-- The definitions that the contracts cite, in reading order; some are the code's own.

-- Where each cell of a record stands.
pub mod Layout
-- The numbers that a record holds.
pub mod Numbers
-- The first of some numbers that fails a test; the code's own.
pub mod Scan
-- The refusals of all calls: their numbers, and their order.
pub mod Refusals
-- The rule of each cell, and what the check of a record answers.
pub mod Record
-- What the check of a state answers, and which states are good.
pub mod State
-- What it takes to have a record as one that was checked.
pub mod SoundRecord
-- The answers of the two checks as the document's numbers.
pub mod Answers
-- The task that a record holds.
pub mod TaskOf
-- One test for every kind of cell, on sixteen cells at once; the code's own.
pub mod Window
-- What the parts of the record check rest on once the sizes have passed; the code's own.
pub mod Parts
-- What the test by columns finds; the code's own.
pub mod Columns
-- A state as sixteen cells, and a cell of a pattern beside one of an outcome; the code's own.
pub mod Cells
