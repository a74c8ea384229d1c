-- The definitions that the contracts cite: first the answers in numbers, then how the table of one pattern is built, last all tables of a record.

-- The answers of build, preparation and spread as the document's numbers.
pub mod Answers
-- Steps that lower the entries of a table, and when they are over.
pub mod Steps
-- What a worklist keeps (`Kept`): an action was heard, or an outcome of it waits.
pub mod Waiting
-- The waiting states: a mark for each, and their number.
pub mod Queue
-- The edges of a pattern, along which an outcome is gone back.
pub mod Edges
-- Which edges lead into a state, by two parts of its index.
pub mod Incoming
-- What making the edges of a pattern leaves.
pub mod Made
-- What asking actions about the states before a state leaves.
pub mod Visits
-- The goals of a pattern, found by the digits that the goal leaves free.
pub mod Goals
-- The graph of a pattern's abstract states.
pub mod Graph
-- A step of a worklist.
pub mod Worklist
-- What a build ensures: the entries are the pattern's table.
pub mod Built
-- A pattern of a compiled task, and what the build of its table rests on.
pub mod Patterned
-- The abstract states of a pattern as they are listed, and the room that a build needs.
pub mod Listed
-- What the build of a record's tables and the preparation of a search answer and leave.
pub mod RecordTables
-- What the spread of a pattern's table answers and leaves.
pub mod Spread
-- The sample tower as a text, and its tables.
pub mod Sample
