-- The laws about the definitions of specs/. First the build of one table, then all tables of a record, and of a text.

-- Sets that are gathered one number at a time.
pub mod Gathering
-- Entries that came by steps, none above an action's Bellman value, are the table.
pub mod Settled
-- The loops over digits, outcomes and entries from which a step is made.
pub mod Stepping
-- The weights of a pattern's variables, and the words of its abstract states.
pub mod Spacing
-- Words digit by digit.
pub mod Bitwise
-- An outcome backwards, digit by digit.
pub mod Digits
-- The digits of packed lists.
pub mod PackedDigits
-- What the worklist keeps, from its start to its end.
pub mod Law
-- Changes of entries, marks and queue, one after the other.
pub mod Visiting
-- The Bellman value of an action along its edges, and asking the action about one state.
pub mod Asking
-- Going back along an edge, over the values of its free digits.
pub mod Walks
-- What a graph gives where the table has as many entries.
pub mod Graphs
-- The waiting states: one put in, one taken out, none left.
pub mod Queue
-- The start, at which every goal waits, and the loop that takes one state after the other.
pub mod Starting
-- The goals entered by the digits that the goal leaves free.
pub mod Entering
-- The words of goals are those with such digits.
pub mod GoalWords
-- The effective actions: their outcomes, counted.
pub mod Counting
-- An edge leads back to every state before a state.
pub mod WaysBack
-- The edges that were filled in are those of the pattern.
pub mod Making
-- Sets of edges by the digits of a part of the index, and how they are filled.
pub mod Rowing
-- The index in two parts.
pub mod Parting
-- The edges into a state are gone through one by one, and none is missed.
pub mod Rounds
-- Steps of a worklist, one after the other.
pub mod Goes
-- The parts of a build together give the table.
pub mod Building
-- What the edges ask of a pattern holds of one of a sound record.
pub mod Standing
-- Tables built one after the other in one slice.
pub mod TableChain
-- What a build rests on holds of every pattern of a sound record.
pub mod Ready
-- The entries that a build leaves are the costs; the value call on them.
pub mod BuiltTables
-- Counting the entries of one pattern among built tables.
pub mod Spreading
-- What the counts of a spread say.
pub mod SpreadCounts
-- The tables of a tower that comes as a text.
pub mod FromText
-- The starred examples of the tables hold of the calls.
pub mod Sample
