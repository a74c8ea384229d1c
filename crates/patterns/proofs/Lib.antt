-- The laws about the definitions of specs/: verdict, room and value, and what is answered in numbers.

-- Weights and state counts, variable by variable.
pub mod Weights
-- The scan for a conflict, action by action and pattern by pattern.
pub mod Affected
-- The room that tables need, pattern by pattern.
pub mod Room
-- The sum of entries, pattern by pattern.
pub mod Summing
-- A test over a run of numbers, number by number.
pub mod Runs
-- The scan for a conflict, over the cells of a record.
pub mod Reading
-- The patterns that an action may affect, gathered variable by variable.
pub mod Touched
-- Sets of at most one pattern; where every action has one, the verdict is yes.
pub mod LoneSets
-- Sizes and patterns of a sound record, and a state, as the code reads them.
pub mod Sizes
-- The order of refusals: a test decides, or hands on to the next.
pub mod Refusals
-- The value call on tables as a build leaves them: the summed estimate, never too high.
pub mod Built
-- Sets of patterns, gathered by `|`.
pub mod Gathering
-- What the answers of the additivity call mean for a sound record.
pub mod Verdicts
-- What each call says in numbers, by the lines of "Where a call can say no".
pub mod ByLines
