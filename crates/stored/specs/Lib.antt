-- The definitions that the contracts cite, in reading order. The first form of a record stands here as it was, under names of its own: what is
-- said of today's record may change, and this does not.

-- Where each cell of a record of the first form stands, and the numbers that it holds.
pub mod FirstLayout
-- The rule of each cell, and what the check of a record of the first form answers.
pub mod FirstRecord
-- The task that a record of the first form holds.
pub mod FirstTask
-- What a record of the first form becomes, and what the call answers and leaves.
pub mod Upgrade
-- The answer of the call as the document's numbers.
pub mod Answers
-- A record that says what one of the first form says.
pub mod Kept
