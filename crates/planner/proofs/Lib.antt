-- The laws that join calls of several crates.

-- The plan check at the start of a sound record.
pub mod StartChecked
-- For C: number 0 and kind 0 mean that a plan was found.
pub mod SearchNumbers
-- What the search finds, the plan check passes.
pub mod FoundPasses
-- The starred examples of the plan check hold, by computation.
pub mod Samples
