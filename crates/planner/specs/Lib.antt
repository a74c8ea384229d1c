-- The examples of the plan check.

-- The starred examples of the plan check, each plan beside its answer.
pub mod Samples
