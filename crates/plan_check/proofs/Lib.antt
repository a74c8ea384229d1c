-- The laws about the definitions of specs/.

-- What the code reads from sixteen cells is what the task says of the values.
pub mod Tower
-- Where a test at a byte refuses, planning's check refuses; elsewhere it goes on.
pub mod Refusals
-- What the frames of the stack await is what planning's check has pending.
pub mod Waiting
-- The loop over a plan's bytes: what holds between two bytes, and what each step does.
pub mod Reading
-- To allow more moves changes only the answer that a move is too deep.
pub mod Deeper
-- The refusals of planning's check have the numbers 12 to 17.
pub mod Numbered
-- The check passes exactly the strong plans of at most 255 moves depth, with their cost and length.
pub mod Exact
-- For C: the number is 0 exactly where the plan passed.
pub mod ZeroNumber
