-- The definitions that the contracts cite, in reading order.

-- The system that a record stands for, and its states.
pub mod Tower
-- The tests at a byte of a plan, of any system.
pub mod Refusal
-- The stack of actions under way, as the states that planning's check has pending.
pub mod Stack
-- What the check of a plan answers, on the bytes of record, state and plan.
pub mod Check
-- A strong plan of at most 255 moves depth, as bytes.
pub mod StrongPlan
-- The answer as the numbers that C gets, by case and by the lines of "Where a call can say no".
pub mod ForC
