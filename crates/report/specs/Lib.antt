-- The definitions that the contracts cite, in reading order.

-- A number in decimal, as it is printed.
pub mod Decimal
-- The lines that are printed.
pub mod Lines
-- What a run prints for a text.
pub mod Report
-- What program `records` writes for a stored record.
pub mod Records
-- The sample tower and its examples, each text beside the lines that it prints.
pub mod Samples
-- A buffer that bytes are written to, past its end too.
pub mod Writing
