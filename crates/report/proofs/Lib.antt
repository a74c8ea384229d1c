-- Laws about the definitions of specs/, which the proofs of the functions cite.

-- The digits of a number, one by one.
pub mod Decimals
-- Numbers parted by commas.
pub mod Commas
-- Bytes that are written one after the other.
pub mod Stored
-- A printed number reads back as the same number.
pub mod ReadBack
-- A found plan has at most as many bytes as states were examined.
pub mod PlanLengths
-- The value that is printed is the summed estimate.
pub mod StartValues
-- The lines of each answer of the search, and of a text that is refused or read.
pub mod Reports
-- The examples from the text to the printed bytes, by computation.
pub mod Sample
-- What reading into a buffer leaves there.
pub mod Reading
-- What program `records` writes for a stored record.
pub mod UpgradedRecords
