-- The definitions that the contracts cite, in reading order; among them some that are the code's own, and one that no code uses.

-- A quoted text as its bytes.
pub mod Bytes
-- Lines, pieces, keys and decimal numbers.
pub mod Text
-- The three kinds of list: pairs, values and members.
pub mod Lists
-- Which line is due, what it does to the record, and the whole text: refusals 1 to 5.
pub mod Grammar
-- What a line's value does to the record, by what it must be.
pub mod Held
-- The answer as the document's numbers, by case and by the lines of "Where a call can say no".
pub mod Answers
-- The stores that make a blank record; the code's own.
pub mod Stores
-- The text of a record; no code writes it.
pub mod Written
-- What the fast pass tells of the front of a text; the code's own.
pub mod Quick
