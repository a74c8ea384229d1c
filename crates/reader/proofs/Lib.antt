-- The laws about the definitions of specs/: first lines and lists, then that what is read is sound, that every sound record has a text, and the fast
-- pass.

-- The first line or piece of a text.
pub mod Split
-- Whether a line begins with a key.
pub mod Keys
-- Digits and their value.
pub mod Decimals
-- Runs of stores, and the blank record that they make.
pub mod Stores
-- The pieces of a list, one by one.
pub mod Items
-- The lines of a text, one after the other.
pub mod Lines
-- A cost that is left out is 1.
pub mod Optional
-- The last line counts alike with or without its line break.
pub mod LastLine
-- What each cell holds after a run of stores.
pub mod StoredCells
-- The sixteen cells that a list's text gives.
pub mod ListCells
-- A record while it is filled, and that a filled one is sound.
pub mod Filling
-- What one line's store does to a record that is filled so far.
pub mod FillingSteps
-- What holds of a record before each line that is due.
pub mod Begun
-- Each line that is taken keeps what holds of the record.
pub mod LinesKept
-- A record that was read is sound.
pub mod ReadSound
-- What a reading leaves says the task and the patterns that the text says.
pub mod TaskLeft
-- A number's digits, written and read back.
pub mod WrittenNumbers
-- Lines and pieces that were joined are parted again.
pub mod WrittenPieces
-- Cells that were written as a list are read back.
pub mod WrittenLists
-- The cells of a sound record can be written as lists.
pub mod WrittenCells
-- A line that was written is taken.
pub mod WrittenLines
-- What a written line stores is what the record has.
pub mod WrittenStores
-- The lines of a record's text stand in the order that is due, and no used cell is left out.
pub mod WrittenOrder
-- Every sound record has a text that reads to it.
pub mod Complete
-- What a call answers and leaves, once it is known what the text says.
pub mod Answers
-- The fast pass: numbers of one, two or three digits.
pub mod QuickNumbers
-- The fast pass: a list, item by item.
pub mod QuickLists
-- The fast pass: good lines, one after the other.
pub mod QuickLines
-- The fast pass: one line more, for each line that can be due.
pub mod QuickOrder
-- The fast pass: the budget, which is the last line.
pub mod QuickBudget
-- The sample tower's text and texts with a fault, by computation.
pub mod Sample
