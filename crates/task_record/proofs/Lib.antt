-- The laws about the definitions of specs/.

-- Tests (Booleans), and a byte that gathers faults.
pub mod Tests
-- Scans: one step, two in a row, numbers that all pass.
pub mod Scanning
-- Lists of cells that a loop fills from the first on.
pub mod Sixteens
-- The rule of the cell at each offset.
pub mod Offsets
-- The window of each kind of cell is the cell's rule.
pub mod Windows
-- What the head and the sizes say where they are right.
pub mod Parts
-- A part whose columns are right is passed whole.
pub mod ColumnLaws
-- What a sound record is: long enough, and every cell inside its rule.
pub mod Soundness
-- What the definitions on lists of cells say, cell by cell.
pub mod Cellwise
-- Cells that name nothing from a place on.
pub mod Fronts
-- The task of a sound record is well formed.
pub mod SoundTask
-- States of 16 cells of a sound record.
pub mod States
-- What a call says in numbers, by the lines 5, 6 and 10 of "Where a call can say no".
pub mod ByLines
-- A longer record is judged by its first 9,528 bytes.
pub mod LongerRecords
-- What is left of a list from an index on.
pub mod Rest
