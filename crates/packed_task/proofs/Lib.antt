-- The laws about the definitions of specs/: first the packed form, then compiled tasks, last sets.

-- Packed words stand for lists of cells.
pub mod Packing
-- Eight cells packed at once are the cells packed one by one.
pub mod Squeezing
-- What stands where in a compiled task.
pub mod Compiled
-- The words of an action, put into a compiled task one by one.
pub mod CompiledAction
-- The words of a sound record's task, action after action, then the goal.
pub mod CompiledRecord
-- The task of a sound record fits the packed form.
pub mod SoundPacked
-- The system over packed states does as the task does over lists.
pub mod Simulating
-- Packed words within a pattern's mask are those of the task's abstraction.
pub mod Abstracted
-- Sets as words: one number more, and emptied lowest first.
pub mod SetWords
-- Filling the sets of the actions that the bytes of a state permit.
pub mod SetsFilled
-- The sets looked up by bytes meet in the set of the actions that apply.
pub mod ApplyingSets
