-- The definitions that the contracts cite: packed states and compiled tasks, then the sets of the actions that apply.

-- States, preconditions and outcomes packed into words of 64 bits, 4 per variable, and the compiled task.
pub mod Packed
-- A compiled task within a mask: goal, preconditions and outcomes of some variables alone.
pub mod Within
-- Eight cells packed at once, as the bytes of a word.
pub mod Squeezed
-- The tasks that fit the packed form.
pub mod Packable
-- The sets of the actions that the bytes of a state permit.
pub mod Sets
-- The words of a record's task, as they are made one by one.
pub mod Compiling
