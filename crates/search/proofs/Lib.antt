-- Laws about the definitions of specs/, which the proofs of the functions cite.

-- What a built task keeps is known, since it has one proof at most.
pub mod Props
-- The estimate of a word: one pattern more.
pub mod EntrySums
-- The index by bytes is the index.
pub mod ByteSums
-- Filling the blocks by which an index is looked up.
pub mod BlocksFilled
-- Filling the weights.
pub mod WeightsFilled
-- Weights give planning's index and value.
pub mod WeightValues
-- With additive patterns an action moves a word in its owner alone.
pub mod Owning
-- What each opening makes of an examination, and the trying of actions one by one.
pub mod Openings
-- The search of the compiled task is the search of the record's task.
pub mod RecordSearch
-- What the search answers and leaves, by what its preparation found out.
pub mod Prepared
-- The answer in numbers, by the lines of "Where a call can say no".
pub mod ByLines
-- Where the search does not refuse, planning's search of the task has that answer.
pub mod Answered
-- Refusal 11: a buffer of as many bytes gets the plan.
pub mod TooLong
-- Demand 3, sentence by sentence, of the calls themselves.
pub mod Demand
-- What the count in an answer counts.
pub mod Counted
-- Bytes in the plan's buffer that stand one after the other.
pub mod Bytes
-- The value carried along an action.
pub mod Carrying
-- Filling the sets of the actions that a depth affords.
pub mod Affording
-- Trying a set of actions lowest first is trying them by number.
pub mod Trying
-- How examinations end, and what is left of a row of outcomes.
pub mod Endings
-- What a memory says is true, when it is empty and when a result is added.
pub mod Remembering
-- What is decided without examining another state.
pub mod Looking
-- The loops over the actions of a state and over the outcomes of an action.
pub mod Examining
-- Plans that stand in the buffer, and copies of them.
pub mod Standing
-- Writing the plan that an examination found.
pub mod Writing
-- One round more, how a round ends them, and the answer for each end.
pub mod Conclusions
