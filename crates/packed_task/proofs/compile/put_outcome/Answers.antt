-- `put_outcome`: two words are stored. Assumes nothing.
use Rattle.packed_task.proofs.compile.put_outcome.Goals as goal

pub returns : goal.returns
returns c = let words = c.outcome_words-words.ensures in rw (words.0, words.1)
