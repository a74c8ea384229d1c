-- `packed_task::compile::put_head` meets its contract. Assumes nothing.
use Rattle.packed_task.proofs.compile.put_head.Goals as goal

pub returns : goal.returns
returns c = rw (c.named_digits.ensures, c.words_of-words.ensures.1)
