-- `search::buffer::clear` meets its contract. Assumes nothing.
use Rattle.search.proofs.buffer.clear.Goals as goal

pub returns : goal.returns
returns c = c.fill.ensures.after (λ y h. h)
