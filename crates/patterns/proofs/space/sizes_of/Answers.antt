-- `sizes_of`: each cell is what the record says of its number. Assumes nothing.
use Rattle.std.proofs.Common.{rules}
use Rattle.patterns.proofs.Sizes.{sixteen_are_sizes}
use Rattle.patterns.proofs.space.sizes_of.Goals as goal

pub returns : goal.returns
returns c =
    let made = c.from_fn.ensures.items in
    sixteen_are_sizes _ _ (record { whole = made.long; cell = λ k h. let ran = (made.at k 0 h).2 in search rules })
