-- `reader::lists::Gathered::new` meets its contract. Assumes nothing.
use Rattle.reader.specs.Lists.{no_items}
use Rattle.reader.proofs.lists.Gathered.new.Goals as goal

pub returns : goal.returns
unfolding no_items
returns c = rw c.unnamed.ensures
