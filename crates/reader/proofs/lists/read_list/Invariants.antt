-- `reader::lists::read_list` meets its contract. The loop's invariant: the whole list is what the pieces that are left make of what was
-- gathered. Assumes nothing.
use lib.ListN.{drop, length}
use mathlib.Core.Path.{◌≡◌}
use Rattle.reader.specs.Lists.{list_from, list_of}
use Rattle.reader.specs.Text.{comma, pieces}
use Rattle.reader.proofs.lists.read_list.Given as goal

abbrev pub invariant-loop-piece : goal.invariant-loop-piece
invariant-loop-piece l = list_of l.rec l.kind l.text ≡ list_from l.rec l.kind l.gathered (drop (length l.yielded) (pieces comma l.text))
