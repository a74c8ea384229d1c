-- `reader::quick_lines::quick_list` meets its contract: the cells are cleared, then each item that fits sets its own. The loop's invariant: of any
-- record that gave the one with the cells cleared, the items so far are read and stored. Assumes nothing.
use Prim.Native.Nat.{◌≤◌, ℕ}
use lib.ListN.{length, replicate}
use lib.Seq.{sets}
use mathlib.Core.List.{List}
use mathlib.Core.Path.{◌≡◌}
use Rattle.reader.specs.Lists.{unnamed}
use Rattle.reader.proofs.QuickLists.{Listing}
use Rattle.reader.proofs.quick_lines.quick_list.Given as goal

abbrev pub invariant-loop-rest : goal.invariant-loop-rest
invariant-loop-rest l = (l.next ≤ 16)
    × ((r : List ℕ) → l.initial.rec ≡ sets r l.row.at (replicate 16 (unnamed l.kind)) → Listing l.s l.kind r l.row.at l.rec l.next l.rest)

abbrev pub decreases-loop-rest : goal.decreases-loop-rest
decreases-loop-rest l = length l.rest
