-- The stores that make a blank record, as the code makes them. Nothing above the reader cites these.
-- Assumes nothing.
use Rattle.std.specs.Prelude.{ℕ, zero, suc, List, replicate, set}
use Rattle.task_record.specs.Layout.{record_size, at_action}

unfoldable pub all_unnamed : List ℕ
all_unnamed = replicate record_size 255

-- the outcome numbers of the first n actions are 0
unfoldable pub clear_actions : ℕ → List ℕ → List ℕ
clear_actions zero r = r
clear_actions (suc m) r = set (clear_actions m r) (at_action m) 0
