-- Document 02, item 3: "a tool lengthens stored records with 1 for each used move, after the old 5 and 6, then 5 for a target below 9,528." Item 7:
-- the tool, "now and after later changes, writes the current form". Assumes nothing.
use Rattle.std.specs.Prelude.{ℕ, cond, List, ◌++◌, length, take, drop, nat_lt, Result, Ok, Err}
use Rattle.planning.specs.Finite.{tabulate}
use Rattle.task_record.specs.Layout.{record_size}
use Rattle.task_record.specs.Refusals.{after, where_ok}
use Rattle.task_record.specs.declared.refusal.Refusal.{Refusal}
use Rattle.task_record.specs.declared.refusal.Refusal.TheVariants.{ShortRecord}
use Rattle.stored.specs.FirstLayout.{first_size, first_action_count}
use Rattle.stored.specs.FirstRecord.{first_check}

-- "1 for each used move", "0 for unused moves": the cost of move m of a record of the first form, and the costs of all 64.
unfoldable pub added_cost : List ℕ → ℕ → ℕ
added_cost r m = cond (nat_lt m (first_action_count r)) 1 0

unfoldable pub added_costs : List ℕ → List ℕ
added_costs r = tabulate (added_cost r) 0 64

-- The record in today's form: its first 9,464 bytes, then the costs.
unfoldable pub upgraded : List ℕ → List ℕ
upgraded r = take first_size r ++ added_costs r

-- "then 5 for a target below 9,528", of a target of n bytes.
unfoldable pub target_check : ℕ → Result Unit Refusal
target_check n = cond (nat_lt n record_size) (Err (ShortRecord n)) (Ok tt)

-- "after the old 5 and 6".
unfoldable pub upgrade_answer : List ℕ → ℕ → Result Unit Refusal
upgrade_answer stored n = after (first_check stored) (λ u. target_check n)

-- What the target then holds: the record, and behind it what was there; "refused calls leave every lent slice as found".
unfoldable pub upgrade_leaves : List ℕ → List ℕ → List ℕ
upgrade_leaves stored target = where_ok (upgrade_answer stored (length target)) (upgraded stored ++ drop record_size target) target
