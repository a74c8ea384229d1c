-- What the first parts of a record say where they are right: the head of its numbers, the sizes of each one. Assumes nothing.
use Rattle.std.proofs.Common.{◌≡◌, ℕ, ◌<◌, ◌≤◌, true, leb, List, get_or, sym, ◌∙◌, zero-add, arith, lt-ltb, leb-true}
use Rattle.task_record.specs.Layout.{at_sizes, at_goal, at_variables, at_actions}
use Rattle.task_record.specs.Numbers.{variable_count, action_count, size_of}
use Rattle.task_record.specs.Scan.{first_from}
use Rattle.task_record.specs.Record.{cell_ok, head_ok, size_ok}
use Rattle.task_record.proofs.Tests.{both_right}
use Rattle.task_record.proofs.Scanning.{first_all, first_none}
use Rattle.task_record.proofs.Offsets.{size_at}

-- The cells are bytes.
abbrev pub Bytes : List ℕ → Type 0
Bytes c = (k : ℕ) → get_or c k 0 < 256

module _ (r : List ℕ) (right : (k : ℕ) → k < at_sizes → head_ok r k ≡ true) where
  pub head_passes : first_from (cell_ok r) 0 at_sizes ≡ at_sizes
  unfolding cell_ok
  head_passes = first_none (cell_ok r) 0 at_sizes (λ k l. rw (zero-add, lt-ltb k at_sizes l) (right k l))

  pub head_variables : variable_count r ≤ 16
  unfolding head_ok
  head_variables = leb-true (variable_count r) 16 (both_right (leb 1 (variable_count r)) _ (right at_variables (omega arith)))

  pub head_actions : action_count r ≤ 64
  unfolding head_ok
  head_actions = leb-true (action_count r) 64 (right at_actions (omega arith))

pub size_right : (r : List ℕ) → first_from (cell_ok r) at_sizes 16 ≡ at_goal → (v : ℕ) → v < 16 → size_ok r v (size_of r v) ≡ true
size_right r right v l = sym (size_at r v l) ∙ first_all (cell_ok r) at_sizes 16 (omega arith) v l
