-- Sets of patterns as words, pattern 0 lowest. Assumes nothing.
use Rattle.std.specs.Prelude.{◌≡◌, List, ℕ, ◌-◌, eqb, get_or}
use Rattle.std.specs.Int.Bits.{bit_and}
use Rattle.planning.specs.Finite.{some_of}
use Rattle.planning.specs.Sets.{set_from}
use Rattle.planning.specs.Pattern.{counted, affects}
use Rattle.task_record.specs.Layout.{at_pattern}
use Rattle.task_record.specs.Numbers.{pattern_count}
use Rattle.task_record.specs.TaskOf.{cells_at, action_of}

-- At most one: nothing is left when the lowest member is taken out.
unfoldable pub Lone : ℕ → Type 0
Lone s = bit_and s (s - 1) ≡ 0

-- The patterns with a variable to which an outcome of action m gives a value that counts by a need: all that the action affects, by its own need;
-- all that its outcomes name, by a need that demands nothing.
unfoldable pub touched_set : List ℕ → List ℕ → ℕ → ℕ
touched_set need r m = set_from (λ p. some_of (λ o. affects (cells_at r (at_pattern p)) (counted need o)) (action_of r m).outcomes) 0 (pattern_count r)

-- The patterns that variable v is in.
unfoldable pub member_set : List ℕ → ℕ → ℕ
member_set r v = set_from (λ p. eqb (get_or (cells_at r (at_pattern p)) v 0) 1) 0 (pattern_count r)
