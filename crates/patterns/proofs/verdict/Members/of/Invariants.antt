-- `of`: of each variable the set of the patterns passed, from the highest down; within a row those of the variables passed have its
-- pattern too. Assumes nothing.
use mathlib.Core.Path.{◌≡◌}
use mathlib.Core.Bool.{Bool}
use mathlib.Core.List.{List}
use Prim.Native.Nat.{ℕ, ◌+◌, ◌-◌, ◌≤◌, ◌<◌}
use lib.Dec.{eqb}
use lib.ListN.{length, get_or}
use Rattle.task_record.specs.Layout.{at_pattern}
use Rattle.task_record.specs.Numbers.{pattern_count}
use Rattle.task_record.specs.TaskOf.{cells_at}
use Rattle.planning.specs.Sets.{set_from}
use Rattle.patterns.proofs.verdict.Members.of.Given as goal

-- Variable k is in pattern j.
abbrev pub member : List ℕ → ℕ → ℕ → Bool
member r k j = eqb (get_or (cells_at r (at_pattern j)) k 0) 1

abbrev pub invariant-loop-v : goal.invariant-loop-v
invariant-loop-v l = (length l.set-items ≡ 16) × (l.p < pattern_count l.record) × ((k : ℕ) → k < l.v → get_or l.set-items k 0 ≡ set_from (member l.record k) l.p (pattern_count l.record - l.p)) × ((k : ℕ) → l.v ≤ k → k < 16 → get_or l.set-items k 0 ≡ set_from (member l.record k) (l.p + 1) (pattern_count l.record - (l.p + 1)))

abbrev pub invariant-loop-p : goal.invariant-loop-p
invariant-loop-p l = (l.p ≤ pattern_count l.record) × (length l.sets ≡ 16) × ((k : ℕ) → k < 16 → get_or l.sets k 0 ≡ set_from (member l.record k) l.p (pattern_count l.record - l.p))
