-- `scan`: actions passed affect at most one pattern each; patterns passed are not affected; in the inner loop p is, and none between p and q;
-- nothing is found yet. Assumes nothing.
use mathlib.Core.Path.{◌≡◌}
use mathlib.Core.List.{◌∷◌}
use Rattle.std.proofs.Common.{None}
use Prim.Native.Nat.{◌-◌, ◌/◌, ◌≤◌}
use Rattle.planning.specs.Pattern.{verdict}
use Rattle.task_record.specs.Numbers.{action_count, pattern_count}
use Rattle.task_record.specs.TaskOf.{task_of, patterns_of}
use Rattle.planning.specs.Sets.{set_from}
use Rattle.patterns.proofs.Reading.{affects_at, affected_from, verdict_from}
use Rattle.patterns.proofs.verdict.Members.scan.Given as goal

abbrev pub invariant-loop-q : goal.invariant-loop-q
invariant-loop-q l = (affected_from l.self l.m 0 ≡ l.p ∷ affected_from l.self l.m l.q) × (l.q ≤ l.patterns) × (l.left / 2 ≡ set_from (affects_at l.self l.m) l.q (pattern_count l.self - l.q)) × (l.found ≡ None)

abbrev pub invariant-loop-p : goal.invariant-loop-p
invariant-loop-p l = (affected_from l.self l.m 0 ≡ affected_from l.self l.m l.p) × (l.p ≤ l.patterns) × (l.left ≡ set_from (affects_at l.self l.m) l.p (pattern_count l.self - l.p)) × (l.found ≡ None)

abbrev pub invariant-actions : goal.invariant-actions
invariant-actions l = (verdict (task_of l.self) (patterns_of l.self) ≡ verdict_from l.self l.m) × (l.m ≤ l.actions) × (l.actions ≡ action_count l.self) × (l.patterns ≡ pattern_count l.self) × (l.found ≡ None)
