-- `build_sized`: where no action counts, the goals are the table. Assumes nothing.
use Rattle.tables.proofs.GoalWords.{goals_table}
use Rattle.tables.proofs.worklist.build.build_sized.Goals as goal

pub returns-then-entries-le64 : goal.returns-then-entries-le64
returns-then-entries-le64 c = let p = rw (← c.pattern.view_is) at c.requires in let e = rw (← c.pattern.view_is) at c.build_goals.ensures in
    rw (← c.pattern.view_is) (goals_table _ _ c.pattern.invariant c.if-pattern-eq0.true (λ words s. rw p.0 at (e words s)))

pub returns-then-pattern-eq0 : goal.returns-then-pattern-eq0
returns-then-pattern-eq0 c = let p = rw (← c.pattern.view_is) at c.requires in let e = rw (← c.pattern.view_is) at c.build_goals-then-pattern-eq0.ensures in
    rw (← c.pattern.view_is) (goals_table _ _ c.pattern.invariant c.if-pattern-eq0.true (λ words s. rw p.0 at (e words s)))
