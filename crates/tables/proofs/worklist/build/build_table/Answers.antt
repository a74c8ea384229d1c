-- `build_table`: where every state is a goal, 0 alone is the table. Assumes nothing.
use Rattle.tables.proofs.GoalWords.{free_table}
use Rattle.tables.proofs.worklist.build.build_table.Goals as goal

pub returns-then-goal_need-pattern-eq0 : goal.returns-then-goal_need-pattern-eq0
returns-then-goal_need-pattern-eq0 c = let p = rw (← c.pattern.view_is) at c.requires in let f = c.fill.ensures.after (λ y e. e) in
    rw (← c.pattern.view_is) (free_table _ _ c.pattern.invariant (rw c.goal_need.ensures at c.if-goal_need-pattern-eq0.true) (rw p at f))
