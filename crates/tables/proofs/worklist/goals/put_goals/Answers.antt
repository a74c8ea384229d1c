-- `put_goals` meets its contract. Assumes nothing.
use Rattle.std.proofs.Common.{arith}
use Rattle.tables.proofs.Entering.{held_none}
use Rattle.tables.proofs.GoalWords.{first_near, goals_started}
use Rattle.tables.proofs.worklist.goals.put_goals.Goals as goal

pub put_goals_from-requires : goal.put_goals_from-requires
put_goals_from-requires g c = let p = rw (← c.pattern.view_is) at c.requires in let i = c.pattern.invariant in let b = first_near i.walkable i.bounded c.args.weights.now p.0 in
    let f = c.fill.ensures.after (λ y e. e) in (
      omega (arith, c.args.queue.now.small),
      (omega arith, rw (c.index_of_few-at.ensures, c.goal_value.ensures) (omega (arith, b)), rw f (held_none c.args.queue.now.waits p.2)),
    )

pub returns-clause-started : goal.returns-clause-started
returns-clause-started g c = let p = rw (← c.pattern.view_is) at c.requires in let i = c.pattern.invariant in let f = c.fill.ensures.after (λ y e. e) in
    rw (← c.pattern.view_is) (λ words s. rw p.1 (goals_started i.walkable i.bounded c.args.weights.now p.0 words _ _ s (rw p.1 at f) (rw (c.index_of_few-at.ensures, c.goal_value.ensures, c.goal_need.ensures) at c.put_goals_from.ensures.0)))
