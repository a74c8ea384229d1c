-- `look_at_states` meets its contract. Assumes nothing.
use Rattle.std.proofs.Common.{length-set, refl, sym, ◌∙◌, arith}
use Rattle.packed_task.specs.Within.{is_goal}
use Rattle.task_record.proofs.Sixteens.{filled_next}
use Rattle.tables.proofs.GoalWords.{started_is}
use Rattle.tables.proofs.worklist.build.look_at_states.Goals as goal

pub loop-i-init : goal.loop-i-init
loop-i-init g c = (refl, λ j h. absurd (omega arith))

pub loop-i-preserved : goal.loop-i-preserved
loop-i-preserved g c = let l = c.loop-i in let n = l.invariant in
    (simp length-set n.0, filled_next _ l.entries l.i c.entry_at_start.result (omega arith) c.entry_at_start.ensures n.1)

pub returns : goal.returns
unfolding is_goal
returns g c = let p = rw (← c.pattern.view_is) at c.requires in let l = c.loop-i in let n = l.invariant in let w = rw (← c.pattern.view_is) at c.fill_states.ensures in
    rw (← c.pattern.view_is) (λ words s. started_is _ _ words l.entries _ n.0 (λ i b. let q = w i (rw p.0 at b) ∙ sym (s i (rw p.0 at b)) in
    n.1 i (omega (arith, b, c.loop-i-test.false)) ∙ rw (q, c.goal_need.ensures, c.goal_value.ensures)))
