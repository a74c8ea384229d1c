-- `Task::judge_byte`: each way out is one chain of tests of the definition. Assumes nothing.
use Rattle.std.proofs.Common.{sym, ◌∙◌}
use borrow.Author.Tests.{lt-ltb, le-ltb, lt-leb, le-leb, eq-eqb, ne_eqb}
use Rattle.planning.specs.System.{applies}
use Rattle.plan_check.specs.Refusal.{byte_judged}
use Rattle.plan_check.proofs.Tower.{tower_actions, tower_goal}
use Rattle.plan_check.proofs.task.Task.judge_byte.Goals.{then-not-action_met-via-then-not-action_met, then-not-action_met-via-else-not-action_met+then-met}
use Rattle.plan_check.proofs.task.Task.judge_byte.Goals as goal

pub returns-then-most-depth : goal.returns-then-most-depth
unfolding byte_judged
returns-then-most-depth c =
    rw (← c.self.view_is, tower_actions, ← c.self.invariant.1) (simp (lt-ltb _ _ c.if-b-self.true, le-leb _ _ c.if-most-depth.true))

pub action_met-requires : goal.action_met-requires
action_met-requires c = rw (← c.self.view_is, ← c.self.invariant.1) c.if-b-self.true

pub returns-then-not-action_met : goal.returns-then-not-action_met
unfolding byte_judged applies
returns-then-not-action_met c =
    let t = c.self.invariant in
    let l = lt-ltb _ _ c.if-b-self.true in
    let k = lt-leb _ _ c.if-most-depth.false in
    elim c.then-not-action_met.branch [
      | then-not-action_met-via-then-not-action_met w ↦
          let p = rw (← c.self.view_is) at (sym c.action_met.ensures ∙ w.if-not-action_met.true) in
          rw (← c.self.view_is, tower_actions, ← t.1, l, k, p)
      | then-not-action_met-via-else-not-action_met+then-met w ↦
          let p = rw (← c.self.view_is) at (sym c.action_met.ensures ∙ w.if-not-action_met.false) in
          let g = sym (tower_goal _ t.0 _) ∙ (rw t.2 at (sym w.met.ensures ∙ w.if-met.true)) in
          rw (← c.self.view_is, tower_actions, ← t.1, l, k, p, g)
    ]

pub returns-then-b-self : goal.returns-then-b-self
unfolding byte_judged applies
returns-then-b-self c =
    let t = c.self.invariant in
    let p = rw (← c.self.view_is) at (sym c.action_met.ensures ∙ c.if-not-action_met.false) in
    let g = sym (tower_goal _ t.0 _) ∙ (rw t.2 at (sym c.met.ensures ∙ c.if-met.false)) in
    rw (← c.self.view_is, tower_actions, ← t.1, lt-ltb _ _ c.if-b-self.true, lt-leb _ _ c.if-most-depth.false, p, g)

pub returns-then-b-ne-ARRIVED : goal.returns-then-b-ne-ARRIVED
unfolding byte_judged
returns-then-b-ne-ARRIVED c =
    rw (← c.self.view_is, tower_actions, ← c.self.invariant.1) (simp (le-ltb _ _ c.if-b-self.false, ne_eqb _ _ c.if-b-ne-ARRIVED.true))

pub returns-then-not-met : goal.returns-then-not-met
unfolding byte_judged
returns-then-not-met c =
    let t = c.self.invariant in
    let g = sym (tower_goal _ t.0 _) ∙ (rw t.2 at (sym c.met-2.ensures ∙ c.if-not-met.true)) in
    rw (← c.self.view_is, tower_actions, ← t.1, le-ltb _ _ c.if-b-self.false, eq-eqb _ _ c.if-b-ne-ARRIVED.false, g)

pub returns : goal.returns
unfolding byte_judged
returns c =
    let t = c.self.invariant in
    let g = sym (tower_goal _ t.0 _) ∙ (rw t.2 at (sym c.met-2.ensures ∙ c.if-not-met.false)) in
    rw (← c.self.view_is, tower_actions, ← t.1, le-ltb _ _ c.if-b-self.false, eq-eqb _ _ c.if-b-ne-ARRIVED.false, g)
