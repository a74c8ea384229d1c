-- `scan`: actions passed affect at most one pattern each; patterns passed are not affected; in the inner loop p is, and none between p and q;
-- nothing is found yet. Assumes nothing.
use mathlib.Core.Path.{◌≡◌, refl, sym, ap, ◌∙◌}
use mathlib.Core.List.{◌∷◌}
use Prim.Native.Nat.{◌+◌, ◌<◌}
use native.Mathlib.Nat.{sub-zero}
use native.Mathlib.Omega.{arith}
use Rattle.planning.specs.Sets.{set_from}
use Rattle.task_record.specs.Cells.{state_cells}
use Rattle.task_record.specs.Layout.{at_precondition}
use Rattle.task_record.specs.Numbers.{action_count, pattern_count}
use Rattle.task_record.specs.TaskOf.{cells_at, task_of, patterns_of}
use Rattle.task_record.proofs.Cellwise.{state_cells_whole}
use Rattle.task_record.proofs.Soundness.{sound_length}
use Rattle.task_record.proofs.SoundTask.{length_of_part, actions_right}
use Rattle.patterns.specs.Sets.{touched_set}
use Rattle.patterns.specs.Additivity.{additivity_of}
use Rattle.patterns.proofs.Affected.{verdict-at_start}
use Rattle.patterns.proofs.LoneSets.{touched_affected, alone, alone_named, demands_nothing, few_additive}
use Rattle.patterns.proofs.Gathering.{set_half, set_odd, set_even}
use Rattle.patterns.proofs.Reading.{affects_at, affected_from, patterns_passed, pattern_spared, pattern_affected, actions_passed, no_pattern, one_pattern, two_patterns}
use Rattle.patterns.proofs.verdict.Members.scan.Goals as goal
use Rattle.patterns.proofs.verdict.Members.scan.Goals.{After-touched_set-left}

pub actions-init : goal.actions-init
actions-init c = let r = c.args.self.now in (verdict-at_start (task_of r) (patterns_of r), omega arith, rw c.self.view_is at c.action_count-actions.ensures, rw c.self.view_is at c.pattern_count-patterns.ensures, refl)

pub returns-then-patterns-lt2 : goal.returns-then-patterns-lt2
unfolding additivity_of
returns-then-patterns-lt2 c = let e = rw c.self.view_is at c.pattern_count-patterns.ensures in rw (few_additive c.args.self.now (omega (arith, e, c.if-patterns-lt2.true))) refl

-- What is left of an action that may make a conflict are the patterns that it affects.
left_is : (c : After-touched_set-left) → c.touched_set-left.result ≡ set_from (affects_at c.args.self.now c.actions.m) 0 (pattern_count c.args.self.now)
left_is c =
    let r = c.args.self.now in let m = c.actions.m in let i = (rw c.self.view_is at c.self.invariant).0 in
    let l : m < action_count r = rw c.actions.invariant.2 at c.actions-test.true in
    let few = actions_right r i in let long = sound_length r i in
    let need = rw c.self.view_is at c.precondition_cells.ensures in
    c.touched_set-left.ensures
    ∙ ap (λ n. touched_set n r m) (c.state_of.ensures ∙ ap state_cells need ∙ sym (state_cells_whole (cells_at r (at_precondition m)) (length_of_part r 16 (at_precondition m) (omega arith))))
    ∙ touched_affected r m

pub actions-preserved-then-is_lone : goal.actions-preserved-then-is_lone
actions-preserved-then-is_lone c = let r = c.args.self.now in let s = c.actions in
    (s.invariant.0 ∙ alone_named r s.m _ _ (demands_nothing 16) (rw s.invariant.2 at c.actions-test.true) c.touched_set.ensures (c.is_lone.ensures c.if-is_lone.true), omega arith, s.invariant.2, s.invariant.3, s.invariant.4)

pub actions-preserved-then-is_lone-2 : goal.actions-preserved-then-is_lone-2
actions-preserved-then-is_lone-2 c = let r = c.args.self.now in let s = c.actions in
    (s.invariant.0 ∙ alone r s.m _ (rw s.invariant.2 at c.actions-test.true) (left_is (goal.at.actions-preserved-then-is_lone-2 c).After-touched_set-left) (c.is_lone-in-actions.ensures c.if-is_lone-2.true), omega arith, s.invariant.2, s.invariant.3, s.invariant.4)

pub loop-p-init : goal.loop-p-init
loop-p-init c = (refl, omega arith, rw sub-zero (left_is (goal.at.loop-p-init c).After-touched_set-left), c.actions.invariant.4)

pub loop-q-init : goal.loop-q-init
loop-q-init c = let r = c.args.self.now in let s = c.actions in let l = c.loop-p in
    let t = rw s.invariant.3 at c.loop-p-test.true in (
      l.invariant.0 ∙ pattern_affected r s.m l.p t (set_odd (affects_at r s.m) l.p (pattern_count r) t (rw l.invariant.2 at c.if-left-eq1.true)),
      omega arith,
      rw l.invariant.2 (set_half (affects_at r s.m) l.p (pattern_count r) t),
      l.invariant.3,
    )

pub loop-q-preserved : goal.loop-q-preserved
loop-q-preserved c = let r = c.args.self.now in let s = c.actions in let l = c.loop-q in
    let t = rw s.invariant.3 at c.loop-q-test.true in (
      l.invariant.0 ∙ ap (λ x. c.loop-p.p ∷ x) (pattern_spared r s.m l.q t (set_even (affects_at r s.m) l.q (pattern_count r) t (rw l.invariant.2 at c.if-left-eq1-2.false))),
      omega arith,
      rw l.invariant.2 (set_half (affects_at r s.m) l.q (pattern_count r) t),
      l.invariant.3,
    )

pub loop-p-preserved : goal.loop-p-preserved
loop-p-preserved c = let r = c.args.self.now in let s = c.actions in let l = c.loop-p in
    let t = rw s.invariant.3 at c.loop-p-test.true in (
      l.invariant.0 ∙ pattern_spared r s.m l.p t (set_even (affects_at r s.m) l.p (pattern_count r) t (rw l.invariant.2 at c.if-left-eq1.false)),
      omega arith,
      rw l.invariant.2 (set_half (affects_at r s.m) l.p (pattern_count r) t),
      l.invariant.3,
    )

pub actions-preserved : goal.actions-preserved
actions-preserved c = let r = c.args.self.now in let s = c.actions in let l = c.loop-p in
    (s.invariant.0 ∙ no_pattern r s.m (rw s.invariant.2 at c.actions-test.true) (l.invariant.0 ∙ patterns_passed r s.m l.p (rw s.invariant.3 at c.loop-p-test.false)), omega arith, s.invariant.2, s.invariant.3, l.invariant.3)

pub actions-preserved-then-left-eq1 : goal.actions-preserved-then-left-eq1
actions-preserved-then-left-eq1 c = let r = c.args.self.now in let s = c.actions in let l = c.loop-p in let k = c.loop-q in
    (s.invariant.0 ∙ one_pattern r s.m (rw s.invariant.2 at c.actions-test.true) l.p (k.invariant.0 ∙ ap (λ x. l.p ∷ x) (patterns_passed r s.m k.q (rw s.invariant.3 at c.loop-q-test.false))), omega arith, s.invariant.2, s.invariant.3, k.invariant.3)

pub returns-after-actions : goal.returns-after-actions
unfolding additivity_of
returns-after-actions c = let u = c.actions in u.invariant.4 ∙ sym (ap additivity_of (u.invariant.0 ∙ actions_passed c.args.self.now u.m (rw u.invariant.2 at c.actions-test.false)))

pub returns-then-left-eq1-2 : goal.returns-then-left-eq1-2
unfolding additivity_of
returns-then-left-eq1-2 c = let r = c.args.self.now in let s = c.actions in let l = c.loop-p in let k = c.loop-q in
    let t = rw s.invariant.3 at c.loop-q-test.true in
    rw (c.from.ensures, c.from-then-left-eq1-2.ensures, c.from-then-left-eq1-2-2.ensures) (sym (ap additivity_of (s.invariant.0 ∙ two_patterns r s.m (rw s.invariant.2 at c.actions-test.true) l.p k.q (affected_from r s.m (k.q + 1))
    (k.invariant.0 ∙ ap (λ x. l.p ∷ x) (pattern_affected r s.m k.q t (set_odd (affects_at r s.m) k.q (pattern_count r) t (rw k.invariant.2 at c.if-left-eq1-2.true)))))))
