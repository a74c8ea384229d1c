-- `check_bytes`: between two bytes the rest of the plan is checked as planning checks it, for the state and for what the frames await.
-- Assumes nothing.
use Rattle.std.proofs.Common.{◌≡◌, nat_cmp, eqb, ltb, ◌∷◌, List, [], ℕ, ◌≤◌, max, length, drop, slice_get, sym, ap, ◌∙◌, arith, refl, Some, None, Err}
use Rattle.std.specs.Ordering.{ord_max}
use Rattle.std.proofs.lemmas.Result.{err_from_is_err_and}
use borrow.Author.Tests.{ltb-true, ltb-false}
use Rattle.planning.proofs.Test.{by_test}
use Rattle.planning.specs.PlanCheck.{refused, check_plan}
use Rattle.task_record.proofs.Soundness.{sound_length}
use Rattle.task_record.specs.TaskOf.{values_of}
use Rattle.plan_check.specs.declared.frames.Frame.{Frame}
use Rattle.plan_check.specs.Tower.{tower}
use Rattle.plan_check.specs.Check.{answer_of, refusal_of}
use Rattle.plan_check.proofs.Tower.{tower_actions}
use Rattle.plan_check.proofs.Reading.{Taken, reading_begins, reading_ends_early, reading_refused, reading_ends, reading_arrives, reading_acts, taken_last, taken_first}
use Rattle.plan_check.proofs.check.check_bytes.Goals.{Joined-has_action, then-has_action, else-has_action+in-Some, then-frame-ne1, else-frame-ne1}
use Rattle.plan_check.proofs.check.check_bytes.Goals as goal

-- A stack that is not empty is its topmost frame on the others.
topmost_on_others : (frames : List Frame) (f : Frame) → slice_get frames 0 ≡ Some f → frames ≡ f ∷ drop 1 frames
topmost_on_others [] f e = let z : ◌≡◌ {A = ℕ} 0 1 = cc in absurd (omega arith)
topmost_on_others (g ∷ frames) f e = let same : g ≡ f = cc in ap (λ h. h ∷ frames) same

none_topmost : (frames : List Frame) → slice_get frames 0 ≡ None → frames ≡ []
none_topmost [] e = refl
none_topmost (g ∷ frames) e = let z : ◌≡◌ {A = ℕ} 0 1 = cc in absurd (omega arith)

max_is : (a b : ℕ) → ord_max nat_cmp a b ≡ max a b
max_is a b = by_test (ltb b a)
    (λ e. let l = ltb-true b a e in rw e (omega arith))
    (λ e. let l = ltb-false b a e in by_test (eqb b a) (λ q. rw (e, q) (omega arith)) (λ q. rw (e, q) (omega arith)))

-- Where the two kinds of bytes meet: what holds of the frame that comes.
taken : (c : Joined-has_action) → Taken c.args.most c.args.checked.now c.args.plan.now (check_plan (tower c.args.checked.now) c.args.most (values_of c.args.checked.now c.args.start) c.args.plan.now)
    c.if-has_action.stack.frames c.if-has_action.frame c.if-has_action.worst c.loop-at.at
taken c =
    let sound = rw c.checked.view_is at c.checked.invariant in
    let read = rw c.of-task.ensures at c.judge_byte.ensures in
    let kind = rw c.of-task.ensures at c.has_action.ensures in
    let good = sym read ∙ c.in_ok-judge_byte.was in
    elim c.if-has_action.branch [
      | then-has_action w ↦ rw (w.frame-is, w.worst-is, w.stack-is, w.begun-frame.ensures, c.of-task.ensures)
          (reading_acts _ _ _ sound _ _ _ _ _ _ _ c.loop-at.invariant.1 c.loop-at-test.true good (ltb-true _ _ (sym kind ∙ w.if-has_action.true))).1
      | else-has_action+in-Some w ↦
          let l = ltb-false _ _ (sym kind ∙ w.if-has_action.false) in
          let split = topmost_on_others _ _ (sym w.pop.ensures.topmost ∙ w.in-Some.is) in
          rw (w.frame-is, w.worst-is, w.stack-is, w.max-worst.ensures, max_is, w.pop.ensures.rest)
          (reading_arrives _ _ _ sound _ _ _ _ _ _ _ c.loop-at.invariant.1 c.loop-at-test.true good _ _ l split)
    ]

room_kept : (c : Joined-has_action) → c.args.most ≤ c.if-has_action.stack.room
room_kept c = elim c.if-has_action.branch [
  | then-has_action w ↦ rw w.stack-is c.loop-at.invariant.0
  | else-has_action+in-Some w ↦ rw (w.stack-is, w.pop.ensures.rest) c.loop-at.invariant.0
]

pub loop-at-init : goal.loop-at-init
loop-at-init c =
    let sound = rw c.checked.view_is at c.checked.invariant in
    rw c.new-stack.ensures (c.requires.0, reading_begins _ _ _ sound c.args.start)

pub returns-in_err-judge_byte : goal.returns-in_err-judge_byte
returns-in_err-judge_byte c =
    let sound = rw c.checked.view_is at c.checked.invariant in
    let q = err_from_is_err_and c.from_residual.result c.from_residual.ensures.1 in
    let read = rw c.of-task.ensures at c.judge_byte.ensures in
    q.1 ∙ ap Err q.2 ∙ sym (reading_refused _ _ _ sound _ _ _ _ _ _ _ c.loop-at.invariant.1 c.loop-at-test.true _ (sym read ∙ c.in_err-judge_byte.was))

pub begun-frame-requires : goal.begun-frame-requires
begun-frame-requires c =
    let sound = rw c.checked.view_is at c.checked.invariant in
    let read = rw c.of-task.ensures at c.judge_byte.ensures in
    let kind = rw c.of-task.ensures at c.has_action.ensures in
    let l = ltb-true _ _ (sym kind ∙ c.if-has_action.true) in
    let reading = c.loop-at.invariant.1 in
    let shallow = (reading_acts _ _ _ sound _ _ _ _ _ _ _ reading c.loop-at-test.true (sym read ∙ c.in_ok-judge_byte.was) l).0 in
    rw c.of-task.ensures (rw tower_actions at l, omega (arith, shallow, c.requires.1), reading.light)

pub returns-in-None : goal.returns-in-None
returns-in-None c =
    let sound = rw c.checked.view_is at c.checked.invariant in
    let read = rw c.of-task.ensures at c.judge_byte.ensures in
    let kind = rw c.of-task.ensures at c.has_action.ensures in
    let l = ltb-false _ _ (sym kind ∙ c.if-has_action.false) in
    let empty = none_topmost _ (sym c.pop.ensures.topmost ∙ c.in-None.is) in
    let ends = reading_ends _ _ _ sound _ _ _ _ _ _ _ c.loop-at.invariant.1 c.loop-at-test.true (sym read ∙ c.in_ok-judge_byte.was) l empty in
    c.ended.ensures ∙ ap answer_of (rw (c.max-worst.ensures, max_is) (sym ends))

pub next_state-state-requires : goal.next_state-state-requires
next_state-state-requires c =
    let w = (taken (goal.at.next_state-state-requires c).Joined-has_action).frame in
    let long = sound_length _ c.checked.invariant in
    omega (arith, w.some, w.inside)

pub rest-requires : goal.rest-requires
rest-requires c = let w = (taken (goal.at.rest-requires c).Joined-has_action).frame in (omega (arith, w.inside), w.some)

pub push-requires : goal.push-requires
push-requires c =
    let t = taken (goal.at.push-requires c).Joined-has_action in
    omega (arith, t.frame.deep, t.frame.shallow, room_kept (goal.at.push-requires c).Joined-has_action)

pub loop-at-preserved : goal.loop-at-preserved
loop-at-preserved c =
    let sound = rw c.checked.view_is at c.checked.invariant in
    let t = taken (goal.at.loop-at-preserved c).Joined-has_action in
    let n = room_kept (goal.at.loop-at-preserved c).Joined-has_action in
    elim c.if-frame-ne1.branch [
      | then-frame-ne1 w ↦ rw (w.stack-is, w.push.ensures, w.rest.ensures, c.next_state-state.ensures, c.checked.view_is) (n, taken_first _ _ _ sound _ _ _ _ _ t w.if-frame-ne1.true)
      | else-frame-ne1 w ↦ rw (w.stack-is, c.next_state-state.ensures, c.checked.view_is) (n, taken_last _ _ _ sound _ _ _ _ _ t w.if-frame-ne1.false)
    ]

pub returns : goal.returns
unfolding answer_of refusal_of
returns c =
    let sound = rw c.checked.view_is at c.checked.invariant in
    let e : c.loop-at.at ≡ length c.args.plan.now = omega (arith, c.loop-at-test.false) in
    sym (ap answer_of (reading_ends_early _ _ _ sound _ _ _ _ _ _ _ c.loop-at.invariant.1 c.loop-at-test.false ∙ ap (refused 12) e))
