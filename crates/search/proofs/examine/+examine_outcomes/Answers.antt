-- `search::examine::examine` and `search::examine::outcomes`, which call each other, meet their contracts. Invariant of the loop over the set of
-- actions: those left, from the count so far, are the whole examination (`Examining`). Invariant of the loop over outcomes: the result of the
-- outcomes left makes that of the whole row (`Following`). Both keep a memory that is true. The depth falls by the action's weight from
-- `outcomes` to `examine`. Assumes nothing.
use Rattle.std.proofs.Common.{length, refl, ap, ◌∙◌, arith}
use Rattle.search.proofs.Looking.{seen_decided, seen_open}
use Rattle.search.proofs.Examining.{examining_begins, action_known, action_asks, action_stops, action_fails, win_counted, action_wins, examining_ends, following_begins, outcome_examinable, outcome_stops, outcome_fails, outcome_small, outcome_succeeds, following_ends}
use Rattle.search.proofs.examine.+examine_outcomes.Goals.{outcomes-in-Some-Succeeded, outcomes-in-None+in-Succeeded}
use Rattle.search.proofs.examine.+examine_outcomes.Goals as goal

pub examine-loop-m-init : goal.examine-loop-m-init
examine-loop-m-init t c = (rw c.into_iter-m-iterator.ensures.into_iter_gives (examining_begins c.requires (rw c.applying.ensures refl)), refl)

pub examine-outcomes-requires : goal.examine-outcomes-requires
examine-outcomes-requires t c = (omega (arith, c.decreases), action_asks c.requires c.loop-m.invariant.0 c.in-Some.ensures.steps.0 c.in-Some.ensures.steps.1)

pub examine-returns-in-Stopped : goal.examine-returns-in-Stopped
examine-returns-in-Stopped t c = action_stops c.requires c.loop-m.invariant.0 c.in-Some.ensures.steps.0 c.in-Some.ensures.steps.1 c.outcomes.ensures _ c.in-Stopped.is

pub examine-number_of-first-requires : goal.examine-number_of-first-requires
examine-number_of-first-requires t c = omega (arith, action_known c.requires c.loop-m.invariant.0 c.in-Some.ensures.steps.0 c.in-Some.ensures.steps.1, c.args.instance.now.matching.ready.few_actions)

pub examine-overflow_sub-e : goal.examine-overflow_sub-e
examine-overflow_sub-e t c = let w = win_counted c.requires c.loop-m.invariant.0 c.in-Some.ensures.steps.0 c.in-Some.ensures.steps.1 c.outcomes.ensures _ _ _ c.in-Succeeded.is in omega (arith, w.0)

pub examine-overflow_add-n : goal.examine-overflow_add-n
examine-overflow_add-n t c = let w = win_counted c.requires c.loop-m.invariant.0 c.in-Some.ensures.steps.0 c.in-Some.ensures.steps.1 c.outcomes.ensures _ _ _ c.in-Succeeded.is in omega (arith, w.1, w.2)

pub examine-note-requires : goal.examine-note-requires
examine-note-requires t c = let w = win_counted c.requires c.loop-m.invariant.0 c.in-Some.ensures.steps.0 c.in-Some.ensures.steps.1 c.outcomes.ensures _ _ _ c.in-Succeeded.is in let x = c.requires.examinable in
    (c.outcomes.ensures.remembers.long, x.shallow, omega (arith, w.2), omega (arith, w.1, w.2))

pub examine-overflow_add-result : goal.examine-overflow_add-result
examine-overflow_add-result t c = let w = win_counted c.requires c.loop-m.invariant.0 c.in-Some.ensures.steps.0 c.in-Some.ensures.steps.1 c.outcomes.ensures _ _ _ c.in-Succeeded.is in omega (arith, w.1, w.2)

pub examine-returns-in-Succeeded : goal.examine-returns-in-Succeeded
examine-returns-in-Succeeded t c = action_wins c.requires c.loop-m.invariant.0 c.in-Some.ensures.steps.0 c.in-Some.ensures.steps.1 c.outcomes.ensures _ _ _ c.in-Succeeded.is c.number_of-first.ensures c.note.ensures

pub examine-loop-m-preserved : goal.examine-loop-m-preserved
examine-loop-m-preserved t c = (action_fails c.requires c.loop-m.invariant.0 c.in-Some.ensures.steps.0 c.in-Some.ensures.steps.1 c.outcomes.ensures _ c.in-Failed.is c.in-Some.ensures.steps.2, c.outcomes.auto.memory ∙ c.loop-m.invariant.1)

pub examine-overflow_sub-c : goal.examine-overflow_sub-c
examine-overflow_sub-c t c = omega (arith, c.loop-m.invariant.0.counted)

pub examine-note-requires-2 : goal.examine-note-requires-2
examine-note-requires-2 t c = let x = c.requires.examinable in let i = c.loop-m.invariant.0 in (i.remembers.long, x.shallow, omega (arith, i.within, c.args.instance.now.matching.ready.small_budget), omega arith)

pub examine-returns : goal.examine-returns
examine-returns t c = examining_ends c.requires c.loop-m.invariant.0 c.in-None.ensures.steps c.note-2.ensures

pub outcomes-loop-k-init : goal.outcomes-loop-k-init
outcomes-loop-k-init t c = (following_begins c.requires c.left_after-left.ensures c.outcome_count-k-end.ensures, refl)

pub outcomes-look-requires : goal.outcomes-look-requires
outcomes-look-requires t c = outcome_examinable c.requires c.left_after-left.ensures c.outcome_count-k-end.ensures c.loop-k.invariant.0 c.loop-k-test.true c.successor-s.ensures c.rest_of-rest.ensures.0 c.sum_with.ensures

pub outcomes-returns-in-Some-Stopped : goal.outcomes-returns-in-Some-Stopped
outcomes-returns-in-Some-Stopped t c = rw c.in-Some-Stopped.e-is (outcome_stops c.requires c.left_after-left.ensures c.outcome_count-k-end.ensures c.loop-k.invariant.0 c.loop-k-test.true c.successor-s.ensures (seen_decided (outcome_examinable c.requires c.left_after-left.ensures c.outcome_count-k-end.ensures c.loop-k.invariant.0 c.loop-k-test.true c.successor-s.ensures c.rest_of-rest.ensures.0 c.sum_with.ensures) c.look.ensures _ c.in-Some-Stopped.is) _ c.in-Some-Stopped.field-0-is)

pub outcomes-returns-in-Some-Failed : goal.outcomes-returns-in-Some-Failed
outcomes-returns-in-Some-Failed t c = rw c.in-Some-Failed.e-is (outcome_fails c.requires c.left_after-left.ensures c.outcome_count-k-end.ensures c.loop-k.invariant.0 c.loop-k-test.true c.successor-s.ensures (seen_decided (outcome_examinable c.requires c.left_after-left.ensures c.outcome_count-k-end.ensures c.loop-k.invariant.0 c.loop-k-test.true c.successor-s.ensures c.rest_of-rest.ensures.0 c.sum_with.ensures) c.look.ensures _ c.in-Some-Failed.is) _ c.in-Some-Failed.field-0-is)

pub outcomes-overflow_add-n : goal.outcomes-overflow_add-n
outcomes-overflow_add-n t c = omega (arith, outcome_small c.requires c.left_after-left.ensures c.outcome_count-k-end.ensures c.loop-k.invariant.0 c.loop-k-test.true c.successor-s.ensures (seen_decided (outcome_examinable c.requires c.left_after-left.ensures c.outcome_count-k-end.ensures c.loop-k.invariant.0 c.loop-k-test.true c.successor-s.ensures c.rest_of-rest.ensures.0 c.sum_with.ensures) c.look.ensures _ c.in-Some-Succeeded.is) _ _ _ c.in-Some-Succeeded.field-0-is)

pub outcomes-examine-requires : goal.outcomes-examine-requires
outcomes-examine-requires t c = let y = c.args in let p = c.requires in
    (omega (arith, c.left_after-left.ensures, y.instance.now.matching.ready.weights y.m p.1, p.3, c.decreases), seen_open (outcome_examinable c.requires c.left_after-left.ensures c.outcome_count-k-end.ensures c.loop-k.invariant.0 c.loop-k-test.true c.successor-s.ensures c.rest_of-rest.ensures.0 c.sum_with.ensures) c.look.ensures c.in-None.is)

pub outcomes-returns-in-Stopped : goal.outcomes-returns-in-Stopped
outcomes-returns-in-Stopped t c = outcome_stops c.requires c.left_after-left.ensures c.outcome_count-k-end.ensures c.loop-k.invariant.0 c.loop-k-test.true c.successor-s.ensures (c.examine.ensures) _ c.in-Stopped.is

pub outcomes-returns-in-Failed : goal.outcomes-returns-in-Failed
outcomes-returns-in-Failed t c = outcome_fails c.requires c.left_after-left.ensures c.outcome_count-k-end.ensures c.loop-k.invariant.0 c.loop-k-test.true c.successor-s.ensures (c.examine.ensures) _ c.in-Failed.is

pub outcomes-overflow_add-n-in-Succeeded : goal.outcomes-overflow_add-n-in-Succeeded
outcomes-overflow_add-n-in-Succeeded t c = omega (arith, outcome_small c.requires c.left_after-left.ensures c.outcome_count-k-end.ensures c.loop-k.invariant.0 c.loop-k-test.true c.successor-s.ensures (c.examine.ensures) _ _ _ c.in-Succeeded.is)

pub outcomes-loop-k-preserved : goal.outcomes-loop-k-preserved
outcomes-loop-k-preserved t c = let i = c.loop-k.invariant.1 in elim c.match-look.branch [
  | outcomes-in-Some-Succeeded w ↦ (rw (w.memory-is, w.c-is, w.n-is, w.in-Some-Succeeded.e-is, w.in-Some-Succeeded.size-is) (outcome_succeeds c.requires c.left_after-left.ensures c.outcome_count-k-end.ensures c.loop-k.invariant.0 c.loop-k-test.true c.successor-s.ensures (seen_decided (outcome_examinable c.requires c.left_after-left.ensures c.outcome_count-k-end.ensures c.loop-k.invariant.0 c.loop-k-test.true c.successor-s.ensures c.rest_of-rest.ensures.0 c.sum_with.ensures) c.look.ensures _ w.in-Some-Succeeded.is) _ _ _ w.in-Some-Succeeded.field-0-is), ap length w.memory-is ∙ i)
  | outcomes-in-None+in-Succeeded w ↦ (rw (w.memory-is, w.c-is, w.n-is) (outcome_succeeds c.requires c.left_after-left.ensures c.outcome_count-k-end.ensures c.loop-k.invariant.0 c.loop-k-test.true c.successor-s.ensures (w.examine.ensures) _ _ _ w.in-Succeeded.is), ap length w.memory-is ∙ w.examine.auto.memory ∙ i)
]

pub outcomes-returns : goal.outcomes-returns
outcomes-returns t c = following_ends c.loop-k.invariant.0 c.loop-k-test.false
