-- `search::rounds::deepen` meets its contract. Invariant: the rounds left from the count so far are the whole. Assumes nothing.
use Rattle.std.proofs.Common.{refl, ◌∙◌, arith}
use Rattle.search.proofs.Conclusions.{ends_over, ends_spent, rounds-over, round_stops, round_found, round_fails}
use Rattle.search.proofs.Endings.{success_of_ending, failure_of_ending, stop_of_ending}
use Rattle.search.proofs.rounds.deepen.Goals as goal

pub loop-d-init : goal.loop-d-init
loop-d-init c = let p = c.requires in (refl, p.startable.within, p.remembers, refl, omega (arith, p.startable.shallow), refl)

pub returns-then-is_outgrown : goal.returns-then-is_outgrown
returns-then-is_outgrown c = let i = c.loop-d.invariant in
    record { same = i.0; within = omega (arith, c.loop-d-test.true); counted = i.1; many = c.is_outgrown.ensures c.if-is_outgrown.true }

pub examine_any-requires : goal.examine_any-requires
examine_any-requires c = let p = c.requires in let i = c.loop-d.invariant in
    record { remembers = i.2; within = i.1; shallow = omega (arith, c.loop-d-test.true, p.startable.limited); valued = p.startable.valued }

pub returns-in-Stopped : goal.returns-in-Stopped
returns-in-Stopped c = let i = c.loop-d.invariant in let h = rw c.in-Stopped.is at c.examine_any.ensures in
    rw (c.from-in-Stopped.ensures, c.from.ensures, ← i.5) (ends_spent _ _ _ c.clear.ensures _ _ (round_stops _ _ _ _ _ _ _ _ i.0 (omega (arith, c.loop-d-test.true)) _ (stop_of_ending _ _ h).0))

pub answer_found-requires : goal.answer_found-requires
answer_found-requires c = let i = c.loop-d.invariant in let h = rw c.in-Succeeded.is at c.examine_any.ensures in
    (h.remembers, omega (arith, c.loop-d-test.true, c.requires.startable.limited), (_, round_found _ _ _ _ _ i.0 (omega (arith, c.loop-d-test.true)) c.args.instance.now.matching.ready.small_budget _ _ _ (success_of_ending _ _ _ _ h)))

pub returns-in-Succeeded : goal.returns-in-Succeeded
returns-in-Succeeded c = let i = c.loop-d.invariant in let h = rw c.in-Succeeded.is at c.examine_any.ensures in
    rw (← i.5) (c.answer_found.ensures _ (round_found _ _ _ _ _ i.0 (omega (arith, c.loop-d-test.true)) c.args.instance.now.matching.ready.small_budget _ _ _ (success_of_ending _ _ _ _ h)))

pub loop-d-preserved : goal.loop-d-preserved
loop-d-preserved c = let i = c.loop-d.invariant in let h = rw c.in-Failed.is at c.examine_any.ensures in let q = failure_of_ending _ _ h in
    (round_fails _ _ _ _ _ _ _ _ i.0 (omega (arith, c.loop-d-test.true)) _ q.0, q.2, h.remembers, c.examine_any.auto.memory ∙ i.3, omega (arith, c.loop-d-test.true, c.requires.startable.limited), i.5)

pub returns : goal.returns
returns c = let i = c.loop-d.invariant in rw (c.from-2.ensures, ← i.5) (ends_over _ _ _ c.clear-2.ensures _ (rounds-over _ _ _ _ _ _ _ _ i.0 (omega (arith, c.loop-d-test.false))))
