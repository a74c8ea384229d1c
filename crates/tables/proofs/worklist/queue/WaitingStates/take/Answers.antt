-- `tables::worklist::queue::WaitingStates::take` meets its contract. Assumes nothing.
use Rattle.std.proofs.Common.{◌≡◌, length, refl, arith, rules}
use Rattle.tables.proofs.Queue.{some_waits, taken_in, taken}
use Rattle.tables.proofs.worklist.queue.WaitingStates.take.Goals as goal

pub bounds-self-j : goal.bounds-self-j
bounds-self-j g c = let s = c.args.self.now in let h : length s.marks ≡ g.row.N = search rules in
    omega (arith, h, taken_in s.waits _ (c.waiting_one-j.ensures (some_waits s.waits (omega (arith, c.if-self-eq0.false)))))

pub invariant_of-self : goal.invariant_of-self
invariant_of-self g c = let s = c.args.self.now in
    record { small = s.small; waits = (taken s.waits _ (c.waiting_one-j.ensures (some_waits s.waits (omega (arith, c.if-self-eq0.false))))).queue }

pub returns-clause-taken : goal.returns-clause-taken
returns-clause-taken g c = let s = c.args.self.now in
    (taken s.waits _ (c.waiting_one-j.ensures (some_waits s.waits (omega (arith, c.if-self-eq0.false)))), omega (arith, c.if-self-eq0.false), refl)
