-- `search::rounds::run_from`, which calls itself where the count has passed the small memory, meets its contract: the rounds that are left are the whole. Assumes nothing.
use Rattle.std.proofs.Common.{arith}
use Rattle.search.proofs.rounds.+run_from.Goals as goal

pub run_from-requires : goal.run_from-requires
run_from-requires t c = let p = c.requires in let f = rw c.in-Err.is at c.run_with.ensures in
    (omega (arith, f.many, c.decreases, c.if-v-gt-MOST.false), record { within = f.counted; shallow = omega (arith, f.within, p.limited); limited = p.limited; valued = p.valued })

pub returns-in-Ok : goal.returns-in-Ok
returns-in-Ok t c = rw c.in-Ok.is at c.run_with.ensures

pub returns-in-Err : goal.returns-in-Err
returns-in-Err t c = let f = rw c.in-Err.is at c.run_with.ensures in rw (f.same, ← c.run_with.auto.plan) c.run_from.ensures
