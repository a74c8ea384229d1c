-- `search::estimate::value_of` meets its contract. The loop's invariant: the sum so far and what is left make the value. Assumes nothing.
use Rattle.std.proofs.Common.{sym, arith}
use native.Mathlib.Nat.{sub-zero}
use Rattle.patterns.specs.Value.{value_of}
use Rattle.search.specs.Value.{packed_value}
use Rattle.search.proofs.EntrySums.{entry_found, value_grows, value_infinite, value_whole, nothing_joins}
use Rattle.search.proofs.estimate.value_of.Goals as goal

pub loop-p-init : goal.loop-p-init
unfolding packed_value
loop-p-init c = (rw sub-zero (sym (nothing_joins _)), omega arith, omega arith)

pub returns-then-e-eq-INFINITE : goal.returns-then-e-eq-INFINITE
unfolding value_of
returns-then-e-eq-INFINITE c = let l = c.loop-p in
    let e = entry_found _ _ _ _ _ _ _ c.index_of.ensures.0 c.cost_at-e.ensures.0 in
    rw (value_infinite _ _ _ _ _ _ _ l.sum _ l.invariant.0 c.loop-p-test.true e c.if-e-eq-INFINITE.true)

pub loop-p-preserved : goal.loop-p-preserved
loop-p-preserved c = let l = c.loop-p in
    let e = entry_found _ _ _ _ _ _ _ c.index_of.ensures.0 c.cost_at-e.ensures.0 in
    (value_grows _ _ _ _ _ _ _ l.sum _ l.invariant.0 c.loop-p-test.true e c.if-e-eq-INFINITE.false, omega arith, omega arith)

pub returns : goal.returns
unfolding value_of
returns c = let l = c.loop-p in
    rw (value_whole _ _ _ _ _ _ 0 l.sum _ l.invariant.0 c.loop-p-test.false)
