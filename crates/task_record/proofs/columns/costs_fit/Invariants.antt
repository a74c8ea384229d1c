-- `costs_fit`: no fault was gathered only if each cost so far is there exactly where its action is used. Assumes nothing.
use Rattle.std.proofs.Common.{◌≡◌, ℕ, ◌<◌, ◌≤◌, ltb, get_or}
use Rattle.task_record.specs.Layout.{at_cost}
use Rattle.task_record.proofs.columns.costs_fit.Given as goal

abbrev pub invariant-loop-m : goal.invariant-loop-m
invariant-loop-m l =
    let r = l.rec in (l.m ≤ 64) × (l.bad ≡ 0 → (k : ℕ) → k < l.m → ltb 0 (get_or r (at_cost k) 0) ≡ ltb k l.used)
