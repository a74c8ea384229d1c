-- `reader::blank::clear_actions` meets its contract: the actions so far are cleared. Assumes nothing.
use mathlib.Core.Path.{◌≡◌}
use Rattle.reader.specs.Stores.{clear_actions}
use Rattle.reader.proofs.blank.clear_actions.Given as goal

abbrev pub invariant-loop-m : goal.invariant-loop-m
invariant-loop-m l = l.r ≡ clear_actions l.m l.initial.r
