-- `reader::blank::clear_actions` meets its contract: the actions so far are cleared. Assumes nothing.
use lib.ListN.{set}
use mathlib.Core.List.{List}
use mathlib.Core.Path.{◌∙◌, ◌≡◌, ap, sym}
use native.Mathlib.Omega.{arith}
use Prim.Native.Nat.{ℕ}
use Rattle.task_record.specs.Layout.{at_action}
use Rattle.reader.specs.Stores.{clear_actions}
use Rattle.reader.proofs.Stores.{clear_none, clear_step}
use Rattle.reader.proofs.blank.clear_actions.Goals as goal

pub loop-m-init : goal.loop-m-init
loop-m-init c = sym (clear_none c.args.r.now)

pub loop-m-preserved : goal.loop-m-preserved
loop-m-preserved c =
    let l = c.loop-m in
    c.put.ensures ∙ rw c.at_action.ensures (ap (λ (x : List ℕ). set x (at_action l.m) 0) l.invariant) ∙ clear_step l.m c.args.r.now

pub returns : goal.returns
returns c =
    let e : c.loop-m.m ≡ c.args.n = omega arith in
    c.loop-m.invariant ∙ ap (λ (k : ℕ). clear_actions k c.args.r.now) e
