-- `reader::blank::clear_record` meets its contract: its stores make the blank record. Assumes nothing.
use Prim.Native.Nat.{◌-◌, ℕ}
use borrow.Author.Rules.{rules}
use lib.ListN.{replicate}
use lib.Seq.{sets}
use mathlib.Core.List.{List}
use mathlib.Core.Path.{◌∙◌, ap}
use Rattle.task_record.specs.Layout.{record_size, at_action, at_cost, at_goal, at_pattern}
use Rattle.reader.specs.Stores.{clear_actions}
use Rattle.reader.proofs.Stores.{blank_by_stores, fill_whole}
use Rattle.reader.proofs.blank.clear_record.Goals as goal

pub returns : goal.returns
returns c = c.clear_actions.ensures
    ∙ ap (clear_actions 64)
    (c.fill-4.ensures
    ∙ ap (λ (x : List ℕ). sets x (at_cost 0) (replicate (record_size - at_cost 0) 0))
    (c.fill-3.ensures
    ∙ rw (c.at_pattern.ensures, c.at_action.ensures, c.at_pattern-2.ensures)
    (ap (λ (x : List ℕ). sets x (at_pattern 0) (replicate (at_action 0 - at_pattern 0) 0))
    (c.fill-2.ensures ∙ ap (λ (x : List ℕ). sets x 0 (replicate at_goal 0)) (c.fill.ensures ∙ fill_whole c.args.r.now (search rules))))))
    ∙ blank_by_stores
