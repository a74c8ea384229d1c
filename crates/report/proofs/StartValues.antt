-- The value of the start on the tables that a search leaves: the value call refuses nothing there and answers the summed estimate.
-- Assumes nothing.
use mathlib.Core.Path.{◌≡◌, ap, ◌∙◌}
use mathlib.Core.List.{List}
use Prim.Native.Nat.{ℕ, ◌≤◌}
use native.Mathlib.Omega.{arith}
use borrow.Author.Tests.{leb-true}
use lib.ListN.{length, drop}
use lib.Seq.{take-take}
use Rattle.planning.specs.Pattern.{Additive}
use Rattle.planning.specs.Table.{estimate, Small}
use Rattle.planning.proofs.Verdict.{verdict-additive}
use Rattle.std.proofs.Common.{Ok}
use Rattle.task_record.specs.Layout.{at_start, at_budget}
use Rattle.task_record.specs.Numbers.{variable_count, budget_of}
use Rattle.task_record.specs.Record.{head_ok, cell_ok, record_check, Sound}
use Rattle.task_record.specs.State.{state_check}
use Rattle.task_record.specs.TaskOf.{cells_at, task_of, patterns_of, start_of, values_of}
use Rattle.task_record.proofs.Soundness.{sound_cell}
use Rattle.task_record.proofs.SoundTask.{variables_right}
use Rattle.task_record.proofs.States.{start_good, good_checked}
use Rattle.patterns.specs.Space.{entries_needed}
use Rattle.patterns.specs.Estimate.{judge_estimate, estimate_check}
use Rattle.patterns.specs.Value.{value_of, state_value}
use Rattle.patterns.proofs.Built.{call_on_built}
use Rattle.patterns.proofs.Refusals.{after_ok, ready_means}
use Rattle.patterns.proofs.Room.{fits_small}
use Rattle.tables.specs.RecordTables.{built_over, tables_prepared}

module _ (r : List ℕ) (lent : ℕ) (ready : estimate_check r lent ≡ Ok tt) where
  pub ready_sound : Sound r
  unfolding Sound
  ready_sound = (after_ok (record_check r) (λ u. judge_estimate r lent) tt ready).1

  ready_judged : judge_estimate r lent ≡ Ok tt
  ready_judged = (after_ok (record_check r) (λ u. judge_estimate r lent) tt ready).2

  ready_small : Small (task_of r) (patterns_of r)
  unfolding Small
  ready_small = let k = ready_means r lent ready_judged in fits_small (task_of r).sizes (patterns_of r) lent k.0.0 k.0.1

  ready_additive : Additive (task_of r) (patterns_of r)
  ready_additive = (verdict-additive (task_of r) (patterns_of r)).0 (ready_means r lent ready_judged).1

  start_checked : state_check r (cells_at r at_start) ≡ Ok tt
  start_checked = good_checked r (cells_at r at_start) ready_sound (start_good r ready_sound)

  start_values : values_of r (cells_at r at_start) ≡ start_of r
  unfolding values_of start_of
  start_values = let v = variables_right r ready_sound in take-take (variable_count r) 16 (drop at_start r) (omega arith)

  pub ready_budget : budget_of r ≤ 1000000
  unfolding cell_ok head_ok
  ready_budget = leb-true (budget_of r) 1000000 (sound_cell r ready_sound at_budget (omega arith))

pub value_of-start : (r tabs : List ℕ) → estimate_check r (length tabs) ≡ Ok tt →
    state_value r (cells_at r at_start) (tables_prepared r tabs) ≡ Ok (value_of (estimate (task_of r) (patterns_of r) (start_of r)))
unfolding built_over
value_of-start r tabs ready =
    rw ready
    (call_on_built r (cells_at r at_start) (drop (entries_needed (task_of r).sizes (patterns_of r)) tabs) (start_checked r (length tabs) ready) (ready_small r (length tabs) ready) (ready_additive r (length tabs) ready)
    ∙ ap (λ (s : List ℕ). Ok (value_of (estimate (task_of r) (patterns_of r) s))) (start_values r (length tabs) ready))
