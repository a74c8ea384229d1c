-- `packed_task::applying::fill_sets` meets its contract. Assumes nothing.
use Rattle.std.proofs.Common.{leb, arith, leb→le}
use Rattle.planning.proofs.Test.{not_T_false}
use Rattle.task_record.proofs.Sixteens.{zeros}
use Rattle.packed_task.specs.Sets.{sets_filled}
use Rattle.packed_task.proofs.SetsFilled.{filled_as_defined}
use Rattle.packed_task.proofs.applying.fill_sets.Goals as goal

pub returns-then-actions-gt64 : goal.returns-then-actions-gt64
unfolding sets_filled
returns-then-actions-gt64 c = rw (not_T_false (leb c.args.actions 64) (λ t. absurd (omega (arith, leb→le c.args.actions 64 t))))

pub enter_all-requires : goal.enter_all-requires
enter_all-requires c = (omega arith, omega (arith, c.met_bytes-n.ensures.1), zeros 272)

pub returns : goal.returns
returns c = let e = c.met_bytes-n.ensures.0 in filled_as_defined _ _ _ _ _ _ _ (omega arith) (rw e at c.enter_all.ensures) (rw e at c.fill_rows.ensures)
