-- `front_fault`: each of the three windows. Assumes nothing.
use Rattle.std.proofs.Common.{sym, ◌∙◌, eq-eqb}
use lib.Bits.{bit_or}
use Rattle.task_record.proofs.ColumnLaws.{or_zero_left, or_zero_right}
use Rattle.task_record.proofs.columns.front_fault.Goals as goal

pub returns : goal.returns
returns c =
    let misfit = c.misfit in
    let misfit2 = c.misfit-2 in
    let value-fault = c.value_fault in
    λ h.
    let front = or_zero_left (bit_or misfit.result misfit2.result) value-fault.result h in (
      sym misfit.ensures ∙ eq-eqb _ _ (or_zero_left misfit.result misfit2.result front),
      sym misfit2.ensures ∙ eq-eqb _ _ (or_zero_right misfit.result misfit2.result front),
      sym value-fault.ensures ∙ eq-eqb _ _ (or_zero_right (bit_or misfit.result misfit2.result) value-fault.result h),
    )
