-- `misfit`: the wrapped sum is the window's own. Assumes nothing.
use Rattle.std.proofs.Common.{◌+◌, ◌%◌, eqb, leb, arith, eq-eqb, eqb-true, le-leb, leb-true}
use Rattle.task_record.specs.Window.{fits}
use Rattle.task_record.proofs.Tests.{same_test}
use Rattle.task_record.proofs.columns.misfit.Goals as goal

pub returns : goal.returns
unfolding fits
returns c =
    let s = c.args in let m = (s.x + s.shift) % 256 in let d = c.saturating_sub.result in
    same_test (eqb d 0) (leb m s.top)
    (λ h. let e = eqb-true d 0 h in le-leb m s.top (omega arith))
    (λ h. let l = leb-true m s.top h in eq-eqb d 0 (omega arith))
