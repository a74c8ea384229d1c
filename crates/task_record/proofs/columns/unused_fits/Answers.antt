-- `unused_fits`: an action that is not used and names nothing is passed whole. Assumes nothing.
use Rattle.std.proofs.Common.{◌≡◌, ℕ, get_or, arith, rules}
use Rattle.task_record.proofs.ColumnLaws.{action_passes, no_rows}
use Rattle.task_record.proofs.columns.unused_fits.Goals as goal

pub returns-then-record-a-ne0 : goal.returns-then-record-a-ne0
returns-then-record-a-ne0 c = λ t. let z : ◌≡◌ {A = ℕ} 0 1 = cc in absurd (omega arith)

pub nine_fit-requires : goal.nine_fit-requires
nine_fit-requires c =
    let l = c.args.record.now.passed.long in search rules

pub returns : goal.returns
returns c =
    let p = c.args.record.now.passed in
    let r = c.args.record.now.rec.now in let m = c.args.m in
    let empty : get_or r c.at_action-a.result 0 ≡ 0 = omega (arith, c.if-record-a-ne0.false) in
    λ t. action_passes r p.byte p.right m 0 c.requires.1 (no_rows r m c.requires.1 c.requires.0 (rw c.at_action-a.ensures at empty))
    (λ v l. rw (c.at_action-a.ensures, p.read.cell v l) at (c.nine_fit.ensures t v l))
