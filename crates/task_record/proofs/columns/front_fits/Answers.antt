-- `front_fits`: sizes, goal and start are right of each variable whose test answered 0. Assumes nothing.
use Rattle.std.proofs.Common.{◌≡◌, ◌+◌, ◌-◌, true, get_or, sym, ◌∙◌, arith, rules}
use lib.Bits.{bit_and}
use Rattle.task_record.specs.Layout.{at_goal, at_start}
use Rattle.task_record.specs.Numbers.{variable_count}
use Rattle.task_record.specs.Window.{fits}
use Rattle.task_record.proofs.ColumnLaws.{front_passes, ramp_cell, ramp_window}
use Rattle.task_record.proofs.columns.front_fits.Goals as goal

pub returns : goal.returns
returns c =
    let pre = c.requires in
    let args = c.args in
    let ramp = c.ramp-from in
    let variable-count = c.variable_count in
    let r = args.record.now.cells.now in let s = args.sizes.now in let z = pre.0 in let w = c.from.result in let n : w ≡ variable_count r = omega (arith, c.from.ensures, variable-count.ensures) in
    let f = ramp.result in let d = 16 - w in
    λ h. front_passes r c.args.record.now.byte (λ v l.
    let ran = c.faultless.ensures h v l in
    let said : (fits (get_or s v 0) (bit_and (get_or f (d + v) 0) 254) (bit_and (get_or f (d + v) 0) 14) ≡ true) × (fits (get_or r (at_goal + v) 0) 1 (get_or s v 0) ≡ true) × (fits (get_or r (at_start + v) 0) (1 - get_or s v 0) (get_or s v 0 - 1) ≡ true) = search rules in
    let q = rw (z.cell v l, ramp_cell ramp.result ramp.ensures w v (omega (arith, n, pre.1)) l) at said in
    (rw n at (sym (ramp_window _ v w) ∙ q.0), q.1, q.2))
