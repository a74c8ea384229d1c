-- `common_cell`: the cells passed are at least what they have in common. Assumes nothing.
use Rattle.std.proofs.Common.{ℕ, ◌+◌, ◌*◌, get_or, refl, arith}
use lib.Bits.{bit_and, and_le_l, and_le_r}
use Rattle.planning.specs.Pattern.{counted_cell}
use Rattle.task_record.proofs.ColumnLaws.{lowered}
use Rattle.patterns.proofs.verdict.common_cell.Goals as goal

pub loop-k-init : goal.loop-k-init
loop-k-init c = (λ i a b. absurd (omega arith), λ h. refl)

pub loop-k-preserved : goal.loop-k-preserved
loop-k-preserved c = let l = c.loop-k in let r = c.args.rec.now in let x = counted_cell c.args.need (get_or r (c.args.at + 16 * l.k) 0) in rw c.counted_cell-low.ensures (
  lowered (λ (i : ℕ). counted_cell c.args.need (get_or r (c.args.at + 16 * i) 0)) 0 l.k l.low (bit_and l.low x) (and_le_l l.low x) (and_le_r l.low x) l.invariant.0,
  λ h. rw (l.invariant.1 (λ i b. h i (omega arith)), h l.k (omega arith)),
)
