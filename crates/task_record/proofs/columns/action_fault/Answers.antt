-- `action_fault`: the used cells passed, moved up by 1, are at most the highest, and the others at least what they have in common.
-- Assumes nothing.
use Rattle.std.proofs.Common.{ℕ, ◌+◌, ◌-◌, ◌*◌, ◌%◌, get_or, arith, le-leb}
use lib.Bits.{bit_and, and_le_l, and_le_r}
use Rattle.task_record.specs.Window.{fits}
use Rattle.task_record.proofs.ColumnLaws.{raised, lowered, or_zero_left, or_zero_right}
use Rattle.task_record.proofs.columns.action_fault.Goals as goal

pub loop-j-init : goal.loop-j-init
loop-j-init c = (omega arith, λ k g l. absurd (omega arith))

pub loop-j-preserved : goal.loop-j-preserved
loop-j-preserved c =
    let args = c.args in
    let loop = c.loop-j in
    let s = args in
    (omega arith, raised (λ (k : ℕ). (get_or s.c.now (s.a + 16 * k) 0 + 1) % 256) 0 loop.j loop.high _ (omega arith) (omega arith) loop.invariant.1)

pub loop-j-2-init : goal.loop-j-2-init
loop-j-2-init c =
    let pre = c.requires in
    let p = pre in
    (omega arith, omega arith, λ k g l. absurd (omega arith))

pub loop-j-2-preserved : goal.loop-j-2-preserved
loop-j-2-preserved c =
    let args = c.args in
    let loop2 = c.loop-j-2 in
    let s = args in let x = get_or s.c.now (s.a + 16 * loop2.j) 0 in
    (omega arith, omega arith, lowered (λ (k : ℕ). get_or s.c.now (s.a + 16 * k) 0) s.used loop2.j loop2.low (bit_and loop2.low x) (and_le_l loop2.low x) (and_le_r loop2.low x) loop2.invariant.2)

pub returns : goal.returns
unfolding fits
returns c =
    let args = c.args in
    let loop = c.loop-j in
    let loop-test = c.loop-j-test in
    let loop2 = c.loop-j-2 in
    let loop2-test = c.loop-j-2-test in
    let s = args in let i = loop.invariant in let n = loop2.invariant in let t = loop-test.false in let u = loop2-test.false in
    λ h.
    let z = or_zero_left c.saturating_sub.result (255 - loop2.low) h in let y = or_zero_right c.saturating_sub.result (255 - loop2.low) h in
    record {
      named = λ j l. let b = i.1 j (omega arith) (omega arith) in le-leb ((get_or s.c.now (s.a + 16 * j) 0 + 1) % 256) s.size (omega arith);
      unnamed = λ j g l. let b = n.2 j g (omega arith) in omega arith;
    }
