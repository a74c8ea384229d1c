-- `member_fault`: the cells passed are at most what was gathered of them. Assumes nothing.
use Rattle.std.proofs.Common.{ℕ, ◌+◌, ◌*◌, get_or, arith}
use lib.Bits.{bit_or}
use Rattle.task_record.proofs.ColumnLaws.{raised, or_zero_left, or_zero_right, or_ge_left, or_ge_right}
use Rattle.task_record.proofs.columns.member_fault.Goals as goal

pub loop-j-init : goal.loop-j-init
loop-j-init c = (omega arith, λ k g l. absurd (omega arith))

pub loop-j-preserved : goal.loop-j-preserved
loop-j-preserved c =
    let args = c.args in
    let loop = c.loop-j in
    let s = args in let x = get_or s.c.now (s.a + 16 * loop.j) 0 in
    (omega arith, raised (λ (k : ℕ). get_or s.c.now (s.a + 16 * k) 0) 0 loop.j loop.high (bit_or loop.high x) (or_ge_left loop.high x) (or_ge_right loop.high x) loop.invariant.1)

pub loop-j-2-init : goal.loop-j-2-init
loop-j-2-init c =
    let pre = c.requires in
    let p = pre in
    (omega arith, omega arith, λ k g l. absurd (omega arith))

pub loop-j-2-preserved : goal.loop-j-2-preserved
loop-j-2-preserved c =
    let args = c.args in
    let loop2 = c.loop-j-2 in
    let s = args in let x = get_or s.c.now (s.a + 16 * loop2.j) 0 in
    (omega arith, omega arith, raised (λ (k : ℕ). get_or s.c.now (s.a + 16 * k) 0) s.used loop2.j loop2.rest (bit_or loop2.rest x) (or_ge_left loop2.rest x) (or_ge_right loop2.rest x) loop2.invariant.2)

pub returns : goal.returns
returns c =
    let loop = c.loop-j in
    let loop2 = c.loop-j-2 in
    let i = loop.invariant in let n = loop2.invariant in let t = c.loop-j-test.false in let u = c.loop-j-2-test.false in
    let o = c.saturating_sub-3.result in
    λ h.
    let z = or_zero_left o loop2.rest h in let y = or_zero_right o loop2.rest h in
    record {
      used_cell = λ j l. let b = i.1 j (omega arith) (omega arith) in omega arith;
      unused_cell = λ j g l. let b = n.2 j g (omega arith) in omega arith;
    }
