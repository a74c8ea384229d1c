-- `reader::quick_items::short_number` meets its contract: one digit, two, three, or none that is known for good. Assumes nothing.
use lib.ListN.{get_or, length-drop}
use mathlib.Core.Path.{◌≡◌, refl}
use Prim.Native.Nat.{◌+◌, ◌-◌, ◌*◌}
use native.Mathlib.Omega.{arith}
use Rattle.task_record.proofs.Rest.{part_rest}
use Rattle.reader.proofs.QuickNumbers.{one-digit, two_digits, three_digits}
use Rattle.reader.proofs.quick_items.short_number.Goals as goal

pub returns-then-not-is_ascii_digit-2 : goal.returns-then-not-is_ascii_digit-2
returns-then-not-is_ascii_digit-2 c =
    let s = c.args.s.now in
    let d = c.if-not-is_ascii_digit.ensures.cases in
    (omega (arith, d.1), rw (part_rest s 1, length-drop) (omega arith), rw (part_rest s 1) (one-digit s _ refl d.0 (omega (arith, d.1)) (omega (arith, c.requires))))

pub returns-then-not-is_ascii_digit-3 : goal.returns-then-not-is_ascii_digit-3
returns-then-not-is_ascii_digit-3 c =
    let s = c.args.s.now in
    let d = c.if-not-is_ascii_digit.ensures.cases in
    let e = c.if-not-is_ascii_digit-2.ensures.cases in
    (omega (arith, d.1, e.1), rw (part_rest s 2, length-drop) (omega arith), rw (part_rest s 2) (two_digits s _ refl d.0 (omega (arith, d.1)) _ refl e.0 (omega (arith, e.1)) c.if-a-eq48.false (omega (arith, c.requires))))

pub returns-in-Ok : goal.returns-in-Ok
returns-in-Ok c =
    let s = c.args.s.now in
    let d = c.if-not-is_ascii_digit.ensures.cases in
    let e = c.if-not-is_ascii_digit-2.ensures.cases in
    let f = c.if-not-is_ascii_digit-3.ensures.cases in
    let n = c.in-Ok.ensures in
    let told : c.in-Ok.n ≡ 10 * (10 * (get_or s 0 0 - 48) + (get_or s 1 0 - 48)) + (get_or s 2 0 - 48) = omega (arith, n.1, c.from.ensures, c.from-2.ensures) in (
      omega (arith, n.0, n.1),
      rw (part_rest s 3, length-drop) (omega arith),
      rw (part_rest s 3, told)
          (three_digits s _ refl d.0 (omega (arith, d.1)) _ _ refl e.0 (omega (arith, e.1)) refl f.0 (omega (arith, f.1)) c.if-a-eq48.false (omega (arith, c.requires))),
    )
