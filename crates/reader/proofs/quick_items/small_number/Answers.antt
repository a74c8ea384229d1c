-- `reader::quick_items::small_number` meets its contract: one digit, or two of which the first is 1. Assumes nothing.
use lib.ListN.{length-drop}
use mathlib.Core.Path.{refl}
use native.Mathlib.Omega.{arith}
use Rattle.task_record.proofs.Rest.{part_rest}
use Rattle.reader.proofs.QuickNumbers.{one-digit, teen_digits}
use Rattle.reader.proofs.quick_items.small_number.Goals as goal

pub returns-then-not-is_ascii_digit : goal.returns-then-not-is_ascii_digit
returns-then-not-is_ascii_digit c =
    let s = c.args.s.now in
    let d = c.if-not-is_ascii_digit-2.ensures.cases in
    (omega (arith, d.1, c.from.ensures), rw (part_rest s 1, length-drop) (omega arith), rw (part_rest s 1, c.from.ensures) (one-digit s _ refl d.0 (omega (arith, d.1)) (omega (arith, c.requires))))

pub returns : goal.returns
returns c =
    let s = c.args.s.now in
    let d = c.if-not-is_ascii_digit.ensures.cases in
    (omega (arith, d.1, c.from-2.ensures), rw (part_rest s 2, length-drop) (omega arith), rw (part_rest s 2, c.from-2.ensures) (teen_digits s _ c.if-a-ne49.false refl d.0 (omega (arith, d.1)) (omega (arith, c.requires))))
