-- `reader::quick_lines::quick_number_line` meets its contract: the key, a number of up to three digits, the line break, the range. Assumes nothing.
use native.Mathlib.Omega.{arith}
use Rattle.task_record.proofs.Rest.{part_rest}
use Rattle.reader.proofs.QuickLines.{number_at}
use Rattle.reader.proofs.quick_lines.quick_number_line.Goals as goal

pub returns : goal.returns
returns c =
    let a = c.args in
    let b = c.in_ok-value.ensures in
    let v = c.in_ok-value.value.now in
    let i = c.in_ok-number.number in
    let n = c.in_ok-number.ensures in
    rw (part_rest i.rest.now 1) record {
      value = v;
      had = b.0;
      stands = number_at v i.rest.now a.field.low a.field.high a.rec.now a.field.at i.read _ n.2 (omega (arith, n.0)) (omega (arith, b.1, n.1)) c.if-rest-ne-LINE_BREAK.false
          c.if-x-field.false c.if-field-x.false c.store.ensures.0 c.store.ensures.1;
    }
