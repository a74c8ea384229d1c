-- `report::lines::Lines::put_rest` meets its contract: the first numbers are written, each in at most four bytes. Assumes nothing.
use native.Mathlib.Omega.{arith}
use lib.Seq.{take_all}
use Rattle.report.proofs.Commas.{commas_more, commas_of_none}
use Rattle.report.proofs.Decimals.{byte-length}
use Rattle.report.proofs.Stored.{puts_nothing, puts_then}
use Rattle.report.proofs.lines.Lines.put_rest.Goals as goal

pub loop-b-init : goal.loop-b-init
loop-b-init c = record { written = rw commas_of_none (puts_nothing _); short = omega arith }

pub loop-b-preserved : goal.loop-b-preserved
loop-b-preserved c = let v = c.loop-b.invariant in record {
  written = rw (commas_more c.args.bytes.now c.loop-b.b-index c.loop-b-test.true, ← c.from.ensures) (puts_then v.written (puts_then c.put_byte.ensures c.put_decimal.ensures));
  short = omega (arith, c.put_byte.ensures.written.ends, c.put_decimal.ensures.written.ends, byte-length c.from.result (rw c.from.ensures (c.type_inv.bytes c.loop-b.b-index).fits));
}

pub put_byte-requires : goal.put_byte-requires
put_byte-requires c = omega arith

pub returns : goal.returns
returns c = record { written = rw (take_all c.loop-b.b-index c.args.bytes.now c.loop-b-test.false) at c.loop-b.invariant.written; short = omega arith }
