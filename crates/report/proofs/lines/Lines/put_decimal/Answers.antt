-- `report::lines::Lines::put_decimal` meets its contract: the library's digits are those of the definition. Assumes nothing.
use native.Mathlib.Omega.{arith}
use Rattle.report.proofs.Decimals.{decimal_by_library}
use Rattle.report.proofs.lines.Lines.put_decimal.Goals as goal

pub returns : goal.returns
returns c = rw (decimal_by_library c.args.n (omega arith), ← c.format.ensures.text, ← c.as_bytes.ensures.value) c.put_word.ensures
