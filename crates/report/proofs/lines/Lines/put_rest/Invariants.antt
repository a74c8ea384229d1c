-- `put_rest`: the first numbers are written, each in at most four bytes. Assumes nothing.
use Prim.Native.Nat.{◌+◌, ◌*◌, ◌≤◌}
use lib.ListN.{take}
use Rattle.report.specs.Lines.{comma_before}
use Rattle.report.specs.Writing.{Puts}
use Rattle.report.proofs.lines.Lines.put_rest.Given as goal

abbrev pub invariant-loop-b : goal.invariant-loop-b
invariant-loop-b l = record {
  written : Puts (comma_before (take l.b-index l.bytes)) l.initial.self l.self;
  short : l.self.at ≤ l.initial.self.at + 4 * l.b-index;
}
