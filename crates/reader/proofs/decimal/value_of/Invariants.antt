-- `reader::decimal::value_of` meets its contract: the digits and the value of the whole are those of the rest, after what was read. Seven digits
-- keep it below a power of ten. Assumes nothing.
use Prim.Native.Nat.{◌<◌, ◌^◌}
use lib.ListN.{drop}
use mathlib.Core.Path.{◌≡◌}
use Rattle.reader.specs.Text.{digits, value}
use Rattle.reader.proofs.decimal.value_of.Given as goal

abbrev pub invariant-loop-b : goal.invariant-loop-b
invariant-loop-b l = (l.v < 10 ^ l.b-index) × (digits l.s ≡ digits (drop l.b-index l.s)) × (value 0 l.s ≡ value l.v (drop l.b-index l.s))
