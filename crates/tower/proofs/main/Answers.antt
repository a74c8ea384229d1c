-- `tower::main` meets its contract: the lines never pass the output buffer, so all of them are written. Assumes nothing.
use mathlib.Core.List.{List}
use mathlib.Core.Path.{◌≡◌}
use Prim.Native.Nat.{ℕ, ◌+◌, ◌*◌, ◌≤◌}
use native.Mathlib.Omega.{arith}
use lib.ListN.{length, replicate, length-replicate}
use Rattle.tower.proofs.main.Goals as goal

-- Four bytes for each of the plan's and 256 more: a buffer that long holds the lines.

holds : (plan old new : List ℕ) (n m end : ℕ) → length plan ≡ n → length old ≡ m → length new ≡ length old → 4 * n + 256 ≤ m → end ≤ 4 * length plan + 256 → end ≤ length new
holds plan old new n m end p o k l e = omega arith

pub slice_bounds-out-end : goal.slice_bounds-out-end
slice_bounds-out-end c = holds (replicate 65536 0) (replicate 262400 0) c.report_text-end.new.out 65536 262400 _ (length-replicate {A = ℕ} 65536 0) (length-replicate {A = ℕ} 262400 0) c.report_text-end.auto.out (omega arith) c.report_text-end.ensures.4
