-- `reader::store::put_cells` meets its contract: the part that the cells reach is put back. Assumes nothing.
use Prim.Native.Nat.{◌-◌, ◌+◌}
use lib.ListN.{drop, length, length-drop, take}
use lib.Seq.{length-take-le, sets}
use mathlib.Core.Path.{◌∙◌, ◌≡◌, ap, sym}
use native.Mathlib.Omega.{arith}
use Rattle.reader.proofs.Stores.{part_stored, sets_fit, sets_out}
use Rattle.reader.proofs.store.put_cells.Goals as goal

pub returns-then-at-r : goal.returns-then-at-r
returns-then-at-r c =
    let a = c.args in
    let r = a.r.now in
    let n = c.min-n.result in
    let m = c.min-n.ensures in
    let d = length-drop a.at r in
    let e : length (take (a.at + n - a.at) (drop a.at r)) ≡ n = length-take-le _ _ (omega (arith, d, m, c.if-at-r.true)) ∙ omega arith in
    part_stored r c.copy_from_slice.new.self a.at n (c.copy_from_slice.ensures.len ∙ e) (omega (arith, m, c.if-at-r.true))
    ∙ ap (sets r a.at) c.copy_from_slice.ensures.after
    ∙ sets_fit a.cells.now r a.at n (λ l. omega (arith, m))

pub returns-else-at-r : goal.returns-else-at-r
returns-else-at-r c = sym (sets_out c.args.cells.now c.args.r.now c.args.at c.if-at-r.false)
