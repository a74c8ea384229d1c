-- `reader::store::fill` meets its contract: the part that is filled is put back. Assumes nothing.
use Prim.Native.Nat.{◌-◌, ◌+◌, ℕ}
use lib.ListN.{drop, length, length-drop, replicate, take}
use lib.Seq.{length-take-le, sets}
use mathlib.Core.Path.{◌∙◌, ◌≡◌, ap}
use native.Mathlib.Omega.{arith}
use Rattle.reader.proofs.Stores.{part_stored}
use Rattle.reader.proofs.store.fill.Goals as goal

pub returns : goal.returns
returns c =
    let a = c.args in
    let r = a.r.now in
    let n = length-drop a.at r in
    let e : length (take (a.at + a.n - a.at) (drop a.at r)) ≡ a.n = length-take-le _ _ (omega (arith, n, c.requires)) ∙ omega arith in
    let f = c.fill.ensures.after (λ y h. h) ∙ ap (λ (k : ℕ). replicate k a.x) e in
    part_stored r c.fill.new.self a.at a.n (c.fill.ensures.len ∙ e) c.requires ∙ ap (sets r a.at) f
