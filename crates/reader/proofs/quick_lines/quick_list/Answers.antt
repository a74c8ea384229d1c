-- `reader::quick_lines::quick_list` meets its contract: the cells are cleared, then each item that fits sets its own. The loop's invariant: of any
-- record that gave the one with the cells cleared, the items so far are read and stored. Assumes nothing.
use Prim.Native.Nat.{◌+◌, ℕ}
use lib.ListN.{length, replicate}
use lib.Seq.{sets, length-sets}
use mathlib.Core.List.{List}
use mathlib.Core.Path.{sym, ap, subst, ◌∙◌, ◌≡◌}
use native.Mathlib.Omega.{arith}
use Rattle.reader.specs.Lists.{unnamed, whole_list}
use Rattle.reader.specs.declared.lists.Kind.{Kind}
use Rattle.task_record.proofs.Rest.{part_rest}
use Rattle.reader.proofs.QuickLists.{Listing, list_begun, list_empty, list_more, list_done, fits_kept}
use Rattle.reader.proofs.quick_lines.quick_list.Goals as goal

-- the cells of the row are cleared

cleared : (rec new : List ℕ) (row u : ℕ) (kind : Kind) → new ≡ sets rec row (replicate 16 u) → u ≡ unnamed kind
    → new ≡ sets rec row (replicate 16 (unnamed kind))
cleared rec new row u kind e f = e ∙ ap (λ (u : ℕ). sets rec row (replicate 16 u)) f

pub returns-then-is_empty : goal.returns-then-is_empty
returns-then-is_empty c = let a = c.args in let e = c.is_empty.ensures c.if-is_empty.true in
    rw (part_rest a.s.now 1, cleared a.rec.now c.fill_row.new.self a.row.at c.unnamed.result a.kind c.fill_row.ensures.0 c.unnamed.ensures) (list_empty a.s.now a.kind a.rec.now a.row.at e.0 e.1 e.2)

pub loop-rest-init : goal.loop-rest-init
loop-rest-init c = let a = c.args in
    (omega arith, λ r e. subst (λ (x : List ℕ). Listing a.s.now a.kind r a.row.at x 0 a.s.now) (sym e) (list_begun a.s.now a.kind r a.row.at))

pub returns-then-is_whole : goal.returns-then-is_whole
returns-then-is_whole c = let a = c.args in
    let o = c.loop-rest in
    let l = o.invariant.1 a.rec.now (cleared a.rec.now c.fill_row.new.self a.row.at c.unnamed.result a.kind c.fill_row.ensures.0 c.unnamed.ensures) in
    let f = c.allows.ensures c.if-not-allows.false in
    let h = c.in_ok-item.ensures in
    let i = c.in_ok-item.item in
    let q = i.read in
    let n = length-sets a.rec.now a.row.at (replicate 16 c.unnamed.result) in
    let z = ap length c.fill_row.ensures.0 in
    let k = fits_kept a.rec.now o.rec a.row.at l.cells o.next q.variable q.value l.stored a.row.behind_sizes f.1 f.0 in
    rw (part_rest i.rest.now 1, c.store.ensures.0)
    (list_done a.s.now a.kind a.rec.now a.row.at o.rest.now i.rest.now o.next q.variable q.value o.rec l (h.2) k f.1 (omega (arith, n, z, c.fill_row.ensures.1, a.row.in_record)) h.0 c.if-c-eq-LINE_BREAK.true (ap (λ (n : ℕ). whole_list n a.kind (q.variable + 1)) (sym c.variables-n.ensures.0) ∙ sym c.is_whole.ensures ∙ c.if-is_whole.true))

pub loop-rest-preserved : goal.loop-rest-preserved
loop-rest-preserved c = let a = c.args in
    let o = c.loop-rest in
    let f = c.allows.ensures c.if-not-allows.false in
    let h = c.in_ok-item.ensures in
    let i = c.in_ok-item.item in
    let q = i.read in (
      omega (arith, f.1),
      λ r e. let m = o.invariant.1 r e in
          let n = length-sets r a.row.at (replicate 16 (unnamed a.kind)) in
          let z = ap length e in
          rw (part_rest i.rest.now 1, c.store.ensures.0)
          (list_more a.s.now a.kind r a.row.at o.rest.now i.rest.now o.next q.variable q.value o.rec m (h.2)
          (fits_kept r o.rec a.row.at m.cells o.next q.variable q.value m.stored a.row.behind_sizes f.1 f.0) f.1 (omega (arith, n, z, c.fill_row.ensures.1, a.row.in_record)) h.0 c.if-c-ne-COMMA.false),
    )
