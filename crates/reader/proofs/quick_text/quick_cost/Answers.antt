-- `reader::quick_text::quick_cost` meets its contract: the line with the cost, or none of it. Assumes nothing.
use mathlib.Core.Path.{◌∙◌, ◌≡◌, ap, sym}
use Prim.Native.Nat.{ℕ}
use lib.ListN.{set}
use lib.Seq.{get_or-set_other}
use native.Mathlib.Omega.{arith}
use Rattle.std.proofs.lemmas.Option.{IfSome_then}
use Rattle.task_record.specs.Layout.{at_cost}
use Rattle.reader.specs.Bytes.{bytes}
use Rattle.reader.specs.Grammar.{key_cost}
use Rattle.reader.specs.declared.order.Due.TheVariants.{Cost}
use Rattle.reader.proofs.Keys.{key_start}
use Rattle.reader.proofs.QuickLines.{leads_here, number_kept}
use Rattle.reader.proofs.QuickOrder.{cost_on, no-cost_leads}
use Rattle.reader.proofs.quick_text.quick_cost.Goals as goal

pub returns-then-starts_with : goal.returns-then-starts_with
unfolding bytes
returns-then-starts_with c =
    let a = c.args in
    let s = a.s.now in
    let r = a.rec.now in
    let r' = c.quick_number_line.new.rec in
    IfSome_then c.quick_number_line.result (rw (c.new.ensures, c.at_cost.ensures) at c.quick_number_line.ensures)
    (λ x h. (number_kept s key_cost 1 255 r (at_cost a.m) r' x.now h 1 (λ e. omega arith), cost_on (Cost a.m) r s s x.now r r' a.m (leads_here (Cost a.m) r s) h))

pub returns : goal.returns
unfolding bytes
returns c =
    let a = c.args in
    let s = a.s.now in
    let r = a.rec.now in
    let e : c.store.new.self ≡ set r (at_cost a.m) 1 = c.store.ensures.0 ∙ ap (λ (k : ℕ). set r k 1) c.at_cost-2.ensures in
    rw e (get_or-set_other r (at_cost a.m) 1 1 0 (λ z. omega arith), no-cost_leads a.m r s (sym (key_start key_cost s) ∙ sym c.starts_with.ensures.value ∙ c.if-starts_with.false))
